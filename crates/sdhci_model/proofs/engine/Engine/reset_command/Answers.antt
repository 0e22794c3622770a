use Rattle.std.proofs.Common.{refl}
use Rattle.sdhci_model.proofs.Accessing.{resets_command}
use Rattle.sdhci_model.proofs.Commanding.{drops}
use Rattle.sdhci_model.proofs.engine.Engine.reset_command.Goals as goal

pub returns-in-None : goal.returns-in-None
returns-in-None g c =
    resets_command g.S.HasStory.story c.args.self.now.diary.past c.args.self.now.state c.reset_command.new.self 2 refl
    c.in-None.is c.reset_command.ensures

pub returns-in-Some : goal.returns-in-Some
returns-in-Some g c =
    drops g.S.HasStory.story c.args.self.now.diary.past c.lose_command.new.self.diary.past c.args.self.now.state
    c.lose_command.new.self.state c.drop_command.new.self c.in-Some.run' c.in-Some.is c.lose_command.ensures.past
    c.lose_command.ensures.state c.drop_command.ensures
