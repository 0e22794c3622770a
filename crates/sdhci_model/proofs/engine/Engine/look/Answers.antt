use Rattle.sdhci_model.proofs.Commanding.{looks}
use Rattle.sdhci_model.proofs.engine.Engine.look.Goals as goal

pub returns-in-Some : goal.returns-in-Some
returns-in-Some g c =
    looks g.S.HasStory.story c.args.self.now.diary.past c.see_command.new.self.diary.past c.args.self.now.state
    c.see_command.new.self.state c.in-Some.run' c.see_command.result c.in-Some.is c.see_command.ensures
