use Rattle.sdhci_model.proofs.Accessing.{shows_word}
use Rattle.sdhci_model.proofs.engine.Engine.read32.Goals as goal

pub returns-in-32 : goal.returns-in-32
returns-in-32 g c =
    shows_word g.S.HasStory.story c.args.self.now.diary.past c.args.self.now.state c.pop.new.self c.args.offset c.pop.result
    c.in-32.is c.pop.ensures.sound c.pop.ensures.pops
