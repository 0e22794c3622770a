use Rattle.sdhci_model.proofs.Moving.{reads}
use Rattle.sdhci_model.proofs.engine.Engine.see_data.Goals as goal

pub returns-in-Read : goal.returns-in-Read
returns-in-Read g c =
    reads g.S.HasStory.story c.args.self.now.diary.past c.see_read.new.self.diary.past c.args.self.now.state
    c.see_read.new.self.state c.see_read.result c.in-Read.length c.in-Read.blocks c.in-Read.is c.see_read.ensures
