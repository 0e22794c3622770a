use Rattle.sdhci_model.proofs.Coming.{reads_moved}
use Rattle.sdhci_model.proofs.Going.{writes_moved}
use Rattle.sdhci_model.proofs.engine.Engine.see_moving.Goals as goal

pub returns-in-Read : goal.returns-in-Read
returns-in-Read g c =
    reads_moved g.S.HasStory.story c.args.self.now.diary.past c.see_reads.new.self.diary.past c.args.self.now.state
    c.see_reads.new.self.state c.see_reads.result c.in-Read.length c.in-Read.blocks c.in-Read.is c.see_reads.ensures

pub returns-in-Write : goal.returns-in-Write
returns-in-Write g c =
    writes_moved g.S.HasStory.story c.args.self.now.diary.past c.see_writes.new.self.diary.past c.args.self.now.state
    c.see_writes.new.self.state c.see_writes.result c.in-Write.blocks c.in-Write.is c.see_writes.ensures
