use Rattle.sdhci_model.proofs.Coming.{reads_end}
use Rattle.sdhci_model.proofs.engine.Engine.see_reads.Goals as goal

pub returns-in-Ok : goal.returns-in-Ok
returns-in-Ok g c =
    reads_end g.S.HasStory.story c.args.self.now.diary.past c.fetch_blocks.new.self.diary.past c.args.self.now.state
    c.fetch_blocks.new.self.state c.end_read.new.self c.args.length c.args.blocks c.in-Ok.come c.requires c.in-Ok.ensures.full
    c.in-Ok.ensures.come c.in-Ok.ensures.state c.end_read.ensures
