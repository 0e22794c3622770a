use Rattle.std.proofs.Common.{◌∙◌, sym}
use Rattle.sdhci_model.proofs.Going.{writes_end}
use Rattle.sdhci_model.proofs.engine.Engine.see_writes.Goals as goal

pub returns-then-is_accepted : goal.returns-then-is_accepted
returns-then-is_accepted g c =
    writes_end g.S.HasStory.story c.args.self.now.diary.past c.send_blocks-got.new.self.diary.past c.args.self.now.state
    c.send_blocks-got.new.self.state c.end_write.new.self c.args.blocks c.requires (c.send_blocks-got.ensures.gone (sym c.is_accepted.ensures ∙ c.if-is_accepted.true)) c.send_blocks-got.ensures.state c.end_write.ensures
