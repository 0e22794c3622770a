use Rattle.std.proofs.Common.{◌∙◌, sym}
use Rattle.sdhci_model.proofs.engine.Engine.write32.Goals as goal

pub returns-else-not-write-clause-judged : goal.returns-else-not-write-clause-judged
returns-else-not-write-clause-judged g c outcome sound = sym (c.may_write.ensures outcome) ∙ c.if-not-may_write.false
