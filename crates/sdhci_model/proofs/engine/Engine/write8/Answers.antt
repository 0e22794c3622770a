use Rattle.std.proofs.Common.{◌∙◌, sym}
use Rattle.sdhci_model.proofs.engine.Engine.write8.Goals as goal

pub returns-in-40-clause-judged : goal.returns-in-40-clause-judged
returns-in-40-clause-judged g c outcome sound = sym (c.may_write8.ensures outcome) ∙ c.if-not-may_write8.false

pub returns-in-41-clause-judged : goal.returns-in-41-clause-judged
returns-in-41-clause-judged g c outcome sound = sym (c.may_write8.ensures outcome) ∙ c.if-not-may_write8.false

pub returns-in_default-clause-judged : goal.returns-in_default-clause-judged
returns-in_default-clause-judged g c outcome sound = sym (c.may_write8.ensures outcome) ∙ c.if-not-may_write8.false
