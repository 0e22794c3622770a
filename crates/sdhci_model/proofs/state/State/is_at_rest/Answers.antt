use Rattle.std.proofs.Common.{◌∙◌, arith, sym}
use Rattle.sdhci_model.proofs.Accessing.{rest_of}
use Rattle.sdhci_model.proofs.state.State.is_at_rest.Goals as goal

pub returns : goal.returns
returns c outcome =
    c.is_still.ensures outcome
    ∙ sym (rest_of outcome c.args.self.now (sym c.is_some.ensures ∙ c.if-is_some.false) c.if-self.false c.if-self-2.false
    c.if-self-3.false (omega arith) c.if-self-4.false)
