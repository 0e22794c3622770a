use Rattle.std.proofs.Common.{◌∙◌, ap, leb}
use Rattle.sdhci_model.proofs.Lengths.{left}
use Rattle.sdhci_model.proofs.state.State.is_taken.Goals as goal

pub returns : goal.returns
returns c = ap (λ n. leb n c.args.self.now.taken) c.len.ensures.value ∙ left c.args.self.now.taken c.args.self.now.block.items
