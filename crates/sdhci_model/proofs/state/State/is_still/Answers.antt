use Rattle.std.proofs.Common.{◌≡◌, Bool, ap, false, refl, true}
use Rattle.std.specs.Prelude.{◌&&◌, not}
use Rattle.mmc_sdhci.specs.Controller.{is_settled}
use Rattle.sdhci_model.specs.Shown.{shown}
use Rattle.sdhci_model.proofs.state.State.is_still.Goals as goal

twice : (b : Bool) → b ≡ not (not b)
twice true = refl
twice false = refl

pub returns : goal.returns
returns c outcome =
    rw (c.both.ensures, c.is_settled.ensures outcome, c.is_none.ensures)
    (ap (λ (b : Bool). is_settled (shown outcome c.args.self.now) && b) (twice c.is_none.result))
