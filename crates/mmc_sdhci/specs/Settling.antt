-- Waiting for what settles, and for the card to start.
use Rattle.std.specs.Prelude.{None, Some, true, ℕ, ◌≡◌}
use Rattle.mmc_sdhci.specs.Controller.{ControllerView, Settled, clock_runs, is_settled}
use Rattle.mmc_sdhci.specs.Moving.{WhereKept}

abbrev pub IsResetting : ControllerView → Type 0
IsResetting view = WhereKept view ((waited : ℕ) × (view.resetting ≡ Some waited))

abbrev pub ResetEnds : ControllerView → ControllerView → Type 0
ResetEnds old new = Settled old (new ≡ record old { resetting = None }) new

abbrev pub IsStabilizing : ControllerView → Type 0
IsStabilizing view =
    WhereKept view ((view.resetting ≡ None) × ((waited : ℕ) × (view.settings.stabilizing ≡ Some waited)))

abbrev pub Stabilizes : ControllerView → ControllerView → Type 0
Stabilizes old new = Settled old (new ≡ record old { settings = record old.settings { stabilizing = None } }) new

-- nothing settles, and the card's clock runs
abbrev pub IsClocked : ControllerView → Type 0
IsClocked view = WhereKept view ((is_settled view ≡ true) × (clock_runs view.settings.clock ≡ true))

-- the card has started
abbrev pub PowersUp : ControllerView → ControllerView → Type 0
PowersUp old new = Settled old (new ≡ record old { settings = record old.settings { starting = None } }) new
