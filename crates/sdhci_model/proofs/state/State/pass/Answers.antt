use Rattle.std.proofs.Common.{◌∙◌, None, Option, ap, sym, ℕ}
use Rattle.mmc_sdhci.specs.Accesses.{passed_for, starting_after}
use Rattle.mmc_sdhci.specs.Controller.{ControllerView}
use Rattle.sdhci_model.specs.Shown.{shown}
use Rattle.sdhci_model.proofs.state.State.pass.Goals as goal

abbrev with_start : ControllerView → Option ℕ → ControllerView
with_start view starting = record view { settings = record view.settings { starting = starting } }

pub returns-in-Some-starting_after : goal.returns-in-Some-starting_after
returns-in-Some-starting_after c is outcome =
    let before = shown outcome c.args.self.now in
    ap (λ (o : Option ℕ). with_start before o)
    (c.in-Some-starting_after.ensures outcome
    ∙ ap (λ (o : Option ℕ). starting_after before o c.args.micros) (sym c.in-Some-starting.is))
    ∙ sym (ap (λ (o : Option ℕ). passed_for before o before.settings.stabilizing c.args.micros) c.in_default.is
    ∙ ap (λ (o : Option ℕ). passed_for before None o c.args.micros) c.in_default-stabilizing.is)
