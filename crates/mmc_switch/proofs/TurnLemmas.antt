-- A turn of work in phases: what it leaves, from what its exchange did.
use Rattle.std.proofs.Common.{refl, ℕ}
use Rattle.std.specs.Prelude.{Err, None, Ok, Option, Result, Some}
use Rattle.mmc_card.proofs.SectorLemmas.{old_maybe}
use Rattle.mmc_card.specs.BusView.{BusView}
use Rattle.mmc_card.specs.Card.{Card, holds}
use Rattle.mmc_card.specs.Faults.{NoFault}
use Rattle.mmc_card.specs.Sectors.{Change, Within, maybe_changed}
use Rattle.mmc_bus.specs.Work.{Narrows, Worked}
use Rattle.mmc_bus.specs.declared.cause.Cause.{Cause}
use Rattle.mmc_switch.proofs.UnderWayLemmas.{goes_on, has_failed}
use Rattle.mmc_switch.specs.Turns.{Leaves, LeftIn, Makes}
use Rattle.mmc_switch.specs.UnderWay.{IsUnderWay, Turn, broken_off}
use Rattle.mmc_switch.specs.declared.progress.Progress.{Progress}
use Rattle.mmc_switch.specs.declared.progress.Progress.TheVariants.{Done, Failed, More}
use Rattle.mmc_switch.specs.declared.session.Session.{Session}

-- what no exchange lets a sector hold more, no change does
pub no_more : {Own Fine : BusView → BusView → Type 0} (change : Change) (a b : BusView) → Worked Narrows Own Fine a b
    → Within (holds b.card) (maybe_changed change (holds a.card))
no_more change a b work part sector value h =
    old_maybe change (holds a.card) part sector value (work.sectors part sector value h)

module _ {P : Type 0} {Own Fine : BusView → BusView → Type 0} (session : Session) (change : Change)
    (Shown Exact : P → Card → Type 0) (IsDone : Card → Type 0) (phase : P) (faults : ℕ) (a b : BusView)
    (at : IsUnderWay session (Shown phase) (Exact phase) faults a) (work : Worked Narrows Own Fine a b) where
  abbrev Turned : Result (Option P) Cause → Type 0
  Turned result =
      Turn change (LeftIn session (λ next. IsUnderWay session (Shown next) (Exact next)) IsDone result) faults a b

  -- it fails, which it can't without a fault
  pub turn_fails : (cause : Cause) → (Exact phase a.card → NoFault a b → ⊥) → Turned (Err cause)
  turn_fails cause calm = record {
    stays = work.stays;
    within = no_more change a b work;
    left = has_failed session (Shown phase) (Exact phase) faults a b at work (broken_off session cause) refl calm;
  }

  -- the work goes on, and by what is shown in the next phase the card was exactly in this one
  pub turn_goes_on : (next : P) → (Shown next b.card → Shown phase a.card)
      → (Exact phase a.card → Shown next b.card → Exact next b.card)
      → (Exact phase a.card → NoFault a b → Exact next b.card) → Turned (Ok (Some next))
  turn_goes_on next shows comes calm = record {
    stays = work.stays;
    within = no_more change a b work;
    left = goes_on session (Shown phase) (Exact phase) faults a b at work (Shown next) (Exact next) shows comes calm;
  }

  -- the exchange itself has shown it
  pub turn_goes_there : (next : P) → Shown phase a.card → (Exact phase a.card → Exact next b.card)
      → Turned (Ok (Some next))
  turn_goes_there next shown comes = turn_goes_on next (λ s. shown) (λ exact s. comes exact) (λ exact same. comes exact)

-- What an exchange leaves is what its turn leaves.
pub turn_leaves : {P R : Type 0} (session : Session) (change : Change) (IsIn : P → ℕ → BusView → Type 0)
    (IsRunning : R → ℕ → BusView → Type 0) (IsDone : Card → Type 0) (IsNext : P → R → Type 0)
    → ((phase : P) (run : R) (faults : ℕ) (view : BusView) → IsNext phase run → IsIn phase faults view
    → IsRunning run faults view) → (outcome : Result (Option P) Cause) (result : Progress R)
    → Makes session IsNext outcome result → (faults : ℕ) (old new : BusView)
    → Turn change (LeftIn session IsIn IsDone outcome) faults old new
    → Turn change (Leaves IsRunning IsDone result) faults old new
turn_leaves {P = P} {R = R} session change IsIn IsRunning IsDone IsNext runs outcome result makes faults old new t =
    record { stays = t.stays; within = t.within; left = leaves outcome result makes _ new t.left } where
      leaves : (outcome : Result (Option P) Cause) (result : Progress R) → Makes session IsNext outcome result → (faults : ℕ)
          (view : BusView) → LeftIn session IsIn IsDone outcome faults view → Leaves IsRunning IsDone result faults view
      leaves (Ok (Some phase)) (More run) makes faults view left = runs phase run faults view makes left
      leaves (Ok (Some phase)) (Done same) makes faults view left = absurd makes
      leaves (Ok (Some phase)) (Failed broken) makes faults view left = absurd makes
      leaves (Ok None) (More run) makes faults view left = absurd makes
      leaves (Ok None) (Done same) makes faults view left = rw makes left
      leaves (Ok None) (Failed broken) makes faults view left = absurd makes
      leaves (Err cause) (More run) makes faults view left = absurd makes
      leaves (Err cause) (Done same) makes faults view left = absurd makes
      leaves (Err cause) (Failed broken) makes faults view left = rw makes left
