-- A turn that moves no block: what it leaves, from what its exchange did.
use Rattle.std.proofs.Common.{◌∙◌, ◌≡◌, List, ap, arith, length, refl, subst, sym, take, ℕ}
use Rattle.std.proofs.lemmas.List.{take_all}
use Rattle.std.specs.Prelude.{Err, IsErr, IsTrue, Ok, Option, Result, Some}
use Rattle.mmc_card.specs.BusView.{BusView}
use Rattle.mmc_card.specs.Faults.{NoFault}
use Rattle.mmc_card.specs.Sectors.{Sector}
use Rattle.mmc_bus.specs.Work.{Narrows, Worked}
use Rattle.mmc_bus.specs.declared.cause.Cause.{Cause}
use Rattle.mmc_switch.proofs.TurnLemmas.{turn_fails, turn_goes_on}
use Rattle.mmc_transfer.specs.Fits.{step_fits}
use Rattle.mmc_transfer.specs.Running.{Exact, HasEffect, IsIn, IsPlaced, Shown, Turned, by_way, change_of, written}
use Rattle.mmc_transfer.specs.declared.job.Job.{Job}
use Rattle.mmc_transfer.specs.declared.phase.Phase.{Phase}
use Rattle.mmc_transfer.specs.declared.phase.Phase.TheVariants.{Other}
use Rattle.mmc_transfer.specs.declared.phase.Step.{Step}
use Rattle.mmc_transfer.specs.declared.way.Way.{Way}
use Rattle.mmc_transfer.specs.declared.way.Way.TheVariants.{Read, Write}

-- What is so for both ways.

pub for_both : {X : Type 0} (way : Way) → X → by_way way X X
for_both Read x = x
for_both Write x = x

pub from_both : {X : Type 0} (way : Way) → by_way way X X → X
from_both Read x = x
from_both Write x = x

-- each way by itself
pub each_way : {R W S T : Type 0} (way : Way) → (way ≡ Read → R → S) → (way ≡ Write → W → T) → by_way way R W
    → by_way way S T
each_way Read read write x = read refl x
each_way Write read write x = write refl x

pub either_way : {R W X : Type 0} (way : Way) → (way ≡ Read → R → X) → (way ≡ Write → W → X) → by_way way R W → X
either_way Read read write x = read refl x
either_way Write read write x = write refl x

-- what holds of a write
pub of_write : (way : Way) (P Q : Type 0) → way ≡ Write → by_way way P Q → Q
of_write Read P Q is h = cc
of_write Write P Q is h = h

-- a write changes its sectors to all its blocks
pub all_written : (job : Job) (blocks : List Sector) → length blocks ≡ job.count → job.way ≡ Write
    → take job.count blocks ≡ (change_of job blocks).values
all_written job blocks all writes =
    take_all job.count blocks (omega (arith, all)) ∙ sym (ap (λ way. written way blocks) writes)

-- A turn, from what its exchange did.
module _ {Own Fine : BusView → BusView → Type 0} (job : Job) (blocks : List Sector) (phase : Phase) (faults : ℕ)
    (a b : BusView) (at : IsIn job blocks phase faults a) (work : Worked Narrows Own Fine a b) where
  -- it fails, which it can't without a fault
  pub fails : (result : Result (Option Phase) Cause) → IsErr result → (Exact job blocks phase a.card → NoFault a b → ⊥)
      → Turned job blocks faults a result b
  fails (Ok next) not calm = cc
  fails (Err cause) not calm =
      turn_fails job.session (change_of job blocks) (Shown job.way) (Exact job blocks) (HasEffect job blocks) phase faults
      a b at.under_way work cause calm

  -- the run goes on, and by what is shown in the next phase the card was exactly in this one
  pub goes_on : (next : Phase) → (Shown job.way next b.card → Shown job.way phase a.card)
      → (Exact job blocks phase a.card → Shown job.way next b.card → Exact job blocks next b.card)
      → (Exact job blocks phase a.card → NoFault a b → Exact job blocks next b.card) → IsPlaced job next b.card
      → Turned job blocks faults a (Ok (Some next)) b
  goes_on next shows comes calm placed =
      let t = turn_goes_on job.session (change_of job blocks) (Shown job.way) (Exact job blocks) (HasEffect job blocks)
      phase faults a b at.under_way work next shows comes calm in
      record { stays = t.stays; within = t.within; left = record { under_way = t.left; placed = placed } }

  -- the exchange itself has shown it
  pub goes_there : (next : Phase) → Shown job.way phase a.card
      → (Exact job blocks phase a.card → Exact job blocks next b.card) → IsPlaced job next b.card
      → Turned job blocks faults a (Ok (Some next)) b
  goes_there next shown comes placed =
      goes_on next (λ s. shown) (λ exact s. comes exact) (λ exact same. comes exact) placed

-- the step by its name
pub in_step : (job : Job) (blocks : List Sector) (faults : ℕ) (view : BusView) {step other : Step} → step ≡ other
    → IsIn job blocks (Other step) faults view → IsIn job blocks (Other other) faults view
in_step job blocks faults view is at = subst (λ step. IsIn job blocks (Other step) faults view) is at

-- and that it is a step of this run
pub fits_as : (job : Job) {step other : Step} → step ≡ other
    → IsTrue (step_fits job.count job.session.info.cmd23 step) → IsTrue (step_fits job.count job.session.info.cmd23 other)
fits_as job is fits = subst (λ step. IsTrue (step_fits job.count job.session.info.cmd23 step)) is fits
