-- CMD23 before the command of a run.
use Rattle.std.proofs.Common.{◌&&◌, ◌<◌, ◌∙◌, ◌≡◌, ◌≤◌, Bool, List, arith, false, refl, subst, sym, true, ℕ}
use Rattle.std.specs.Prelude.{◌==◌, IsErr, IsTrue, Ok, Option, Result, Some, if◌then◌else◌, nat_lt}
use Rattle.std.proofs.lemmas.Bool.Decides.{nat_tests}
use Rattle.mmc_frame.specs.Field.{field}
use Rattle.mmc_frame.specs.declared.kind.Kind.{Kind}
use Rattle.mmc_card.specs.BusView.{BusView}
use Rattle.mmc_card.specs.Card.{NoAddress}
use Rattle.mmc_card.specs.Laws.{IsStill}
use Rattle.mmc_card.specs.Made.{is_sd}
use Rattle.mmc_card.specs.RowsTransfer.{preset_to}
use Rattle.mmc_card.specs.Sectors.{Sector}
use Rattle.mmc_bus.specs.Work.{Narrows, Worked}
use Rattle.mmc_bus.specs.declared.cause.Cause.{Cause}
use Rattle.mmc_switch.proofs.UnderWayLemmas.{no_error, quiet_by, still_idle}
use Rattle.mmc_transfer.proofs.StepLemmas.{for_both, from_both, fails, goes_there}
use Rattle.mmc_transfer.specs.Commands.{CanPreset}
use Rattle.mmc_transfer.specs.Running.{Exact, IsIn, Turned, preset_of}
use Rattle.mmc_switch.specs.UnderWay.{IsIdle}
use Rattle.mmc_transfer.specs.declared.job.Job.{Job}
use Rattle.mmc_transfer.specs.declared.job.TheConstants.{MAX_BLOCKS}
use Rattle.mmc_transfer.specs.declared.phase.Phase.{Phase}
use Rattle.mmc_transfer.specs.declared.phase.Phase.TheVariants.{Other}
use Rattle.mmc_transfer.specs.declared.phase.Step.TheVariants.{Command, Preset}

-- what presetting a count does
abbrev pub Presets : Kind → ℕ → Bool → BusView → BusView → Type 0
Presets kind count ok =
    Worked Narrows (λ old new. ok ≡ true → IsStill old.card → old.card.erase ≡ NoAddress → new.card ≡ preset_to old.card count)
    (λ old new. CanPreset kind old.card → ok ≡ true)

-- The count that the card has then.

knows_by : (b : Bool) (n : ℕ) → IsTrue (b && nat_lt 1 n) → (b ≡ true) × (1 < n)
knows_by true n fits = (refl, grind (arith, nat_tests))
knows_by false n fits = cc

count_by : (sd b : Bool) (n : ℕ) → b ≡ true → 1 < n → n ≤ MAX_BLOCKS
    → (if sd then n else field 15 0 n) ≡ (if n == 1 then 0 else if b then n else 0)
count_by true true n knows many few = let several : (n == 1) ≡ false = grind (arith, nat_tests) in rw several refl
count_by false true n knows many few =
    let several : (n == 1) ≡ false = grind (arith, nat_tests) in rw several (omega (arith, few))
count_by sd false n knows many few = cc

module _ (job : Job) (blocks : List Sector) (faults : ℕ) (kind : Kind) (a b : BusView)
    (of_kind : kind ≡ job.session.info.kind) (fits : IsTrue (job.session.info.cmd23 && nat_lt 1 job.count)) (at : IsIn job blocks (Other Preset) faults a) where
  -- the exact card can preset it
  can_preset : Exact job blocks (Other Preset) a.card → CanPreset kind a.card
  can_preset exact =
      let idle : IsIdle 0 a.card = from_both job.way exact in
      record {
        obeys = record {
          is_still = still_idle 0 a.card idle;
          is_kind = sym at.under_way.knows.info.kind ∙ sym of_kind;
          tran = idle.quiet.state;
          erase = idle.quiet.erase;
          no_error = no_error kind 0 a.card idle.quiet;
        };
        knows = at.under_way.knows.info.cmd23 (knows_by job.session.info.cmd23 job.count fits).0;
      }

  pub preset_fails : (result : Result (Option Phase) Cause) → IsErr result → Presets kind job.count false a b
      → Turned job blocks faults a result b
  preset_fails result err work =
      fails job blocks (Other Preset) faults a b at work result err
      (λ exact same. cc (work.fine same (can_preset exact)))

  -- it has done so
  is_preset : IsIdle 0 a.card → IsIdle (preset_of job) (preset_to a.card job.count)
  is_preset idle =
      let knows = knows_by job.session.info.cmd23 job.count fits in
      record {
        quiet = quiet_by idle.quiet.state refl refl refl refl (count_by (is_sd a.card.made.kind) job.session.info.cmd23 job.count knows.0 knows.1 job.few) idle.quiet.erase;
        rests = idle.rests;
      }

  pub preset_goes_on : Presets kind job.count true a b → Turned job blocks faults a (Ok (Some (Other Command))) b
  preset_goes_on work =
      goes_there job blocks (Other Preset) faults a b at work (Other Command) tt
      (λ exact. let idle : IsIdle 0 a.card = from_both job.way exact in
      for_both job.way (subst (IsIdle (preset_of job)) (sym (work.own refl (still_idle 0 a.card idle) idle.quiet.erase)) (is_preset idle))) tt
