-- What ends a run: polls after what ended the transfer, and CMD13.
use Rattle.std.proofs.Common.{List, ℕ, ◌+◌, ◌<◌, ◌≡◌, [], arith, length, refl, subst, sym}
use Rattle.std.specs.Prelude.{Err, IsErr, IsSomeAnd, MatchOption, None, Ok, Option, Result, Some, slice_index_or}
use Rattle.mmc_frame.specs.declared.card_state.State.TheVariants.{Tran}
use Rattle.mmc_card.proofs.SectorLemmas.{at_in, cond_in_old}
use Rattle.mmc_card.specs.Blocks.{rested, waited}
use Rattle.mmc_card.specs.BusView.{BusView}
use Rattle.mmc_card.specs.Card.{Card, holds, known, patience, stored, unfinished}
use Rattle.mmc_card.specs.Sectors.{AreRead, Sector, touches, value_of}
use Rattle.mmc_bus.specs.declared.cause.Cause.{Cause}
use Rattle.mmc_switch.proofs.EndingLemmas.{CanEnd, EndingTurned, ProgramLaw, change_ends, ending_turned, for_any_cause}
use Rattle.mmc_switch.proofs.EndingLemmas.{busy_still, idle_after, idle_shown, lags_on, rested_in}
use Rattle.mmc_switch.proofs.UnderWayLemmas.{quiet_by, room_is}
use Rattle.mmc_switch.specs.Ending.{EndingDid}
use Rattle.mmc_switch.specs.Place.{IsReady}
use Rattle.mmc_switch.specs.UnderWay.{IsQuiet, part_of}
use Rattle.mmc_switch.specs.declared.ending.Ending.{Ending}
use Rattle.mmc_switch.specs.declared.ending.Ending.TheVariants.{Confirm}
use Rattle.mmc_transfer.proofs.StepLemmas.{each_way, either_way}
use Rattle.mmc_transfer.specs.Running.{AreStored, Exact, HasEffect, HasStopped, IsIn, Turned, change_of}
use Rattle.mmc_transfer.specs.declared.job.Job.{Job}
use Rattle.mmc_transfer.specs.declared.phase.Phase.{Phase}
use Rattle.mmc_transfer.specs.declared.phase.Phase.TheVariants.{Other}
use Rattle.mmc_transfer.specs.declared.phase.Step.{Step}
use Rattle.mmc_transfer.specs.declared.phase.Step.TheVariants.{End}

-- A card that sent blocks, and may be busy: a poll is answered yes or no.
quiet_waited : (card : Card) → IsQuiet Tran 0 card → IsQuiet Tran 0 (waited card)
quiet_waited card quiet =
    quiet_by quiet.state quiet.app quiet.command_errors quiet.errors quiet.switch_error quiet.count quiet.erase

quiet_rested : (job : Job) (blocks : List Sector) (polls : ℕ) (card : Card) → IsQuiet Tran 0 card
    → (card.polled < patience → card.polled ≡ polls)
    → AreStored job.count job blocks card
    → HasStopped (Confirm polls) (rested card) × AreStored job.count job blocks (rested card)
quiet_rested job blocks polls card quiet counts are =
    subst (λ next. HasStopped (Confirm polls) next × AreStored job.count job blocks next)
    (sym (rested_in Tran card quiet.state)) (
      (
        record {
          quiet = quiet_by quiet.state quiet.app quiet.command_errors quiet.errors quiet.switch_error quiet.count quiet.erase;
          rests = refl;
        },
        λ lags few. counts few,
      ),
      are,
    )

-- where a run ends
can_end : (job : Job) (blocks : List Sector)
    → CanEnd job.session (λ ending card. Exact job blocks (Other (End ending)) card)
can_end job blocks =
    let writes = change_ends job.session (change_of job blocks) refl in
    record {
      busy = λ polls card exact busy.
          either_way job.way (λ reads stopped. stopped.0.1 busy)
          (λ is ending. writes.busy polls card ending busy) exact;
      yes = λ polls card exact busy.
          each_way job.way
          (λ reads stopped. (
            (
              quiet_waited card stopped.0.0,
              λ yes. busy_still polls card (stopped.0.1 busy),
              (busy_still polls card (stopped.0.1 busy)).polled,
            ),
            stopped.1,
          ))
          (λ is ending. writes.yes polls card ending busy) exact;
      no = λ programs polls card exact fits part.
          each_way job.way (λ reads stopped. quiet_rested job blocks polls card stopped.0.0 stopped.0.2 stopped.1)
          (λ is ending. writes.no programs polls card ending fits part) exact;
      works = λ waits card new exact shows none unset counts.
          each_way job.way
          (λ reads stopped. (
            (idle_after card new shows none unset stopped.0.0, lags_on waits card new stopped.0.1 counts),
            subst (AreStored job.count job blocks) (sym shows) stopped.1,
          ))
          (λ is ending. writes.works waits card new ending shows none unset counts) exact;
      idle = λ waits card exact.
          either_way job.way (λ reads stopped. stopped.0.0) (λ is ending. writes.idle waits card ending) exact;
      lags = λ waits card exact.
          either_way job.way (λ reads stopped. stopped.0.1) (λ is ending. writes.lags waits card ending) exact;
      shows = λ waits card exact.
          each_way job.way (λ reads stopped. ((idle_shown card stopped.0.0, λ lags few. cc lags), stopped.1))
          (λ is ending. writes.shows waits card ending) exact;
    }

module _ (job : Job) (blocks : List Sector) (all : length blocks ≡ job.count) (faults : ℕ) (ending : Ending)
    (a b : BusView) (programs : ProgramLaw) (at : IsIn job blocks (Other (End ending)) faults a) where
  ended : (result : Result (Option Ending) Cause) → EndingDid job.session ending a result b
      → EndingTurned job.session (change_of job blocks) (λ next card. Exact job blocks (Other (End next)) card) faults a
      result b
  ended result did =
      ending_turned job.session (change_of job blocks) (λ next card. Exact job blocks (Other (End next)) card)
      (can_end job blocks) job.selected faults a b programs ending at.under_way result did

  -- what was read is what the sectors hold
  are_read : IsReady job.session b → AreStored job.count job blocks b.card
      → AreRead (holds b.card) (part_of job.session) job.start blocks
  are_read ready are_stored i less =
      let part = part_of job.session in
      let some = job.some in
      let fits = job.inside in
      let room = room_is job.session b ready.is_card.sizes ready.knows (omega (arith, some, fits)) in
      cond_in_old (touches (unfinished b.card) part (job.start + i)) (value_of (unfinished b.card) (job.start + i))
      (known b.card part (job.start + i)) (slice_index_or blocks i [])
      (at_in (stored b.card part) (job.start + i) (slice_index_or blocks i [])
      (omega (arith, fits, room, less, all)) (are_stored i (omega (arith, less, all))))

  has_effect : IsReady job.session b → Exact job blocks (Other (End (Confirm 0))) b.card → HasEffect job blocks b.card
  has_effect ready exact =
      each_way job.way (λ reads stays. are_read ready stays.1) (λ writes done. done.1) exact

  pub finish_fails : (cause : Cause) (result : Result (Option Phase) Cause) → IsErr result
      → EndingDid job.session ending a (Err cause) b → Turned job blocks faults a result b
  finish_fails cause (Ok next) not did = cc
  finish_fails cause (Err other) not did =
      let t = ended (Err other) (for_any_cause job.session ending a b cause other did) in
      record { stays = t.stays; within = t.within; left = t.left }

  pub finish_goes_on : (next : Option Ending) (step : Option Step) (phase : Option Phase)
      → MatchOption next (step ≡ None) (λ ending. IsSomeAnd step (λ known. known ≡ End ending))
      → MatchOption step (phase ≡ None) (λ step. IsSomeAnd phase (λ known. known ≡ Other step))
      → EndingDid job.session ending a (Ok next) b → Turned job blocks faults a (Ok phase) b
  finish_goes_on (Some next) (Some known) (Some phase) is then did =
      let t = ended (Ok (Some next)) did in
      rw (then, is) record { stays = t.stays; within = t.within; left = record { under_way = t.left; placed = tt } }
  finish_goes_on (Some next) (Some known) None is then did = absurd then
  finish_goes_on (Some next) None phase is then did = absurd is
  finish_goes_on None (Some known) phase is then did = cc
  finish_goes_on None None phase is then did =
      let t = ended (Ok None) did in
      rw then record { stays = t.stays; within = t.within; left = (t.left.0, has_effect t.left.0 t.left.1) }
