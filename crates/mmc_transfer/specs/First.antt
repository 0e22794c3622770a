-- The command that begins a run, and the blocks after it that the bus moves by the same call.
use Rattle.std.specs.Prelude.{◌+◌, ◌≡◌, ◌≤◌, ◌⊎◌, Bool, Err, List, Ok, Option, Result, suc, true, zero, ℕ}
use Rattle.mmc_frame.specs.declared.kind.Kind.{Kind}
use Rattle.mmc_card.specs.BusView.{BusView}
use Rattle.mmc_card.specs.Card.{NoAddress}
use Rattle.mmc_card.specs.Laws.{IsStill}
use Rattle.mmc_card.specs.declared.exchange.DataIn.{DataIn}
use Rattle.mmc_card.specs.declared.exchange.DataOut.{DataOut}
use Rattle.mmc_frame.specs.declared.card_state.State.TheVariants.{Tran}
use Rattle.mmc_bus.specs.declared.cause.Cause.{Cause}
use Rattle.mmc_bus.specs.declared.cause.Cause.TheVariants as Why
use Rattle.mmc_bus.specs.declared.moved.Moved.{Moved}
use Rattle.mmc_bus.specs.declared.moved.Moved.TheVariants as Move
use Rattle.mmc_bus.specs.Together.{BlockOffered, BlockReceived, FoundAtRest, ReadOn, WrittenOn}
use Rattle.mmc_bus.specs.Work.{Ends}
use Rattle.mmc_switch.specs.Turns.{left_after}
use Rattle.mmc_switch.specs.declared.progress.Progress.{Progress}
use Rattle.mmc_switch.specs.declared.progress.Progress.TheVariants.{More}
use Rattle.mmc_transfer.specs.Commands.{Begins, starts}
use Rattle.mmc_transfer.specs.Fits.{phase_left}
use Rattle.mmc_transfer.specs.Run.{exchanges_left}
use Rattle.mmc_transfer.specs.declared.job.Job.{Job}
use Rattle.mmc_transfer.specs.declared.phase.Phase.{Phase}
use Rattle.mmc_transfer.specs.declared.run.Run.{Run}
use Rattle.mmc_transfer.specs.declared.way.Way.TheVariants.{Read, Write}

-- The command of a read, judged, and the blocks that came with it.
pub record StartedReading {S : Type 0} (blocks : S → List (List ℕ)) (leave : S → ℕ → List ℕ → S) (kind : Kind)
    (is_single : Bool) (address : ℕ) (old : BusView) (was : S) (started : Result Unit Cause) (moved : Moved DataIn)
    (now : S) (new : BusView) : Type 0 where
  pub between : BusView
  pub ends : Ends 1 old started between
  pub kept : between.is_kept ≡ true → old.is_kept ≡ true
  pub works : Begins kind Read is_single address old started between
  pub read : ReadOn BlockReceived blocks leave between was moved new now

-- The command of a write, judged, and the blocks that went with it: none, or the card has answered, and either it has begun,
-- whatever its status says, or it is in tran still.
pub record StartedWriting (kind : Kind) (is_single : Bool) (address : ℕ) (blocks : List (List ℕ)) (old : BusView)
    (started : Result Unit Cause) (moved : Moved DataOut) (new : BusView) : Type 0 where
  pub between : BusView
  pub ends : Ends 1 old started between
  pub kept : between.is_kept ≡ true → old.is_kept ≡ true
  pub works : Begins kind Write is_single address old started between
  pub answered : (moved ≡ Move.Good 0)
      ⊎ (between.is_kept ≡ true → IsStill old.card → old.card.erase ≡ NoAddress
      → (between.card ≡ starts Write is_single old.card address) ⊎ (between.card.state ≡ Tran))
  pub written : WrittenOn BlockOffered FoundAtRest blocks between moved new

-- How many blocks are moved, if the command was answered well and no block failed. Where blocks were moved, the last
-- exchange was one of theirs.
abbrev pub judged : {T : Type 0} → Result Unit Cause → Moved T → Result ℕ Cause
judged started (Move.Failed got) = Err Why.Data
judged (Ok done) (Move.Good good) = Ok good
judged (Err cause) (Move.Good zero) = Err cause
judged (Err cause) (Move.Good (suc good)) = Err Why.Data

-- The exchanges that are made, and those that are left of the run then, come to no more than were left before.
abbrev pub CostsAtMost : Job → Phase → BusView → Result (Option Phase) Cause → BusView → Type 0
CostsAtMost job phase old (Ok next) new =
    new.exchanges + left_after (phase_left job.count job.session.info.cmd23) next
    ≤ old.exchanges + phase_left job.count job.session.info.cmd23 phase
CostsAtMost job phase old (Err cause) new =
    new.exchanges ≤ old.exchanges + phase_left job.count job.session.info.cmd23 phase

-- the same of a turn
abbrev pub Nears : Run → BusView → Progress Run → BusView → Type 0
Nears run old (More next) new = new.exchanges + exchanges_left next ≤ old.exchanges + exchanges_left run
Nears run old _ new = new.exchanges ≤ old.exchanges + exchanges_left run
