-- Where the card is in each phase of a run, over a bus that is kept.
use Rattle.std.specs.Prelude.{◌+◌, ◌-◌, ◌<◌, ◌==◌, ◌≡◌, ◌⊎◌, Bool, List, None, Option, Result, Some, [], false}
use Rattle.std.specs.Prelude.{if◌then◌else◌, slice_index_or, take, true, ℕ}
use Rattle.mmc_frame.specs.declared.card_state.State.TheVariants.{Data, Rcv, Tran}
use Rattle.mmc_card.specs.BusView.{BusView}
use Rattle.mmc_card.specs.Blocks.{next_written}
use Rattle.mmc_card.specs.Card.{Card, FromSectors, holds, is_in, is_selected, patience, stored}
use Rattle.mmc_card.specs.ErrorBits.{out_of_range}
use Rattle.mmc_card.specs.Sectors.{AreRead, Change, Sector}
use Rattle.mmc_bus.specs.declared.cause.Cause.{Cause}
use Rattle.mmc_switch.specs.Ending.{IsEnding, IsSound, LagsAfter, ShownIn}
use Rattle.mmc_switch.specs.Turns.{LeftIn}
use Rattle.mmc_switch.specs.UnderWay.{IsBusyAfter, IsCarriedOut, IsIdle, IsQuiet, IsUnderWay, Turn, part_of, room_of}
use Rattle.mmc_switch.specs.declared.ending.Ending.{Ending}
use Rattle.mmc_switch.specs.declared.ending.Ending.TheVariants.{Confirm, Wait}
use Rattle.mmc_switch.specs.declared.session.Session.{Session}
use Rattle.mmc_transfer.specs.Fits.{is_counted_by}
use Rattle.mmc_transfer.specs.declared.job.Job.{Job}
use Rattle.mmc_transfer.specs.declared.phase.Phase.{Phase}
use Rattle.mmc_transfer.specs.declared.phase.Phase.TheVariants.{Block, Other}
use Rattle.mmc_transfer.specs.declared.phase.Step.TheVariants.{Command, End, Pause, Preset, Stop}
use Rattle.mmc_transfer.specs.declared.way.Way.{Way}
use Rattle.mmc_transfer.specs.declared.way.Way.TheVariants.{Read, Write}

-- What a run changes: a write its sectors, a read none.
abbrev pub written : Way → List Sector → List Sector
written Read blocks = []
written Write blocks = blocks

abbrev pub change_for : Session → ℕ → Way → List Sector → Change
change_for session start way blocks = record { part = part_of session; start = start; values = written way blocks }

abbrev pub change_of : Job → List Sector → Change
change_of job blocks = change_for job.session job.start job.way blocks

abbrev pub is_counted : Job → Bool
is_counted job = is_counted_by job.count job.session.info.cmd23

-- what CMD23 has preset once the transfer begins
abbrev pub preset_of : Job → ℕ
preset_of job = if job.count == 1 then 0 else if job.session.info.cmd23 then job.count else 0

-- the blocks to come after so many, where the card knows
abbrev pub left_of : Job → ℕ → Option ℕ
left_of job done = if is_counted job then Some (job.count - done) else None

-- it is one thing for a read, another for a write
abbrev pub by_way : Way → Type 0 → Type 0 → Type 0
by_way Read read write = read
by_way Write read write = write

-- the first blocks of the buffer are what the card stores there
abbrev pub AreStored : ℕ → Job → List Sector → Card → Type 0
AreStored done job blocks card =
    (i : ℕ) → i < done
    → slice_index_or blocks i [] ≡ slice_index_or (stored card (part_of job.session)) (job.start + i) []

-- The card sends the blocks of a read, and has sent so many. At the end of the partition it may say so, if it doesn't
-- know the number of blocks.
pub record IsSending (done : ℕ) (job : Job) (blocks : List Sector) (card : Card) : Type 0 where
  pub quiet : IsQuiet Data 0 (record card { errors = 0 })
  pub rests : card.is_busy ≡ false
  pub up_to_date : card.lags ≡ false
  pub errors : (card.errors ≡ 0)
      ⊎ ((is_counted job ≡ false) × (job.start + done ≡ room_of job.session) × (card.errors ≡ out_of_range))
  pub source : card.source ≡ FromSectors
  pub next : card.next ≡ job.start + done
  pub left : card.left ≡ left_of job done
  pub read : AreStored done job blocks card

-- The card has accepted so many blocks of a write.
pub record IsTaking (done : ℕ) (job : Job) (blocks : List Sector) (card : Card) : Type 0 where
  pub quiet : IsQuiet Rcv 0 card
  pub start : card.start ≡ job.start
  pub values : card.values ≡ take done blocks
  pub left : card.left ≡ left_of job done

-- A card that ends a read: in tran it may be busy after CMD12, and then it rests. It has said so often that it is busy.
abbrev pub HasStopped : Ending → Card → Type 0
HasStopped (Wait polls) card =
    IsQuiet Tran 0 card × (card.is_busy ≡ true → IsBusyAfter polls card) × (card.polled < patience → card.polled ≡ polls)
HasStopped (Confirm waits) card = IsIdle 0 card × LagsAfter waits card

-- Exactly here the card is in each phase, but for a fault that nobody has seen.
abbrev pub ReadExact : Job → List Sector → Phase → Card → Type 0
ReadExact job blocks (Block done) card = IsSending done job blocks card
ReadExact job blocks (Other Preset) card = IsIdle 0 card
ReadExact job blocks (Other Command) card = IsIdle (preset_of job) card
ReadExact job blocks (Other (Pause done polls)) card = ⊥
ReadExact job blocks (Other Stop) card = IsSending job.count job blocks card
ReadExact job blocks (Other (End ending)) card = HasStopped ending card × AreStored job.count job blocks card

abbrev pub WriteExact : Job → List Sector → Phase → Card → Type 0
WriteExact job blocks (Block done) card = IsTaking done job blocks card × (card.is_busy ≡ false)
WriteExact job blocks (Other Preset) card = IsIdle 0 card
WriteExact job blocks (Other Command) card = IsIdle (preset_of job) card
WriteExact job blocks (Other (Pause done polls)) card =
    IsTaking done job blocks card × IsBusyAfter polls card
WriteExact job blocks (Other Stop) card = IsTaking job.count job blocks card × (card.is_busy ≡ false)
WriteExact job blocks (Other (End ending)) card = IsEnding (change_of job blocks) ending card

abbrev pub Exact : Job → List Sector → Phase → Card → Type 0
Exact job blocks phase card = by_way job.way (ReadExact job blocks phase card) (WriteExact job blocks phase card)

-- By this a card shows that it is there, whatever fell: it is selected still, and in a write it holds no error, since blocks
-- that it accepted may turn out not to be programmed.
abbrev pub IsThere : Way → Card → Type 0
IsThere way card = by_way way (is_selected card.state ≡ true) (IsSound card)

abbrev pub Shown : Way → Phase → Card → Type 0
Shown way (Block done) card = IsThere way card
Shown way (Other (Pause done polls)) card = by_way way (Unit {0}) (card.errors ≡ 0)
Shown way (Other Stop) card = IsThere way card
Shown way (Other (End ending)) card = ShownIn ending card
Shown way _ card = Unit {0}

-- The next block that the card accepts is for this sector, whatever fell.
abbrev pub GoesOnAt : ℕ → Card → Type 0
GoesOnAt sector card = is_in card.state Rcv ≡ true → next_written card ≡ sector

abbrev pub IsPlaced : Job → Phase → Card → Type 0
IsPlaced job (Block done) card = by_way job.way (Unit {0}) (GoesOnAt (job.start + done) card)
IsPlaced job (Other (Pause done polls)) card = by_way job.way (Unit {0}) (GoesOnAt (job.start + done) card)
IsPlaced job _ card = Unit {0}

-- the run is in this phase after so many faults in its turns
pub record IsIn (job : Job) (blocks : List Sector) (phase : Phase) (faults : ℕ) (view : BusView) : Type 0 where
  pub under_way : IsUnderWay job.session (Shown job.way phase) (Exact job blocks phase) faults view
  pub placed : IsPlaced job phase view.card

-- The effect of a run: a write is carried out, and what was read is what the sectors hold.
abbrev pub HasEffect : Job → List Sector → Card → Type 0
HasEffect job blocks card =
    by_way job.way (AreRead (holds card) (part_of job.session) job.start blocks) (IsCarriedOut (change_of job blocks) card)

-- A turn of a run from this phase: each sector that it names holds no more than before or its block, and no other more
-- than before.
abbrev pub Turned : Job → List Sector → ℕ → BusView → Result (Option Phase) Cause → BusView → Type 0
Turned job blocks faults old result new =
    Turn (change_of job blocks) (LeftIn job.session (IsIn job blocks) (HasEffect job blocks) result) faults old new
