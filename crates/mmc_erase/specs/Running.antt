-- Where the card is in each phase of a run, over a bus that is kept.
use Rattle.std.specs.Prelude.{◌+◌, ◌-◌, ◌≡◌, Option, Result, ℕ}
use Rattle.mmc_card.specs.BusView.{BusView}
use Rattle.mmc_card.specs.Card.{Both, Card, First as FirstHeld, Held, NoAddress}
use Rattle.mmc_card.specs.Sectors.{Change}
use Rattle.mmc_bus.specs.declared.cause.Cause.{Cause}
use Rattle.mmc_switch.specs.Address.{address_of}
use Rattle.mmc_switch.specs.Ending.{IsEnding, ShownIn}
use Rattle.mmc_switch.specs.Turns.{LeftIn}
use Rattle.mmc_switch.specs.UnderWay.{IsCarriedOut, IsIdle, IsUnderWay, Turn}
use Rattle.mmc_erase.specs.Job.{erased}
use Rattle.mmc_erase.specs.declared.job.Job.{Job}
use Rattle.mmc_erase.specs.declared.phase.Phase.{Phase}
use Rattle.mmc_erase.specs.declared.phase.Phase.TheVariants.{End, Erase, First, Last}

abbrev pub change_of : Job → Change
change_of job = erased job.session job.start job.count

-- what names its first sector, and its last one
abbrev pub first_of : Job → ℕ
first_of job = address_of job.session.info.addressing job.start

abbrev pub last_of : Job → ℕ
last_of job = address_of job.session.info.addressing (job.start + job.count - 1)

-- In tran with nothing to do but that it holds this of the sequence.
pub record IsHolding (held : Held) (card : Card) : Type 0 where
  pub idle : IsIdle 0 (record card { erase = NoAddress })
  pub erase : card.erase ≡ held

-- Exactly here the card is in each phase, but for a fault that nobody has seen.
abbrev pub Exact : Job → Phase → Card → Type 0
Exact job First card = IsHolding NoAddress card
Exact job Last card = IsHolding (FirstHeld (first_of job)) card
Exact job Erase card = IsHolding (Both (first_of job) (last_of job)) card
Exact job (End ending) card = IsEnding (change_of job) ending card

-- By this a card shows that it is there, whatever fell.
abbrev pub Shown : Phase → Card → Type 0
Shown (End ending) card = ShownIn ending card
Shown _ card = Unit {0}

-- the run is in this phase after so many faults in its turns
abbrev pub IsIn : Job → Phase → ℕ → BusView → Type 0
IsIn job phase faults view = IsUnderWay job.session (Shown phase) (Exact job phase) faults view

-- A turn of a run: each sector that it names holds no more than before or the erased byte, and no other more than before.
abbrev pub Turned : Job → ℕ → BusView → Result (Option Phase) Cause → BusView → Type 0
Turned job faults old result new =
    Turn (change_of job) (LeftIn job.session (IsIn job) (IsCarriedOut (change_of job)) result) faults old new
