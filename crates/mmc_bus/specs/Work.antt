-- What a host function does with a bus: over any bus, and over one that is kept.
use Rattle.std.specs.Prelude.{◌+◌, ◌≡◌, ◌≤◌, IfErr, Result, Some, true, ℕ}
use Rattle.mmc_bus.specs.declared.cause.Cause.{Cause}
use Rattle.mmc_bus.specs.Heard.{cause_of}
use Rattle.mmc_bus.specs.Learned.{Stays}
use Rattle.mmc_card.specs.BusView.{BusView}
use Rattle.mmc_card.specs.Card.{IsCard, holds}
use Rattle.mmc_card.specs.Faults.{NoFault}
use Rattle.mmc_card.specs.Laws.{StillStands, WithinOrAccepted}
use Rattle.mmc_card.specs.Sectors.{Sector, Within}

-- At most so many exchanges, and the cause of a failure is that of the last one.
abbrev pub Ends : {X : Type 0} → ℕ → BusView → Result X Cause → BusView → Type 0
Ends most old result new =
    (new.exchanges ≤ old.exchanges + most) × IfErr result (λ cause. cause_of new.last ≡ Some cause)

-- the lines stay, and the card as it is set
pub record StaysSet (old new : BusView) : Type 0 where
  pub lines : new.lines ≡ old.lines
  pub stands : StillStands old.card new.card

-- no sector may hold more
abbrev pub Narrows : BusView → BusView → Type 0
Narrows old new = Within (holds new.card) (holds old.card)

-- none but the next sector of the write that runs, which may hold this block too
abbrev pub NarrowsBut : Sector → BusView → BusView → Type 0
NarrowsBut block old new = WithinOrAccepted old.card block new.card

-- nothing is said of the sectors here
abbrev pub Anything : BusView → BusView → Type 0
Anything old new = Unit {0}

-- What was done over a bus that is kept: how the card stands is as `Stands` says, and what its sectors may hold as
-- `Holds`; `Own` holds, whatever fell, and `Fine` where no fault fell.
pub record Done (Stands Holds Own Fine : BusView → BusView → Type 0) (old new : BusView) : Type 0 where
  pub was_kept : old.is_kept ≡ true
  pub was_card : IsCard old.card
  pub is_card : IsCard new.card
  pub stays : Stays old new
  pub set : Stands old new
  pub sectors : Holds old new
  pub own : Own old new
  pub fine : NoFault old new → Fine old new

-- Work with a card that stays as it is set.
abbrev pub Worked : (BusView → BusView → Type 0) → (BusView → BusView → Type 0) → (BusView → BusView → Type 0) → BusView
    → BusView → Type 0
Worked = Done StaysSet

abbrev pub Works : (BusView → BusView → Type 0) → (BusView → BusView → Type 0) → (BusView → BusView → Type 0) → BusView
    → BusView → Type 0
Works Holds Own Fine old new = new.is_kept ≡ true → Worked Holds Own Fine old new

-- Work while the card goes from state to state: no sector may hold more.
abbrev pub Moved : (BusView → BusView → Type 0) → (BusView → BusView → Type 0) → BusView → BusView → Type 0
Moved = Done Anything Narrows

abbrev pub Moves : (BusView → BusView → Type 0) → (BusView → BusView → Type 0) → BusView → BusView → Type 0
Moves Own Fine old new = new.is_kept ≡ true → Moved Own Fine old new

-- Work that may be no exchange at all, so that the bus itself doesn't tell that there is a card.
abbrev pub MovesFrom : (BusView → BusView → Type 0) → (BusView → BusView → Type 0) → BusView → BusView → Type 0
MovesFrom Own Fine old new = IsCard old.card → Moves Own Fine old new
