-- The status that closes programming.
use Rattle.std.specs.Prelude.{◌<◌, ◌≡◌, Err, Ok, Result, false, true}
use Rattle.mmc_frame.specs.declared.kind.Kind.{Kind}
use Rattle.mmc_frame.specs.declared.kind.Kind.TheVariants.{Mmc}
use Rattle.mmc_bus.specs.declared.status.Closing.{Closing}
use Rattle.mmc_bus.specs.declared.status.Closing.TheVariants.{AtWork, Clean}
use Rattle.mmc_card.specs.BusView.{BusView}
use Rattle.mmc_card.specs.Card.{Card, is_selected, patience}
use Rattle.mmc_card.specs.CardAnswer.{counted, shown}
use Rattle.mmc_card.specs.CardLaws.{IsInOrder}
use Rattle.mmc_card.specs.Laws.{AfterSomeTime, IsStill}

-- a card that is judged by its own kind, and is in order
abbrev pub WillBeClean : Kind → Card → Type 0
WillBeClean kind card = (card.made.kind ≡ kind) × IsInOrder kind card

-- the card has shown its status, and only how its statuses lag behind may differ, and errors that are to show yet
abbrev pub HasShown : Card → Card → Type 0
HasShown old new =
    new ≡ record (shown old) { lags = new.lags; polled = new.polled; errors = new.errors; switch_error = new.switch_error }

-- its status lagged behind, and was counted
abbrev pub HasLagged : Card → Card → Type 0
HasLagged old new = (old.lags ≡ true) × (new.polled ≡ counted old.polled)

-- where its statuses may lag still, this one did
abbrev pub CountsOn : Card → Card → Type 0
CountsOn old new = new.lags ≡ true → HasLagged old new

-- What a status tells of a card that may be at work still: it held no error of its own, if it holds none now.
pub record WasAtWork (kind : Kind) (old new : Card) : Type 0 where
  pub shown : HasShown old new
  pub held_none : new.errors ≡ 0 → old.errors ≡ 0
  pub held_no_switch_error : kind ≡ Mmc → old.made.kind ≡ Mmc → new.switch_error ≡ false → old.switch_error ≡ false
  pub gets_none : old.errors ≡ 0 → new.errors ≡ 0
  pub gets_no_switch_error : old.switch_error ≡ false → new.switch_error ≡ false
  pub counts : CountsOn old new

-- What a closing status tells of the card, fault or not: it is in order, or may be at work still.
abbrev pub Closes : {E : Type 0} → Kind → Result Closing E → Card → Card → Type 0
Closes kind (Ok Clean) old new = IsInOrder kind old × (new ≡ shown old)
Closes kind (Ok AtWork) old new = WasAtWork kind old new
Closes kind (Err cause) old new = Unit {0}

-- the same of the card that the status was asked of, once time had passed
abbrev pub ClosesInTime : {E : Type 0} → Kind → Result Closing E → BusView → BusView → Type 0
ClosesInTime kind result old new = AfterSomeTime old (λ card. Closes kind result card new.card)

-- If it is selected and holds no error, nothing goes on in it by itself.
abbrev pub IsCalm : Card → Type 0
IsCalm card = is_selected card.state ≡ true → card.errors ≡ 0 → IsStill card

-- What a card in order shows: a clean status, or one that lags, at most so often.
abbrev pub ClosesSoon : {E : Type 0} → Result Closing E → Card → Card → Type 0
ClosesSoon (Ok Clean) old new = Unit {0}
ClosesSoon (Ok AtWork) old new = HasLagged old new × (old.polled < patience) × (new.errors ≡ 0)
ClosesSoon (Err cause) old new = ⊥
