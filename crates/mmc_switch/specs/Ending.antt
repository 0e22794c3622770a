-- The end of a write, of an erase, and of a read that CMD12 stops: which exchanges are left of it, what each of them did, and
-- where the card is meanwhile.
use Rattle.std.specs.Prelude.{◌+◌, ◌-◌, ◌<◌, ◌≡◌, Bool, Err, None, Ok, Option, Result, Some, false, nat_lt, true, ℕ}
use Rattle.mmc_frame.specs.declared.kind.Kind.{Kind}
use Rattle.mmc_card.specs.BusView.{BusView}
use Rattle.mmc_card.specs.Card.{Card, is_selected, patience}
use Rattle.mmc_card.specs.Sectors.{Change}
use Rattle.mmc_bus.specs.Closings.{ClosesInTime, ClosesSoon, WillBeClean}
use Rattle.mmc_bus.specs.Learned.{PollFacts}
use Rattle.mmc_bus.specs.Work.{Anything, Narrows, Worked}
use Rattle.mmc_bus.specs.declared.cause.Cause.{Cause}
use Rattle.mmc_bus.specs.declared.status.Closing.{Closing}
use Rattle.mmc_bus.specs.declared.status.Closing.TheVariants.{AtWork, Clean}
use Rattle.mmc_bus.specs.declared.wait.TheConstants.{MAX_POLLS}
use Rattle.mmc_switch.specs.UnderWay.{IsBusyAfter, IsCarriedOut, IsIdle, IsProgramming}
use Rattle.mmc_switch.specs.declared.ending.Ending.{Ending}
use Rattle.mmc_switch.specs.declared.ending.Ending.TheVariants.{Confirm, Wait}
use Rattle.mmc_switch.specs.declared.ending.TheConstants.{EXCHANGES_OF_AN_ENDING}
use Rattle.mmc_switch.specs.declared.session.Session.{Session}

-- polls and statuses that said that the card is at work, together
abbrev pub ending_fits : Ending → Bool
ending_fits (Wait polls) = nat_lt polls MAX_POLLS
ending_fits (Confirm waits) = nat_lt waits MAX_POLLS

-- the exchanges that are left at most
abbrev pub ending_left : Ending → ℕ
ending_left (Wait polls) = EXCHANGES_OF_AN_ENDING - polls
ending_left (Confirm waits) = MAX_POLLS - waits

-- A poll that said yes or no, as work.
abbrev pub Polls : Bool → BusView → BusView → Type 0
Polls said = Worked Narrows (λ old new. PollFacts old said new) Anything

-- Asking for a closing status, by what came.
abbrev pub Confirms : Kind → ℕ → Result Closing Cause → BusView → BusView → Type 0
Confirms kind rca result =
    Worked Narrows (λ old new. ClosesInTime kind result old new)
    (λ old new. WillBeClean kind old.card → old.card.app ≡ false → old.card.rca ≡ rca → ClosesSoon result old.card new.card)

-- no clean status came, or one too many that shows the card at work
abbrev pub FailsAt : ℕ → Result Closing Cause → Type 0
FailsAt waits (Ok Clean) = ⊥
FailsAt waits (Ok AtWork) = waits + 1 ≡ MAX_POLLS
FailsAt waits (Err cause) = Unit {0}

-- What its exchange did, by what comes after it.
abbrev pub EndingDid : Session → Ending → BusView → Result (Option Ending) Cause → BusView → Type 0
EndingDid session (Wait polls) old (Ok (Some (Wait more))) new = (more ≡ polls + 1) × Polls true old new
EndingDid session (Wait polls) old (Ok (Some (Confirm waits))) new = (waits ≡ polls) × Polls false old new
EndingDid session (Wait polls) old (Err cause) new = (polls + 1 ≡ MAX_POLLS) × Polls true old new
EndingDid session (Confirm waits) old (Ok (Some (Confirm more))) new =
    (more ≡ waits + 1) × Confirms session.info.kind session.info.rca (Ok AtWork) old new
EndingDid session (Confirm waits) old (Ok None) new = Confirms session.info.kind session.info.rca (Ok Clean) old new
EndingDid session (Confirm waits) old (Err cause) new =
    (closing : Result Closing Cause) × FailsAt waits closing × Confirms session.info.kind session.info.rca closing old new
EndingDid session _ old _ new = ⊥

-- By this a card shows at the end that it is there, whatever fell: it is selected still, and holds no error.
abbrev pub IsSound : Card → Type 0
IsSound card = (is_selected card.state ≡ true) × (card.errors ≡ 0)

-- That it holds no error is asked of it from the first poll on, since the blocks that it accepted may have failed before.
abbrev pub ShownIn : Ending → Card → Type 0
ShownIn (Wait polls) card = card.errors ≡ 0
ShownIn (Confirm waits) card = IsSound card

-- where its statuses may lag, it has said so often that it is at work
abbrev pub LagsAfter : ℕ → Card → Type 0
LagsAfter waits card = card.lags ≡ true → card.polled < patience → card.polled ≡ waits

-- A card that ends a change: it programs it, and then rests with it carried out.
abbrev pub IsEnding : Change → Ending → Card → Type 0
IsEnding change (Wait polls) card = IsProgramming change.start change.values card × IsBusyAfter polls card
IsEnding change (Confirm waits) card = IsIdle 0 card × IsCarriedOut change card × LagsAfter waits card
