-- What the model's registers do while blocks are moved.
use Rattle.std.specs.Prelude.{[], List, None, Option, Some, false, slice_index_or, true, ℕ, ◌≡◌}
use Rattle.mmc_frame.specs.Field.{field}
use Rattle.mmc_bus.specs.Together.{RestsAfter}
use Rattle.mmc_card.specs.BusView.{BusView}
use Rattle.mmc_card.specs.declared.exchange.DataIn.{DataIn}
use Rattle.mmc_card.specs.declared.exchange.DataOut.{DataOut}
use Rattle.mmc_card.specs.declared.exchange.DataOut.TheVariants as Went
use Rattle.mmc_host.specs.HostStates.{less_one}
use Rattle.mmc_host.specs.declared.data.Data.{Data}
use Rattle.mmc_story.specs.Entry.{Entry}
use Rattle.mmc_story.specs.Entry.Event.{Written}
use Rattle.mmc_story.specs.Story.{Outcome, Story}
use Rattle.mmc_sdhci.specs.Accesses.{ClockSeen, Pops, ResetSeen, is_ready_in, written}
use Rattle.mmc_sdhci.specs.Controller.{ControllerView, Settled, seen}
use Rattle.mmc_sdhci.specs.DataLooks.{has_news, is_empty, is_gone}
use Rattle.mmc_sdhci.specs.DmaLooks.{CardRests, HaveCome, HaveGone, OneFails, OneIsLost}
use Rattle.mmc_sdhci.specs.Lending.{lends}
use Rattle.mmc_sdhci.specs.Lent.{Lent}
use Rattle.sdhci_model.specs.Shown.{controller, entry_for, shown, to_go}
use Rattle.sdhci_model.specs.declared.state.State.{State}

-- these interrupts tell that the block that was taken is good, or it isn't time
abbrev pub TellsGood : State → ℕ → Type 0
TellsGood state bits =
    (field 15 15 bits ≡ 0) × ((outcome : Outcome) → has_news (shown outcome state) (Some state.block.items) bits ≡ true)

abbrev pub AwaitsGood : State → Type 0
AwaitsGood state = (outcome : Outcome) → has_news (shown outcome state) (Some state.block.items) 0 ≡ false

-- that the block in the buffer has gone
abbrev pub TellsGone : State → ℕ → Type 0
TellsGone state bits = (field 15 15 bits ≡ 0) × ((outcome : Outcome) → is_gone (shown outcome state) bits ≡ true)

abbrev pub AwaitsGone : State → Type 0
AwaitsGone state = (outcome : Outcome) → is_gone (shown outcome state) 0 ≡ false

pub record Comes (old : State) (block : List ℕ) (new : State) : Type 0 where
  pub items : new.block.items ≡ block
  pub same : new ≡ record old { block = new.block; taken = 0; is_unjudged = true; is_ready = false; status = 0x20 }

pub record Goes (old : State) (bits : ℕ) (new : State) : Type 0 where
  pub items : new.outgoing.items ≡ []
  pub same : new
      ≡ record old { outgoing = new.outgoing; status = bits; transfer = less_one old.transfer; is_ready = false }

pub record Breaks (old : State) (bits : ℕ) (new : State) : Type 0 where
  pub items : new.outgoing.items ≡ []
  pub same : new
      ≡ record old {
        outgoing = new.outgoing;
        status = bits;
        transfer = Data.Nothing;
        is_stale = true;
        is_ready = false;
        is_unjudged = false;
      }

-- what a bus shows of it is as before: whether the rules were kept, lines, and limits
pub record HasSameBus (old new : State) : Type 0 where
  pub sound : new.is_sound ≡ old.is_sound
  pub control : new.control ≡ old.control
  pub capabilities : new.capabilities ≡ old.capabilities

-- A block that was to go, and is lost: one that was never sent is noted as one that the card rejected, since it took none; of one that
-- was sent the card's status is lost.
abbrev pub IsLostAs : List ℕ → List ℕ → DataOut → Type 0
IsLostAs outgoing block Went.Rejected = Unit {0}
IsLostAs outgoing block Went.Nothing = (block ≡ outgoing) × (is_empty outgoing ≡ false)
IsLostAs outgoing block Went.Accepted = ⊥

-- whatever became of the card, the registers are written so
abbrev pub WritesTo : State → ℕ → ℕ → State → Type 0
WritesTo old offset value new = (outcome : Outcome) → shown outcome new ≡ written (shown outcome old) offset value

abbrev pub PopsFrom : State → ℕ → State → Type 0
PopsFrom old value new = (outcome : Outcome) → Pops (shown outcome old) value (shown outcome new)

abbrev pub ChangesTo : State → (ControllerView → ControllerView) → State → Type 0
ChangesTo old change new = (outcome : Outcome) → shown outcome new ≡ change (shown outcome old)

abbrev pub SeesBuffer : State → ℕ → State → Type 0
SeesBuffer old value new =
    (outcome : Outcome) → shown outcome new ≡ record (shown outcome old) { is_ready = is_ready_in old.transfer value }

abbrev pub SeesClock : State → ℕ → State → Type 0
SeesClock old value new = (outcome : Outcome) → ClockSeen (shown outcome old) old.stabilizing value (shown outcome new)

abbrev pub SeesReset : State → ℕ → State → Type 0
SeesReset old value new = (outcome : Outcome) → ResetSeen (shown outcome old) old.resetting value (shown outcome new)

-- memory is lent, or nothing happens
abbrev pub LendsFrom : State → Lent → Option ℕ → State → Type 0
LendsFrom old lent None new = new ≡ old
LendsFrom old lent (Some start) new = ChangesTo old (λ view. lends view lent start) new

-- So many of these blocks came, one after the other; or some did, and then one of so many that wasn't good.
abbrev pub HaveRead : Story → List Entry → State → List (List ℕ) → ℕ → List Entry → Type 0
HaveRead story past state blocks count after =
    Settled (controller story past state)
    (HaveCome blocks (seen (controller story past state)) count (seen (controller story after state)))
    (controller story after state)

abbrev pub OneHasFailed : Story → List Entry → State → ℕ → DataIn → List Entry → Type 0
OneHasFailed story past state count got after =
    Settled (controller story past state)
    (OneFails count got (seen (controller story past state)) (seen (controller story after state)))
    (controller story after state)

-- So many blocks of those that are to go went, and the next one can; or one of them was lost.
pub record CanGoOn (blocks : List (List ℕ)) (old : BusView) (count : ℕ) (ready : BusView) : Type 0 where
  pub view : BusView
  pub gone : HaveGone blocks old count view
  pub rests : RestsAfter CardRests count view ready

abbrev pub GoesOn : Story → List Entry → State → ℕ → List Entry → Type 0
GoesOn story past state count after =
    Settled (controller story past state)
    (CanGoOn (to_go state) (seen (controller story past state)) count (seen (controller story after state)))
    (controller story after state)

abbrev pub HaveSent : Story → List Entry → State → ℕ → List Entry → Type 0
HaveSent story past state count after =
    Settled (controller story past state)
    (HaveGone (to_go state) (seen (controller story past state)) count (seen (controller story after state)))
    (controller story after state)

abbrev pub OneWasLost : Story → List Entry → State → List Entry → Type 0
OneWasLost story past state after =
    Settled (controller story past state)
    (OneIsLost (to_go state) (seen (controller story past state)) (seen (controller story after state)))
    (controller story after state)

-- what is noted of the block with this number
abbrev pub sent_of : State → ℕ → DataOut → Entry
sent_of state i got = entry_for state (Written (slice_index_or (to_go state) i []) got)
