-- Relation (docs/AUDIT.md, "What to read").
-- What one call does with a command and the blocks after it: the same exchanges, one after the other.
use Rattle.std.specs.Prelude.{◌+◌, ◌<◌, ◌≡◌, ◌≤◌, IsErr, List, Result, Some, [], false, length, slice_index_or, suc, true, zero, ℕ}
use Rattle.mmc_frame.specs.Frame.{command_in}
use Rattle.mmc_card.specs.BusView.{BusView}
use Rattle.mmc_card.specs.declared.exchange.DataIn.{DataIn}
use Rattle.mmc_card.specs.declared.exchange.DataIn.TheVariants.{Good}
use Rattle.mmc_card.specs.declared.exchange.DataOut.{DataOut}
use Rattle.mmc_card.specs.declared.exchange.DataOut.TheVariants.{Accepted}
use Rattle.mmc_card.specs.declared.exchange.Exchange.TheVariants.{Busy, In, Out}
use Rattle.mmc_card.specs.declared.exchange.Reply.{Reply}
use Rattle.mmc_card.specs.declared.exchange.Want.{Want}
use Rattle.mmc_card.specs.Faults.{PollStep, ReadStep, WriteStep}
use Rattle.mmc_card.specs.declared.exchange.Exchange.{Exchange}
use Rattle.mmc_bus.specs.Exchanges.{Commanded, Kept}
use Rattle.mmc_bus.specs.Heard.{cause_of, cause_of_response, response_heard, response_of}
use Rattle.mmc_bus.specs.Lending.{IsRewritten}
use Rattle.mmc_bus.specs.Learned.{Asked, PollFacts, ReadFacts, WriteFacts}
use Rattle.mmc_bus.specs.declared.host.Unheard.{Unheard}
use Rattle.mmc_bus.specs.declared.moved.Moved.{Moved}
use Rattle.mmc_bus.specs.declared.moved.Moved.TheVariants as Move

-- so many blocks at most were moved, if it is told
abbrev pub MovesAtMost : {T : Type 0} → Moved T → ℕ → Type 0
MovesAtMost (Move.Good good) most = good ≤ most
MovesAtMost (Move.Failed got) most = Unit {0}

-- Reads. So many blocks came one after the other, each a good one, and each is left in its place.
pub data AreGood {V S : Type 0} (Reads : V → DataIn → List ℕ → V → Type 0) (blocks : S → List (List ℕ))
    (leave : S → ℕ → List ℕ → S) (old : V) (was : S) : ℕ → V → S → Type 0 where
  none_good : AreGood Reads blocks leave old was 0 old was
  good_one : (done : ℕ) (view : V) (now : S) (left : List ℕ) (new : V)
      → AreGood Reads blocks leave old was done view now → done < length (blocks now) → length left ≡ 512
      → Reads view Good left new → AreGood Reads blocks leave old was (suc done) new (leave now done left)

-- Either no more were asked for, or the next one wasn't good; then it isn't told how many came, and all that the places hold is open. It
-- is open too where none came, as after a command that wasn't heard.
pub data ReadOn {V S : Type 0} (Reads : V → DataIn → List ℕ → V → Type 0) (blocks : S → List (List ℕ))
    (leave : S → ℕ → List ℕ → S) (old : V) (was : S) : Moved DataIn → V → S → Type 0 where
  reads : (good : ℕ) (new : V) (now : S) → AreGood Reads blocks leave old was good new now
      → ReadOn Reads blocks leave old was (Move.Good good) new now
  reads_nothing : (now : S) → IsRewritten blocks leave was now → ReadOn Reads blocks leave old was (Move.Good 0) old now
  reads_none : (some : ℕ) (view : V) (now last : S) (got : DataIn) (left : List ℕ) (new : V)
      → AreGood Reads blocks leave old was some view now → some < length (blocks now) → length left ≡ 512
      → (got ≡ Good → ⊥) → Reads view got left new → IsRewritten blocks leave was last
      → ReadOn Reads blocks leave old was (Move.Failed got) new last

-- Writes. After a block that was accepted the card is found no longer busy before the next one goes.
abbrev pub RestsAfter : {V : Type 0} → (V → V → Type 0) → ℕ → V → V → Type 0
RestsAfter Rests zero view ready = ready ≡ view
RestsAfter Rests (suc done) view ready = Rests view ready

-- So many blocks went, and each was accepted.
pub data AreAccepted {V : Type 0} (Writes : V → List ℕ → DataOut → V → Type 0) (Rests : V → V → Type 0)
    (blocks : List (List ℕ)) (old : V) : ℕ → V → Type 0 where
  none_accepted : AreAccepted Writes Rests blocks old 0 old
  accepted_one : (done : ℕ) (view ready new : V) → AreAccepted Writes Rests blocks old done view
      → RestsAfter Rests done view ready → done < length blocks
      → Writes ready (slice_index_or blocks done []) Accepted new → AreAccepted Writes Rests blocks old (suc done) new

-- either no more were offered, or the next one wasn't accepted; then it isn't told how many were
pub data WrittenOn {V : Type 0} (Writes : V → List ℕ → DataOut → V → Type 0) (Rests : V → V → Type 0)
    (blocks : List (List ℕ)) (old : V) : Moved DataOut → V → Type 0 where
  writes : (good : ℕ) (new : V) → AreAccepted Writes Rests blocks old good new
      → WrittenOn Writes Rests blocks old (Move.Good good) new
  writes_none : (some : ℕ) (view ready : V) (got : DataOut) (new : V)
      → AreAccepted Writes Rests blocks old some view → RestsAfter Rests some view ready → some < length blocks
      → (got ≡ Accepted → ⊥) → Writes ready (slice_index_or blocks some []) got new
      → WrittenOn Writes Rests blocks old (Move.Failed got) new

-- One exchange of several that a call makes. Of those before a block that failed none need be counted.
pub record OneOf (old : BusView) (exchange : Exchange) (Step : Type 0) (new : BusView) : Type 0 where
  pub lines : new.lines ≡ old.lines
  pub limits : new.limits ≡ old.limits
  pub last : new.last ≡ Some exchange
  pub exchanges : new.exchanges ≤ old.exchanges + 1
  pub kept : new.is_kept ≡ true → Kept old Step new

-- Over a bus: a block of 512 bytes that is read, one that is written, and a poll that says no.
abbrev pub BlockRead : BusView → DataIn → List ℕ → BusView → Type 0
BlockRead old got bytes new = OneOf old (In 512 got) (ReadStep old 512 got bytes new) new

abbrev pub BlockWritten : BusView → List ℕ → DataOut → BusView → Type 0
BlockWritten old bytes got new = OneOf old (Out got) (WriteStep old bytes got new) new

abbrev pub NotBusy : BusView → BusView → Type 0
NotBusy old new = OneOf old (Busy false) (PollStep old false new) new

-- A command, and blocks that are read after it.
pub record ReadWith {S : Type 0} (blocks : S → List (List ℕ)) (leave : S → ℕ → List ℕ → S) (old : BusView)
    (frame : List ℕ) (want : Want) (was : S) (reply : Reply) (moved : Moved DataIn) (now : S)
    (new : BusView) : Type 0 where
  pub between : BusView
  pub commanded : Commanded old frame want reply between
  pub read : ReadOn BlockRead blocks leave between was moved new now

-- A command, and blocks that are written after it.
pub record WrittenWith (old : BusView) (frame : List ℕ) (want : Want) (blocks : List (List ℕ)) (reply : Reply)
    (moved : Moved DataOut) (new : BusView) : Type 0 where
  pub between : BusView
  pub commanded : Commanded old frame want reply between
  -- none goes where no sound response was heard
  pub unheard : (command : ℕ × ℕ) → command_in frame ≡ Some command → IsErr (response_heard command.0 reply)
      → moved ≡ Move.Good 0
  pub written : WrittenOn BlockWritten NotBusy blocks between moved new

-- The same as a host learns of it.
abbrev pub BlockReceived : BusView → DataIn → List ℕ → BusView → Type 0
BlockReceived old got bytes new = OneOf old (In 512 got) (ReadFacts old 512 got bytes new) new

abbrev pub BlockOffered : BusView → List ℕ → DataOut → BusView → Type 0
BlockOffered old bytes got new = OneOf old (Out got) (WriteFacts old bytes got new) new

abbrev pub FoundAtRest : BusView → BusView → Type 0
FoundAtRest old new = OneOf old (Busy false) (PollFacts old false new) new

pub record AskedReading {S : Type 0} (blocks : S → List (List ℕ)) (leave : S → ℕ → List ℕ → S) (old : BusView)
    (index argument : ℕ) (was : S) (heard : Result ℕ Unheard) (moved : Moved DataIn) (now : S)
    (new : BusView) : Type 0 where
  pub between : BusView
  pub asked : Asked (response_heard index) (response_of index) old index argument heard between
  pub cause : cause_of between.last ≡ Some (cause_of_response heard)
  pub read : ReadOn BlockReceived blocks leave between was moved new now

pub record AskedWriting (old : BusView) (index argument : ℕ) (blocks : List (List ℕ)) (heard : Result ℕ Unheard)
    (moved : Moved DataOut) (new : BusView) : Type 0 where
  pub between : BusView
  pub asked : Asked (response_heard index) (response_of index) old index argument heard between
  pub cause : cause_of between.last ≡ Some (cause_of_response heard)
  pub unheard : IsErr heard → moved ≡ Move.Good 0
  pub written : WrittenOn BlockOffered FoundAtRest blocks between moved new
