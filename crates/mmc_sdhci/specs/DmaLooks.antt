-- Data that a controller moves by itself (ADMA2): what a look finds, and what the data line's reset leaves (SD Host Controller Simplified
-- Specification 3.00, sections 1.13, 2.2.18 and 2.2.26). Where a block failed, or the table did, it isn't told how many were moved.
use Rattle.std.specs.Prelude.{List, Option, Some, [], false, length, slice_index_or, suc, true, ℕ, ◌<◌, ◌≡◌}
use Rattle.mmc_frame.specs.Field.{field}
use Rattle.mmc_card.specs.BusView.{BusView}
use Rattle.mmc_card.specs.Faults.{PollStep, ReadStep, WriteStep}
use Rattle.mmc_card.specs.declared.exchange.DataIn.{DataIn}
use Rattle.mmc_card.specs.declared.exchange.DataIn.TheVariants as Came
use Rattle.mmc_card.specs.declared.exchange.DataOut.{DataOut}
use Rattle.mmc_card.specs.declared.exchange.DataOut.TheVariants as Went
use Rattle.mmc_bus.specs.Exchanges.{Kept}
use Rattle.mmc_bus.specs.Together.{AreAccepted, WrittenOn}
use Rattle.mmc_bus.specs.declared.moved.Moved.TheVariants as Move
use Rattle.mmc_host.specs.declared.data.Data.{Data}
use Rattle.mmc_sdhci.specs.Controller.{ControllerView, moved, seen}
use Rattle.mmc_sdhci.specs.DataLooks.{broken, came, cleared, is_complete}
use Rattle.mmc_sdhci.specs.Lent.{Come, Lent, blocks_to_go}

-- One step of the card, beside which nothing changes.
pub record StepsAlone (old : BusView) (Step : Type 0) (new : BusView) : Type 0 where
  pub same : new ≡ record old { card = new.card; faults = new.faults; may_fall = new.may_fall; is_kept = new.is_kept }
  pub kept : Kept old Step new

-- a block comes, or goes, or a poll finds the card no longer busy
abbrev pub BlockComes : BusView → DataIn → List ℕ → BusView → Type 0
BlockComes old got block new = StepsAlone old (ReadStep old 512 got block new) new

abbrev pub BlockGoes : BusView → List ℕ → DataOut → BusView → Type 0
BlockGoes old block got new = StepsAlone old (WriteStep old block got new) new

abbrev pub CardRests : BusView → BusView → Type 0
CardRests old new = StepsAlone old (PollStep old false new) new

-- Reads: the first so many of these blocks came, one after the other, each a good one.
pub data HaveCome (blocks : List (List ℕ)) (old : BusView) : ℕ → BusView → Type 0 where
  none_came : HaveCome blocks old 0 old
  one_came : (done : ℕ) (view new : BusView) → HaveCome blocks old done view → length (slice_index_or blocks done []) ≡ 512
      → BlockComes view Came.Good (slice_index_or blocks done []) new → HaveCome blocks old (suc done) new

-- some came, and then one of so many that wasn't good
pub record OneFails (count : ℕ) (got : DataIn) (old new : BusView) : Type 0 where
  pub blocks : List (List ℕ)
  pub some : ℕ
  pub fewer : some < count
  pub before : BusView
  pub come : HaveCome blocks old some before
  pub fails : (block : List ℕ) → BlockComes before got block new

-- Writes: so many went and each was accepted, and before each but the first the card was found no longer busy. Or one of them wasn't.
abbrev pub HaveGone : List (List ℕ) → BusView → ℕ → BusView → Type 0
HaveGone blocks old count new = AreAccepted BlockGoes CardRests blocks old count new

abbrev pub OneIsLost : List (List ℕ) → BusView → BusView → Type 0
OneIsLost blocks old new = WrittenOn BlockGoes CardRests blocks old (Move.Failed Went.Nothing) new

-- All of the data is moved, after which this is in the memory that was lent; or some of it is.
abbrev pub AllMoved : Data → Option Lent → BusView → Option Lent → BusView → Type 0
AllMoved Data.Nothing was old now new = ⊥
AllMoved (Data.Read size count) was old now new =
    (blocks : List (List ℕ)) × ((now ≡ Some (Come blocks)) × ((length blocks ≡ count) × HaveCome blocks old count new))
AllMoved (Data.Write count) was old now new = (now ≡ was) × HaveGone (blocks_to_go was) old count new

abbrev pub SomeMoved : Data → Option Lent → DataIn → BusView → BusView → Type 0
SomeMoved Data.Nothing lent got old new = new ≡ old
SomeMoved (Data.Read size count) lent got old new = OneFails count got old new
SomeMoved (Data.Write count) lent got old new = OneIsLost (blocks_to_go lent) old new

-- A look at the interrupt status while data is moved: neither, Transfer Complete, or an error.
pub data MovingLook (old : ControllerView) (bits : ℕ) (new : ControllerView) : Type 0 where
  waits : field 15 15 bits ≡ 0 → is_complete bits ≡ false → new ≡ record old { status = bits } → MovingLook old bits new
  ends : (now : Option Lent) → field 15 15 bits ≡ 0 → is_complete bits ≡ true
      → AllMoved old.transfer old.dma.lent (seen old) now (seen new)
      → new ≡ record (moved old new) {
        status = bits;
        transfer = Data.Nothing;
        dma = record old.dma { lent = now; is_moving = false };
      }
      → MovingLook old bits new
  fails : field 15 15 bits ≡ 1 → SomeMoved old.transfer old.dma.lent (came bits) (seen old) (seen new)
      → new ≡ broken (moved old new) bits → MovingLook old bits new

-- once its command has failed no data is moved, until the data line is reset
abbrev pub MovingLooked : ControllerView → Data → ℕ → ControllerView → Type 0
MovingLooked old Data.Nothing bits new = new ≡ record old { status = bits }
MovingLooked old _ bits new = MovingLook old bits new

-- The data line is reset: the next block is lost.
abbrev pub MovingDropped : ControllerView → ControllerView → Type 0
MovingDropped old new =
    SomeMoved old.transfer old.dma.lent Came.Nothing (seen old) (seen new) × (new ≡ cleared (moved old new))
