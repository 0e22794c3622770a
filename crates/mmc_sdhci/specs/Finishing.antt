-- What the driver's functions leave, where the controller moves the data.
use Rattle.std.specs.Prelude.{Err, None, Ok, Option, Result, Some, is_ok, true, ℕ, ◌%◌, ◌+◌, ◌<◌, ◌^◌, ◌||◌, ◌≡◌, ◌≤◌}
use Rattle.mmc_frame.specs.Field.{field}
use Rattle.mmc_bus.specs.declared.moved.Moved.{Moved}
use Rattle.mmc_bus.specs.declared.moved.Moved.TheVariants as Move
use Rattle.mmc_card.specs.declared.exchange.DataIn.{DataIn}
use Rattle.mmc_card.specs.declared.exchange.DataIn.TheVariants as Came
use Rattle.mmc_host.specs.declared.data.Data.{Data}
use Rattle.mmc_host.specs.declared.told.Heard.{Heard}
use Rattle.mmc_host.specs.declared.told.HostCommand.{HostCommand}
use Rattle.mmc_host.specs.declared.told.HostState.{HostState}
use Rattle.mmc_host.specs.declared.told.ResponseFault.{ResponseFault}
use Rattle.mmc_sdhci.specs.Accesses.{is_at_rest, is_dma_set, is_idle}
use Rattle.mmc_sdhci.specs.Commands.{KeepsLent, Sends}
use Rattle.mmc_sdhci.specs.Controller.{ControllerView, Settled, are_shown, has_data, is_set, lines_in, seen}
use Rattle.mmc_sdhci.specs.Driver.{showing}
use Rattle.mmc_sdhci.specs.Lent.{crosses_none, is_lent_for, size_of}
use Rattle.mmc_sdhci.specs.declared.dma.Dma.{Dma}
use Rattle.mmc_sdhci.specs.declared.dma.Dma.TheVariants as Way
use Rattle.mmc_sdhci.specs.DataLooks.{is_complete}
use Rattle.mmc_sdhci.specs.DmaLooks.{AllMoved, MovingLook, SomeMoved}
use Rattle.mmc_sdhci.specs.Moving.{is_error}

-- Memory that a controller reaches: by SDMA (bit 22 of Capabilities) within 32 bits, where it crosses no multiple of 512 KiB; by ADMA2
-- (bit 19) within 32 bits, or, where the system bus has 64 (bit 28), anywhere at a multiple of 8.
abbrev pub Reaches : ℕ → Dma → ℕ → ℕ → Type 0
Reaches capabilities Way.Sdma start size =
    (field 22 22 capabilities ≡ 1) × ((start < 2 ^ 32) × (crosses_none start size ≡ true))
Reaches capabilities Way.Adma32 start size = (field 19 19 capabilities ≡ 1) × (start + size ≤ 2 ^ 32)
Reaches capabilities Way.Adma64 start size = (field 19 19 capabilities ≡ 1) × ((field 28 28 capabilities ≡ 1) × (start % 8 ≡ 0))

-- between two commands, with no data under way
abbrev pub IsFreeOf : ControllerView → Type 0
IsFreeOf view = view.is_kept ≡ true → (is_at_rest view ≡ true) × ((view.transfer ≡ Data.Nothing) × (is_set view.settings ≡ true))

-- memory of so many bytes is lent
abbrev pub IsLent : ControllerView → ℕ → ℕ → Type 0
IsLent view start size = view.is_kept ≡ true → (view.dma.start ≡ start) × (size_of view.dma.lent ≡ size)

-- All is set for DMA, and nothing else is changed.
pub record Prepared (old new : ControllerView) : Type 0 where
  pub same : new ≡ record old { settings = new.settings; sizes = new.sizes; dma = new.dma }
  pub lines : lines_in new.settings.control ≡ lines_in old.settings.control
  pub clock : new.settings.clock ≡ old.settings.clock
  pub set : is_set new.settings ≡ true
  pub rest : is_at_rest new ≡ true
  pub lent : new.dma.lent ≡ old.dma.lent
  pub moves : is_dma_set new ≡ true

abbrev pub Prepares : ControllerView → ControllerView → Type 0
Prepares old new = Settled old (Prepared old new) new

-- errors of ADMA2 are shown too, and nothing else is changed
abbrev pub ShowsErrors : ControllerView → ControllerView → Type 0
ShowsErrors old new =
    Settled old
    ((new ≡ showing old new.settings.shown) × ((are_shown new.settings.shown ≡ true) × (field 25 25 new.settings.shown ≡ 1))) new

-- nothing runs, and no data is under way
abbrev pub IsIdle : ControllerView → Type 0
IsIdle view = view.is_kept ≡ true → is_idle view ≡ true

-- A table of what is lent stands at this bus address.
abbrev pub IsTabled : ControllerView → Dma → ℕ → Type 0
IsTabled view Way.Sdma table = ⊥
IsTabled view Way.Adma32 table = (view.dma.table ≡ Some table) × (table < 2 ^ 32)
IsTabled view Way.Adma64 table = view.dma.wide_table ≡ Some table

-- Capabilities are these
abbrev pub AreCapabilities : ControllerView → ℕ → Type 0
AreCapabilities view capabilities = view.is_kept ≡ true → view.built.capabilities ≡ capabilities

-- data is moved
abbrev pub IsMoving : ControllerView → Type 0
IsMoving view = view.is_kept ≡ true → (view.dma.is_moving ≡ true) × (has_data view.transfer ≡ true)

-- A look found that all of it was moved, or that one failed; without one nothing but what was looked at has changed.
abbrev pub WatchedMoving : ControllerView → Option ℕ → ControllerView → Type 0
WatchedMoving old None new = new ≡ record old { status = new.status }
WatchedMoving old (Some bits) new = ((is_error bits || is_complete bits) ≡ true) × MovingLook old bits new

abbrev pub WatchesMoving : ControllerView → Option ℕ → ControllerView → Type 0
WatchesMoving old result new = Settled old (WatchedMoving old result new) new

-- All of it was moved, or some and then one failed: of a read, this became of it.
abbrev pub Ended : ControllerView → Option DataIn → ControllerView → Type 0
Ended old None new = AllMoved old.transfer old.dma.lent (seen old) new.dma.lent (seen new)
Ended old (Some got) new =
    (new.dma.lent ≡ old.dma.lent) × SomeMoved old.transfer old.dma.lent got (seen old) (seen new)

pub record Finished (old : ControllerView) (failed : Option DataIn) (new : ControllerView) : Type 0 where
  pub ended : Ended old failed new
  pub transfer : new.transfer ≡ Data.Nothing
  pub settings : new.settings ≡ old.settings
  pub built : new.built ≡ old.built

abbrev pub Finishes : ControllerView → Option DataIn → ControllerView → Type 0
Finishes old failed new = Settled old (Finished old failed new) new

-- no data is under way any more
abbrev pub ended : HostState → HostState
ended state = record state { transfer = Data.Nothing }

-- memory is lent that serves this data
abbrev pub IsLentFor : ControllerView → Data → Type 0
IsLentFor view transfer = view.is_kept ≡ true → is_lent_for view.dma.lent transfer ≡ true

-- What became of the data after a command: all blocks were moved, or one failed; none, where the command wasn't heard.
abbrev pub MovesAfter : ControllerView → Result Heard ResponseFault → ℕ → Moved DataIn → ControllerView → Type 0
MovesAfter old (Err fault) count moved new = (moved ≡ Move.Good 0) × (new ≡ old)
MovesAfter old (Ok heard) count (Move.Good done) new = (done ≡ count) × Finishes old None new
MovesAfter old (Ok heard) count (Move.Failed got) new = (got ≡ Came.Good → ⊥) × Finishes old (Some got) new

-- A command and so many blocks, which the controller moves by itself: all is set, the command goes out, and then the blocks are moved.
pub record MovesWith (old : ControllerView) (command : HostCommand) (heard : Result Heard ResponseFault) (count : ℕ)
    (moved : Moved DataIn) (new : ControllerView) : Type 0 where
  pub set : ControllerView
  pub between : ControllerView
  pub prepared : Prepares old set
  pub sent : Sends set command heard between
  pub lent : KeepsLent set (is_ok heard) between
  pub moves : MovesAfter between heard count moved new
