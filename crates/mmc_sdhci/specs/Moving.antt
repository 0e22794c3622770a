-- What the driver's functions leave, where they move blocks.
use Rattle.std.specs.Prelude.{◌%◌, ◌==◌, ◌||◌, ◌≡◌, [], Bool, List, None, Option, Some, false, if◌then◌else◌, length, true, ℕ}
use Rattle.mmc_frame.specs.Field.{field}
use Rattle.mmc_card.specs.Faults.{ReadStep, WriteStep}
use Rattle.mmc_card.specs.declared.exchange.DataIn.{DataIn}
use Rattle.mmc_card.specs.declared.exchange.DataOut.{DataOut}
use Rattle.mmc_card.specs.declared.exchange.DataOut.TheVariants as Went
use Rattle.mmc_host.specs.HostStates.{is_accepted, is_good, less_one}
use Rattle.mmc_host.specs.declared.data.Data.{Data}
use Rattle.mmc_sdhci.specs.Commands.{Moves}
use Rattle.mmc_sdhci.specs.Controller.{ControllerView, Settled, Steps, seen}
use Rattle.mmc_sdhci.specs.DataLooks.{DataLooked, following_of, is_over_by, is_whole}
use Rattle.mmc_sdhci.specs.Accesses.{is_at_rest}
use Rattle.mmc_sdhci.specs.declared.watching.Glance.{Glance}
use Rattle.mmc_sdhci.specs.declared.watching.Sought.{Sought}
use Rattle.mmc_sdhci.specs.declared.watching.Sought.TheVariants as sought

-- a rule for a controller that is kept
abbrev pub WhereKept : ControllerView → Type 0 → Type 0
WhereKept view Rule = view.is_kept ≡ true → Rule

-- blocks are read, or written
abbrev pub AreRead : Data → Type 0
AreRead transfer = (size : ℕ) × (blocks : ℕ) × (transfer ≡ Data.Read size blocks)

abbrev pub AreWritten : Data → Type 0
AreWritten transfer = (blocks : ℕ) × (transfer ≡ Data.Write blocks)

-- where the driver looks for this: for a block, or that the one that was taken is good; for room, or that the block in the buffer has
-- gone
abbrev pub Seeks : Sought → ControllerView → Type 0
Seeks sought.Block view = AreRead view.transfer × (view.unjudged ≡ None)
Seeks (sought.Good following) view =
    AreRead view.transfer
    × (((block : List ℕ) × (view.unjudged ≡ Some block))
    × ((view.incoming ≡ []) × (following_of view.transfer ≡ following) × (view.outgoing ≡ [])))
Seeks sought.Room view = AreWritten view.transfer × (view.outgoing ≡ [])
Seeks (sought.Gone following) view =
    AreWritten view.transfer
    × ((is_whole view.outgoing ≡ true) × (following_of view.transfer ≡ following) × (view.unjudged ≡ None))

-- no command runs, nothing is left of one that failed or of other data, nothing settles, the card has started, and no data is moved by
-- DMA
pub record IsClear (view : ControllerView) : Type 0 where
  pub running : view.running ≡ None
  pub stuck : view.is_stuck ≡ false
  pub stale : view.is_stale ≡ false
  pub resetting : view.resetting ≡ None
  pub stabilizing : view.settings.stabilizing ≡ None
  pub starting : view.settings.starting ≡ None
  pub moving : view.dma.is_moving ≡ false

abbrev pub IsSeeking : Sought → ControllerView → Type 0
IsSeeking sought view = WhereKept view (IsClear view × Seeks sought view)

abbrev pub is_error : ℕ → Bool
is_error bits = field 15 15 bits == 1

abbrev pub is_found : Sought → Glance → Bool
is_found sought.Block seen = seen.is_ready
is_found sought.Room seen = seen.is_ready
is_found (sought.Good following) seen = is_over_by following seen.is_ready seen.bits
is_found (sought.Gone following) seen = is_over_by following seen.is_ready seen.bits

-- a look at the buffer, and then at the interrupt status
abbrev pub looking : ControllerView → Glance → ControllerView
looking view seen = record view { is_ready = seen.is_ready }

abbrev pub Glances : ControllerView → Sought → Glance → ControllerView → Type 0
Glances old sought seen new =
    Settled old
    (old.running ≡ None → old.dma.is_moving ≡ false → Seeks sought old → DataLooked (looking old seen) old.transfer seen.bits new) new

-- Looks until it is found or there is an error; without either nothing but what was looked at has changed.
abbrev pub OnlyWatched : ControllerView → ControllerView → Type 0
OnlyWatched old new = new ≡ record old { status = new.status; is_ready = new.is_ready }

abbrev pub Watched : ControllerView → Sought → Option Glance → ControllerView → Type 0
Watched old sought None new = OnlyWatched old new
Watched old sought (Some seen) new =
    ((is_error seen.bits || is_found sought seen) ≡ true) × DataLooked (looking old seen) old.transfer seen.bits new

abbrev pub Watches : ControllerView → Sought → Option Glance → ControllerView → Type 0
Watches old sought result new = Settled old (Watched old sought result new) new

-- the buffer is emptied into this block
abbrev pub Takes : ControllerView → List ℕ → ControllerView → Type 0
Takes old block new =
    Settled old
    (length old.incoming ≡ length block → length block % 4 ≡ 0
    → (old.incoming ≡ block) × (new ≡ record old { incoming = [] })) new

-- this block is in the buffer, to go
abbrev pub Puts : ControllerView → List ℕ → ControllerView → Type 0
Puts old block new = Settled old (new ≡ record old { outgoing = block; is_ready = false }) new

-- there is room for a block
abbrev pub HasRoom : ControllerView → Type 0
HasRoom view =
    WhereKept view (AreWritten view.transfer × ((view.is_ready ≡ true) × (view.outgoing ≡ [])))

-- a block is to come, of this length, or to go
abbrev pub IsComing : Data → ℕ → ControllerView → Type 0
IsComing under_way size view =
    WhereKept view
    ((view.transfer ≡ under_way) × ((blocks : ℕ) × (under_way ≡ Data.Read size blocks) × (size % 4 ≡ 0)))

abbrev pub IsGoing : Data → ControllerView → Type 0
IsGoing under_way view = WhereKept view ((view.transfer ≡ under_way) × AreWritten under_way)

-- One block: what the host learns is a step of the card. One that failed ends the data.
abbrev pub ReadsBlock : ControllerView → ℕ → DataIn → List ℕ → ControllerView → Type 0
ReadsBlock old size got block new =
    Settled old
    (Moves old (ReadStep (seen old) size got block (seen new)) (if is_good got then less_one old.transfer else Data.Nothing) new)
    new

abbrev pub WritesBlock : ControllerView → List ℕ → DataOut → ControllerView → Type 0
WritesBlock old block got new =
    Settled old
    (Moves old (WriteStep (seen old) block got (seen new)) (if is_accepted got then less_one old.transfer else Data.Nothing) new)
    new

-- room for a block was found; where not, the card's status of it didn't come, and the controller is at rest
pub record IsUnsent (old new : ControllerView) : Type 0 where
  pub step : (block : List ℕ) → Steps old (WriteStep (seen old) block Went.Nothing (seen new)) new
  pub transfer : new.transfer ≡ Data.Nothing
  pub settings : new.settings ≡ old.settings
  pub built : new.built ≡ old.built

abbrev pub FindsRoom : ControllerView → Bool → ControllerView → Type 0
FindsRoom old true new = Settled old (new ≡ record old { status = new.status; is_ready = true }) new
FindsRoom old false new = Settled old (IsUnsent old new × (is_at_rest new ≡ true)) new

-- the block in the buffer has gone, and was accepted, or its status didn't come
abbrev pub SeesGone : ControllerView → DataOut → ControllerView → Type 0
SeesGone old got new =
    Settled old
    (Moves old (WriteStep (seen old) old.outgoing got (seen new)) (if is_accepted got then less_one old.transfer else Data.Nothing) new
    × (is_at_rest new ≡ true)) new

-- the block that was taken is good; where not, the card's step is what came, and the controller is at rest
abbrev pub SeesGood : ControllerView → DataIn → ControllerView → Type 0
SeesGood old got new =
    Settled old
    (((size blocks : ℕ) (block : List ℕ) → old.transfer ≡ Data.Read size blocks → old.unjudged ≡ Some block
    → Moves old (ReadStep (seen old) size got block (seen new)) (if is_good got then less_one old.transfer else Data.Nothing) new)
    × (is_at_rest new ≡ true)) new
