-- What a port does with memory that it lends to a controller, and takes back.
use Rattle.std.specs.Prelude.{Bool, IfSome, List, None, Option, Some, [], false, length, slice_index_or, slice_range, suc, true, zero, ℕ, ◌<◌, ◌≤◌, ◌%◌, ◌*◌, ◌+◌, ◌^◌, ◌≡◌}
use Rattle.mmc_sdhci.specs.Controller.{ControllerView, Settled}
use Rattle.mmc_sdhci.specs.Lent.{Come, Lent, size_of}
use Rattle.mmc_sdhci.specs.declared.tables.Table.{Table}

-- memory is lent while no data is moved
abbrev pub IsUnmoved : ControllerView → Type 0
IsUnmoved view = view.is_kept ≡ true → view.dma.is_moving ≡ false

-- it is lent, from this bus address on, without a table as yet; or the controller can't have it
abbrev pub lends : ControllerView → Lent → ℕ → ControllerView
lends view lent start =
    record view { dma = record view.dma { lent = Some lent; start = start; table = None; wide_table = None } }

abbrev pub Lends : ControllerView → Lent → Option ℕ → ControllerView → Type 0
Lends old lent None new = Settled old (new ≡ old) new
Lends old lent (Some start) new = Settled old (new ≡ lends old lent start) new

-- words, within 64 bits
abbrev pub Fits : Option ℕ → ℕ → Type 0
Fits start count = IfSome start (λ address. (address % 4 ≡ 0) × (address + 512 * count < 2 ^ 64))

-- a table names what is lent
abbrev pub NamesLent : ControllerView → Table → Type 0
NamesLent view table = view.is_kept ≡ true → (view.dma.start ≡ table.start) × (size_of view.dma.lent ≡ table.size)

-- it is lent, at this bus address, or there is no room for it
abbrev pub lends_table : ControllerView → Bool → ℕ → ControllerView
lends_table view true address = record view { dma = record view.dma { wide_table = Some address } }
lends_table view false address = record view { dma = record view.dma { table = Some address } }

abbrev pub LendsTable : ControllerView → Bool → Option ℕ → ControllerView → Type 0
LendsTable old is_wide None new = Settled old (new ≡ old) new
LendsTable old is_wide (Some address) new = Settled old (new ≡ lends_table old is_wide address) new

-- words of 64 bits, within 32 bits where the table's addresses are
abbrev pub FitsTable : Bool → Option ℕ → Type 0
FitsTable is_wide place = IfSome place (λ address. (address % 8 ≡ 0) × (is_wide ≡ false → address < 2 ^ 32))

-- nothing is lent any more
abbrev pub unlent : ControllerView → ControllerView
unlent view = record view { dma = record view.dma { lent = None; table = None; wide_table = None } }

-- so many of these blocks stand in their places
abbrev pub placed : {S : Type 0} → (S → ℕ → List ℕ → S) → List (List ℕ) → S → ℕ → S
placed leave blocks was zero = was
placed leave blocks was (suc done) = leave (placed leave blocks was done) done (slice_index_or blocks done [])

-- one place is filled with what came there
abbrev pub TakesPlace : ControllerView → ℕ → List ℕ → ControllerView → Type 0
TakesPlace old i block new =
    Settled old
    ((new ≡ old)
    × ((come : List (List ℕ)) → old.dma.lent ≡ Some (Come come) → block ≡ slice_index_or come i [])) new

-- places from this one on are filled with what came there
abbrev pub TakesPlaces : ControllerView → ℕ → List ℕ → ControllerView → Type 0
TakesPlaces old first bytes new =
    Settled old
    ((new ≡ old)
    × ((come : List (List ℕ)) → old.dma.lent ≡ Some (Come come) → (i : ℕ) → 512 * i + 512 ≤ length bytes
    → slice_range bytes (512 * i) (512 * i + 512) ≡ slice_index_or come (first + i) [])) new

-- the first so many of what has come, if all has
abbrev pub AreThose : Option Lent → ℕ → List (List ℕ) → Type 0
AreThose lent count blocks =
    (come : List (List ℕ)) → lent ≡ Some (Come come) → (i : ℕ) → i < count
    → slice_index_or blocks i [] ≡ slice_index_or come i []

-- All places are filled, and what was lent is taken back: these blocks stand in them, and where all have come, they are those.
pub record TakesBack {S : Type 0} (leave : S → ℕ → List ℕ → S) (old : ControllerView) (was : S) (count : ℕ) (now : S)
    (new : ControllerView) : Type 0 where
  pub blocks : List (List ℕ)
  pub sized : (i : ℕ) → i < count → length (slice_index_or blocks i []) ≡ 512
  pub placed : now ≡ placed leave blocks was count
  pub back : Settled old (AreThose old.dma.lent count blocks × (new ≡ unlent old)) new
