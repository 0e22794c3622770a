-- What was read and written, access by access, what was lent, and what was waited for.
use Rattle.std.specs.Prelude.{[], ◌∷◌, Bool, List, Option, ℕ}
use Rattle.mmc_sdhci.specs.Beside.{Beside, read_on, untold, wait_on, waited_on, write_on}

-- each register with its offset, and what was read or written
pub data Access : Type 0 where
  Read32 : ℕ → ℕ → Access
  Write32 : ℕ → ℕ → Access
  Read8 : ℕ → ℕ → Access
  Write8 : ℕ → ℕ → Access
  -- a whole block was taken from the Buffer Data Port, or written to it
  PortRead : List ℕ → Access
  PortWritten : List ℕ → Access
  -- room for so many blocks was lent, or these blocks to go: from this bus address on, or the controller can't have them
  RoomLent : ℕ → Option ℕ → Access
  BlocksLent : List (List ℕ) → Option ℕ → Access
  -- and a table of them, by addresses of 64 bits or of 32
  TableLent : Bool → Option ℕ → Access
  -- what has come into the place with this number was taken, or into those from it on
  PlaceTaken : ℕ → List ℕ → Access
  PlacesTaken : ℕ → List ℕ → Access
  -- what was lent was taken back
  TakenBack : Access
  -- for so many microseconds; or until one of these bits of Interrupt Status (30h) is set, and so many microseconds otherwise
  Pause : ℕ → Access
  Wait : ℕ → ℕ → Access
  -- something was asked for that no controller can do
  Misused : Access

-- for how long it is known that was waited by these accesses, the last one first, and what Present State showed last; before the first one it showed nothing
abbrev pub beside_after : Beside → Access → Beside
beside_after beside (Read32 offset value) = read_on beside offset value
beside_after beside (Write32 offset value) = write_on beside
beside_after beside (Write8 offset value) = write_on beside
beside_after beside (Pause micros) = waited_on beside micros
beside_after beside (Wait interrupts micros) = wait_on beside interrupts micros
beside_after beside _ = beside

abbrev pub beside_of : List Access → Beside
beside_of [] = untold
beside_of (access ∷ past) = beside_after (beside_of past) access
