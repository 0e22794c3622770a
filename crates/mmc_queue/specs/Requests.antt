-- Headline (docs/AUDIT.md, "What to read").
-- What a request names, and when two requests conflict. The rules are the project's own.
use Rattle.std.specs.Prelude.{◌&&◌, ◌*◌, ◌+◌, ◌<◌, ◌==◌, ◌≡◌, ◌≤◌, Bool, List, [], length, nat_lt, not, true, ℕ}
use Rattle.mmc_card.specs.declared.part.Part.{Part}
use Rattle.mmc_card.specs.Sectors.{part_number}
use Rattle.mmc_requests.specs.Kinds.{is_read as reads, moves_blocks}
use Rattle.mmc_requests.specs.declared.asked.Asked.{Asked}
use Rattle.mmc_requests.specs.declared.kind.Kind.{Kind}
use Rattle.mmc_requests.specs.declared.kind.Kind.TheVariants as kind
use Rattle.mmc_queue.specs.declared.request.Request.{Request}
use Rattle.mmc_queue.specs.declared.request.Request.TheVariants.{Erase, Read, Trim, Write}

abbrev pub part_of : Request → Part
part_of (Read part start count) = part
part_of (Write part start count bytes) = part
part_of (Erase part start count) = part
part_of (Trim part start count) = part

abbrev pub start_of : Request → ℕ
start_of (Read part start count) = start
start_of (Write part start count bytes) = start
start_of (Erase part start count) = start
start_of (Trim part start count) = start

abbrev pub count_of : Request → ℕ
count_of (Read part start count) = count
count_of (Write part start count bytes) = count
count_of (Erase part start count) = count
count_of (Trim part start count) = count

-- the sector after its last one
abbrev pub end_of : Request → ℕ
end_of request = start_of request + count_of request

abbrev pub kind_of : Request → Kind
kind_of (Read part start count) = kind.Read
kind_of (Write part start count bytes) = kind.Write
kind_of (Erase part start count) = kind.Erase
kind_of (Trim part start count) = kind.Trim

-- what it asks for
abbrev pub asked_of : Request → Asked
asked_of r = record { kind = kind_of r; part = part_of r; start = start_of r; count = count_of r }

-- the kinds in order
abbrev pub kind_number : Kind → ℕ
kind_number kind.Read = 0
kind_number kind.Write = 1
kind_number kind.Erase = 2
kind_number kind.Trim = 3

-- the bytes that it brings
abbrev pub bytes_of : Request → List ℕ
bytes_of (Read part start count) = []
bytes_of (Write part start count bytes) = bytes
bytes_of (Erase part start count) = []
bytes_of (Trim part start count) = []

-- neighbours of these kinds may be served together: those that move blocks
abbrev pub can_merge : Kind → Bool
can_merge its_kind = moves_blocks its_kind

-- it changes nothing
abbrev pub is_read : Request → Bool
is_read request = reads (kind_of request)

-- a write has 512 bytes for each sector
abbrev pub has_its_bytes : Request → Bool
has_its_bytes (Read part start count) = true
has_its_bytes (Write part start count bytes) = length bytes == 512 * count
has_its_bytes (Erase part start count) = true
has_its_bytes (Trim part start count) = true

-- the bytes that the answer to a request has room for
abbrev pub room_of : Request → ℕ
room_of (Read part start count) = 512 * count
room_of (Write part start count bytes) = 0
room_of (Erase part start count) = 0
room_of (Trim part start count) = 0

-- the request names this sector
pub record Names (request : Request) (part : Part) (sector : ℕ) : Type 0 where
  pub part_is : part_of request ≡ part
  pub from : start_of request ≤ sector
  pub to : sector < end_of request

-- both requests name some sector
abbrev pub ShareSector : Request → Request → Type 0
ShareSector a b = (part : Part) × (sector : ℕ) × Names a part sector × Names b part sector

-- the same as a test: one partition, neither request is of no sectors, and each begins before the other ends
abbrev pub overlap : Request → Request → Bool
overlap a b =
    (part_number (part_of a) == part_number (part_of b))
    && (nat_lt 0 (count_of a) && nat_lt 0 (count_of b))
    && (nat_lt (start_of a) (end_of b) && nat_lt (start_of b) (end_of a))

-- Two requests conflict: a sector lies in both of them, and not both of them are reads.
abbrev pub conflicts : Request → Request → Bool
conflicts a b = overlap a b && not (is_read a && is_read b)
