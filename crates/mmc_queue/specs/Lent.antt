-- The members' buffers as the blocks of an extent: each block is found by its sector.
use Rattle.std.specs.Prelude.{◌&&◌, ◌+◌, ◌-◌, ◌≡◌, ◌∷◌, Bool, List, None, Option, Some, [], false, if◌then◌else◌}
use Rattle.std.specs.Prelude.{length, nat_le, nat_lt, slice_index_or, suc, true, zero, ℕ}
use Rattle.arrayvec.specs.ArrayVec.{with_item}
use Rattle.mmc_card.specs.declared.part.Part.TheVariants.{User}
use Rattle.mmc_card.specs.Sectors.{Sector}
use Rattle.mmc_bus.specs.Bytes.{blocks_in, with_block}
use Rattle.mmc_queue.specs.Requests.{bytes_of, start_of}
use Rattle.mmc_queue.specs.declared.entry.Entry.{Entry}
use Rattle.mmc_queue.specs.declared.group.Group.{Group}
use Rattle.mmc_queue.specs.declared.held.Held.{Held}
use Rattle.mmc_queue.specs.declared.held.Held.TheVariants.{Bytes, Room}
use Rattle.mmc_queue.specs.declared.request.Request.TheVariants.{Read}

-- the bytes, which begin at the request's first sector, have a block for the sector
abbrev pub has_block : Entry → List ℕ → ℕ → Bool
has_block e bytes sector =
    nat_le (start_of e.request) sector && nat_lt sector (start_of e.request + length (blocks_in bytes))

-- that block
abbrev pub block_of : Entry → List ℕ → ℕ → Sector
block_of e bytes sector = slice_index_or (blocks_in bytes) (sector - start_of e.request) []

-- the block for a sector: that of the first entry which has one
abbrev pub block_at : (Entry → List ℕ) → List Entry → ℕ → Option Sector
block_at held [] sector = None
block_at held (e ∷ es) sector =
    if has_block e (held e) sector then Some (block_of e (held e) sector) else block_at held es sector

abbrev pub before_rest : Option Sector → List Sector → List Sector
before_rest None rest = []
before_rest (Some block) rest = block ∷ rest

-- the blocks for so many sectors, up to the first that has none
abbrev pub blocks_from : (Entry → List ℕ) → List Entry → ℕ → ℕ → List Sector
blocks_from held es sector zero = []
blocks_from held es sector (suc count) =
    before_rest (block_at held es sector) (blocks_from held es (suc sector) count)

-- which of an entry's bytes are lent: the room for what it reads, or what it writes
abbrev pub held_by : Held → Entry → List ℕ
held_by Room e = e.buffer
held_by Bytes e = bytes_of e.request

abbrev pub blocks_held : Held → Group → List Sector
blocks_held held g = blocks_from (held_by held) g.members.items g.extent.start (g.extent.end - g.extent.start)

-- the buffers of a group as the blocks of its extent
abbrev pub blocks_of : Group → List Sector
blocks_of g = blocks_held Room g

-- and the bytes that its writes bring
abbrev pub write_blocks_of : Group → List Sector
write_blocks_of g = blocks_held Bytes g

-- Blocks that are written.

-- an entry after bytes were left in a block of its buffer
abbrev pub with_buffer : Entry → ℕ → List ℕ → Entry
with_buffer e i left = record e { buffer = with_block e.buffer i left }

-- entries after bytes were left in the block for a sector
abbrev pub with_sector : List Entry → ℕ → List ℕ → List Entry
with_sector [] sector left = []
with_sector (e ∷ es) sector left =
    if has_block e e.buffer sector then (with_buffer e (sector - start_of e.request) left ∷ es)
    else (e ∷ with_sector es sector left)

abbrev pub with_lent : Group → ℕ → List ℕ → Group
with_lent g i left = record g { members = record { items = with_sector g.members.items (g.extent.start + i) left } }

-- the same request of the same client with as much room: only what is in the room may differ
pub record IsLent (old new : Entry) : Type 0 where
  pub ticket : new.ticket ≡ old.ticket
  pub client : new.client ≡ old.client
  pub request : new.request ≡ old.request
  pub room : length new.buffer ≡ length old.buffer

-- so it is of each of these, in order
abbrev pub AreLent : List Entry → List Entry → Type 0
AreLent [] [] = Unit {0}
AreLent [] (new ∷ news) = ⊥
AreLent (old ∷ olds) [] = ⊥
AreLent (old ∷ olds) (new ∷ news) = IsLent old new × AreLent olds news

-- One member.

abbrev pub with_entry : Group → ℕ → Entry → Group
with_entry g k e = record g { members = with_item g.members k e }

abbrev pub entry_at : List Entry → ℕ → Entry
entry_at es k =
    slice_index_or es k
    (record { ticket = 0; client = 0; request = Read User 0 0; buffer = [] })

-- the first entry that has a block for the sector
abbrev pub IsFirst : Held → List Entry → ℕ → ℕ → Type 0
IsFirst held [] sector k = ⊥
IsFirst held (e ∷ es) sector zero = has_block e (held_by held e) sector ≡ true
IsFirst held (e ∷ es) sector (suc k) = (has_block e (held_by held e) sector ≡ false) × IsFirst held es sector k

-- the block for the sector is block j of member k
abbrev pub IsPlace : Held → List Entry → ℕ → ℕ → ℕ → Type 0
IsPlace held es sector k j = IsFirst held es sector k × (j ≡ sector - start_of (entry_at es k).request)
