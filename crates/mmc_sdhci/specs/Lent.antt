-- Memory that is lent to a controller, so that it moves blocks by itself (SDMA and ADMA2; SD Host Controller Simplified Specification 3.00,
-- sections 1.4 and 1.13).
use Rattle.std.specs.Prelude.{Bool, List, None, Option, Some, [], false, length, nat_le, ℕ, ◌%◌, ◌&&◌, ◌*◌, ◌+◌, ◌==◌}
use Rattle.mmc_host.specs.declared.data.Data.{Data}

-- Blocks of 512 bytes: room for so many, of which nothing is known until all have come; those that have come; or those that are
-- written.
pub data Lent : Type 0 where
  Room : ℕ → Lent
  Come : List (List ℕ) → Lent
  ToGo : List (List ℕ) → Lent

pub record Dma : Type 0 where
  -- what is lent, if anything is, and its bus address
  pub lent : Option Lent
  pub start : ℕ
  -- where a table stands that names its pieces, once one is lent too: by addresses of 32 bits, or of 64
  pub table : Option ℕ
  pub wide_table : Option ℕ
  -- SDMA System Address (00h), as it was written since the last command: data that is moved counts it on
  pub sdma_address : Option ℕ
  -- ADMA System Address, its lower half (58h) and its upper one (5Ch)
  pub adma_address : ℕ
  pub adma_upper : ℕ
  -- the controller moves data by itself: that of the command that was begun last
  pub is_moving : Bool

-- nothing is lent
abbrev pub nothing_lent : Dma
nothing_lent =
    record {
      lent = None;
      start = 0;
      table = None;
      wide_table = None;
      sdma_address = None;
      adma_address = 0;
      adma_upper = 0;
      is_moving = false;
    }

-- what is lent serves this data: it is room for just so many blocks, or just so many that are to go
abbrev pub is_lent_for : Option Lent → Data → Bool
is_lent_for (Some (Room room)) (Data.Read size count) = (size == 512) && (room == count)
is_lent_for (Some (ToGo blocks)) (Data.Write count) = length blocks == count
is_lent_for _ transfer = false

-- the blocks that are to go
abbrev pub blocks_to_go : Option Lent → List (List ℕ)
blocks_to_go (Some (ToGo blocks)) = blocks
blocks_to_go _ = []

-- its bytes
abbrev pub size_of : Option Lent → ℕ
size_of (Some (Room room)) = 512 * room
size_of (Some (Come blocks)) = 512 * length blocks
size_of (Some (ToGo blocks)) = 512 * length blocks
size_of None = 0

-- it is where the controller looks for it
abbrev pub is_pointed : Option ℕ → ℕ → Bool
is_pointed None address = false
is_pointed (Some table) address = table == address

-- memory that crosses no multiple of 512 KiB, at which SDMA would stop
abbrev pub crosses_none : ℕ → ℕ → Bool
crosses_none start size = nat_le (start % 0x80000 + size) 0x80000
