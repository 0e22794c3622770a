-- Data of an SD host controller: what a look finds while blocks are under way, and what a reset drops (SD Host Controller Simplified
-- Specification 3.00, sections 2.2.8, 2.2.9 and 2.2.18).
use Rattle.std.specs.Prelude.{Bool, List, None, Option, Some, [], false, if◌then◌else◌, length, true, ℕ, ◌&&◌, ◌==◌, ◌||◌, ◌∷◌, ◌≡◌}
use Rattle.mmc_frame.specs.Field.{field}
use Rattle.mmc_card.specs.declared.exchange.DataIn.{DataIn}
use Rattle.mmc_card.specs.declared.exchange.DataIn.TheVariants as Came
use Rattle.mmc_card.specs.declared.exchange.DataOut.TheVariants as Went
use Rattle.mmc_card.specs.Faults.{ReadStep, WriteStep}
use Rattle.mmc_host.specs.HostStates.{less_one}
use Rattle.mmc_host.specs.declared.data.Data.{Data}
use Rattle.mmc_sdhci.specs.declared.following.Following.{Following}
use Rattle.mmc_sdhci.specs.declared.following.Following.TheVariants.{Another, End}
use Rattle.mmc_sdhci.specs.Controller.{ControllerView, Steps, moved, seen}

abbrev pub is_empty : List ℕ → Bool
is_empty [] = true
is_empty (byte ∷ bytes) = false

-- what comes after the next block of this data
abbrev pub following_counted : ℕ → Following
following_counted count = if count == 1 then End else Another

abbrev pub following_of : Data → Following
following_of Data.Nothing = End
following_of (Data.Read size blocks) = following_counted blocks
following_of (Data.Write blocks) = following_counted blocks

-- Transfer Complete
abbrev pub is_complete : ℕ → Bool
is_complete bits = field 1 1 bits == 1

-- the data line is broken: its reset is to come
abbrev pub broken : ControllerView → ℕ → ControllerView
broken view bits =
    record view { status = bits; transfer = Data.Nothing; is_stale = true; is_ready = false; unjudged = None; outgoing = [] }

-- the error interrupts: bits 21 and 22 are a bad check and a bad end bit, otherwise nothing came (bit 20)
abbrev pub came : ℕ → DataIn
came bits = if (field 21 21 bits == 1) || (field 22 22 bits == 1) then Came.Bad else Came.Nothing

-- A block is over, one that was taken out of the buffer or one that has gone: nothing can be wrong with it any more. Transfer Complete
-- has come after the last one that is counted, and the next one, or room for it, is there after any other.
abbrev pub is_over_by : Following → Bool → ℕ → Bool
is_over_by End ready bits = is_complete bits
is_over_by Another ready bits = ready

-- a look finds something new: a block in the buffer, or that the one that was in it is good
abbrev pub has_news : ControllerView → Option (List ℕ) → ℕ → Bool
has_news view None bits = view.is_ready
has_news view (Some block) bits =
    is_empty view.incoming && is_over_by (following_of view.transfer) view.is_ready bits

-- A look at the interrupt status while blocks of this length are read.
pub data ReadLook (old : ControllerView) (size bits : ℕ) (new : ControllerView) : Type 0 where
  waits : field 15 15 bits ≡ 0 → has_news old old.unjudged bits ≡ false → new ≡ record old { status = bits }
      → ReadLook old size bits new
  comes : (block : List ℕ) → field 15 15 bits ≡ 0 → old.unjudged ≡ None → old.is_ready ≡ true → length block ≡ size
      → new ≡ record old { status = bits; is_ready = false; incoming = block; unjudged = Some block }
      → ReadLook old size bits new
  good : (block : List ℕ) → field 15 15 bits ≡ 0 → old.unjudged ≡ Some block → has_news old (Some block) bits ≡ true
      → Steps old (ReadStep (seen old) size Came.Good block (seen new)) new
      → new ≡ record (moved old new) {
        status = bits;
        transfer = less_one old.transfer;
        is_ready = false;
        unjudged = None;
      }
      → ReadLook old size bits new
  failed : field 15 15 bits ≡ 1
      → ((block : List ℕ) → Steps old (ReadStep (seen old) size (came bits) block (seen new)) new)
      → new ≡ broken (moved old new) bits
      → ReadLook old size bits new

-- A whole block has been written to the buffer, and has gone. Where the buffer has room for several, the card may still reject a
-- block that isn't the last, which the next look says (`MeetsBlock`, `turn_out`).
abbrev pub is_whole : List ℕ → Bool
is_whole bytes = length bytes == 512

abbrev pub is_gone : ControllerView → ℕ → Bool
is_gone view bits = is_whole view.outgoing && is_over_by (following_of view.transfer) view.is_ready bits

-- the block that was offered: the one in the buffer, or any where none is
abbrev pub IsOffered : List ℕ → List ℕ → Type 0
IsOffered outgoing block = is_empty outgoing ≡ false → outgoing ≡ block

-- the card's status of the block didn't come
abbrev pub IsUntold : ControllerView → ControllerView → Type 0
IsUntold old new =
    (block : List ℕ) → IsOffered old.outgoing block → Steps old (WriteStep (seen old) block Went.Nothing (seen new)) new

-- A look at the interrupt status while blocks are written.
pub data WriteLook (old : ControllerView) (bits : ℕ) (new : ControllerView) : Type 0 where
  waits : field 15 15 bits ≡ 0 → is_gone old bits ≡ false → new ≡ record old { status = bits } → WriteLook old bits new
  accepted : field 15 15 bits ≡ 0 → is_gone old bits ≡ true
      → Steps old (WriteStep (seen old) old.outgoing Went.Accepted (seen new)) new
      → new ≡ record (moved old new) {
        status = bits;
        transfer = less_one old.transfer;
        is_ready = false;
        outgoing = [];
      }
      → WriteLook old bits new
  failed : field 15 15 bits ≡ 1 → IsUntold old new → new ≡ broken (moved old new) bits → WriteLook old bits new

-- a look while no command runs, where data goes through the Buffer Data Port
abbrev pub DataLooked : ControllerView → Data → ℕ → ControllerView → Type 0
DataLooked old Data.Nothing bits new = new ≡ record old { status = bits }
DataLooked old (Data.Read size blocks) bits new = ReadLook old size bits new
DataLooked old (Data.Write blocks) bits new = WriteLook old bits new

-- any bits may be left in the interrupt status
abbrev pub any_bits : ℕ
any_bits = 0xffffffff

-- The reset of the data line: a block that was to come or to go is lost, and what was read ahead.
abbrev pub cleared : ControllerView → ControllerView
cleared view =
    record view {
      resetting = None;
      status = any_bits;
      transfer = Data.Nothing;
      is_stale = false;
      unjudged = None;
      is_ready = false;
      incoming = [];
      outgoing = [];
      dma = record view.dma { is_moving = false };
    }

abbrev pub DataDropped : ControllerView → Data → ControllerView → Type 0
DataDropped old Data.Nothing new = new ≡ cleared old
DataDropped old (Data.Read size blocks) new =
    ((block : List ℕ) → Steps old (ReadStep (seen old) size Came.Nothing block (seen new)) new)
    × (new ≡ cleared (moved old new))
DataDropped old (Data.Write blocks) new = IsUntold old new × (new ≡ cleared (moved old new))
