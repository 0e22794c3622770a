-- Which slot is found.
use Rattle.std.specs.Prelude.{◌<◌, ◌≡◌, ◌≢◌, All, List, length, take, true, ℕ}
use Rattle.mmc_queue.specs.Rule.{NoneMay, may_join}
use Rattle.mmc_queue.specs.declared.extent.Extent.{Extent}
use Rattle.mmc_slots.specs.Slots.{Memory, entries_in, entry_of, slot_at}
use Rattle.mmc_slots.specs.declared.slot.Slot.{Slot}
use Rattle.mmc_slots.specs.declared.slot.TheConstants.{WAITS}

-- no slot has this state
abbrev pub NoneIn : ℕ → List Slot → Type 0
NoneIn state slots = All (λ s. s.state ≢ state) slots

-- the first slot of this state
pub record IsFirst (state : ℕ) (slots : List Slot) (k : ℕ) : Type 0 where
  pub below : k < length slots
  pub is : (slot_at slots k).state ≡ state
  pub none_before : NoneIn state (take k slots)

-- the first slot of those that wait and may join
pub record IsNext (memory : Memory) (most : ℕ) (extent : Extent) (slots : List Slot) (k : ℕ) : Type 0 where
  pub below : k < length slots
  pub is : (slot_at slots k).state ≡ WAITS
  pub may : may_join most extent (entries_in memory WAITS slots) (entry_of memory (slot_at slots k)) ≡ true
  pub none_before : NoneMay most extent (entries_in memory WAITS slots) (entries_in memory WAITS (take k slots))
