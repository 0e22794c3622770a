-- What goes into service.
use Rattle.std.specs.Prelude.{◌∷◌, ◌≡◌, List, [], ℕ}
use Rattle.mmc_queue.specs.Group.{IsFair}
use Rattle.mmc_queue.specs.Rule.{IsGroup, extent_of}
use Rattle.mmc_queue.specs.declared.entry.Entry.{Entry}
use Rattle.mmc_queue.specs.declared.extent.Extent.{Extent}
use Rattle.mmc_slots.specs.Slots.{AreOrdered, Memory, entries_in}
use Rattle.mmc_slots.specs.declared.slot.Slot.{Slot}
use Rattle.mmc_slots.specs.declared.slot.TheConstants.{ALONE, TOGETHER, WAITS}

-- nothing waits, and nothing is to be served alone
pub record IsIdle (memory : Memory) (slots : List Slot) : Type 0 where
  pub waits : entries_in memory WAITS slots ≡ []
  pub alone : entries_in memory ALONE slots ≡ []

-- nothing is in service, nothing is to be served alone, and the tickets ascend
pub record IsReady (memory : Memory) (next : ℕ) (slots : List Slot) : Type 0 where
  pub together : entries_in memory TOGETHER slots ≡ []
  pub alone : entries_in memory ALONE slots ≡ []
  pub ordered : AreOrdered next slots

-- of those that wait a group goes into service, and nothing is to be served alone then
pub record StartsGroup (memory : Memory) (most : ℕ) (old new : List Slot) (extent : Extent) : Type 0 where
  pub group : IsGroup most (entries_in memory WAITS old) (entries_in memory TOGETHER new) extent (entries_in memory WAITS new)
  pub alone : entries_in memory ALONE new ≡ []

-- and that group is fair
abbrev pub StartsFairly : Memory → List Slot → List Slot → Extent → Type 0
StartsFairly memory old new extent =
    IsFair (entries_in memory WAITS old) (entries_in memory TOGETHER new) extent (entries_in memory WAITS new)

-- of those that are to be served alone the first goes into service by itself, and the others still are; those that wait stay
pub record StartsAlone (memory : Memory) (e : Entry) (es : List Entry) (old new : List Slot) (extent : Extent) : Type 0 where
  pub together : entries_in memory TOGETHER new ≡ e ∷ []
  pub alone : entries_in memory ALONE new ≡ es
  pub waits : entries_in memory WAITS new ≡ entries_in memory WAITS old
  pub extent_is : extent ≡ extent_of e.request
