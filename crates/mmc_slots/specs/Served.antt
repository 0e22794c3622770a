-- What becomes of those that were in service together.
use Rattle.std.specs.Prelude.{◌==◌, ◌≡◌, List, [], if◌then◌else◌, map, ℕ}
use Rattle.mmc_slots.specs.Slots.{Memory, entries_in, in_state}
use Rattle.mmc_slots.specs.declared.slot.Slot.{Slot}
use Rattle.mmc_slots.specs.declared.slot.TheConstants.{ALONE, TOGETHER, WAITS}

-- one that is in service gets this state
abbrev pub moved_on : ℕ → Slot → Slot
moved_on state s = if s.state == TOGETHER then in_state state s else s

abbrev pub all_moved_on : ℕ → List Slot → List Slot
all_moved_on state slots = map (moved_on state) slots

-- they leave, and all others stay
pub record IsAnswered (memory : Memory) (old new : List Slot) : Type 0 where
  pub none : entries_in memory TOGETHER new ≡ []
  pub waits : entries_in memory WAITS new ≡ entries_in memory WAITS old
  pub alone : entries_in memory ALONE new ≡ entries_in memory ALONE old

-- they are to be served alone, and those that wait stay
pub record IsSplit (memory : Memory) (old new : List Slot) : Type 0 where
  pub none : entries_in memory TOGETHER new ≡ []
  pub waits : entries_in memory WAITS new ≡ entries_in memory WAITS old
  pub alone : entries_in memory ALONE new ≡ entries_in memory TOGETHER old
