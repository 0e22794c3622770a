-- How much is left to do: each start of what is served next, and each end of it, leaves less.
use Rattle.std.specs.Prelude.{◌*◌, ◌+◌, ◌==◌, List, filter, if◌then◌else◌, length, nat_lt, ℕ}
use Rattle.mmc_slots.specs.declared.slot.Slot.{Slot}
use Rattle.mmc_slots.specs.declared.slot.TheConstants.{ALONE, TOGETHER, WAITS}

-- how many slots have this state
abbrev pub count_in : ℕ → List Slot → ℕ
count_in state slots = length (filter (λ s. s.state == state) slots)

-- for so many that are in service together: those that fail are still to be served alone, two for each
abbrev pub work_of_service : ℕ → ℕ
work_of_service members = if nat_lt 1 members then 2 * members + 1 else members

-- three for each request that waits, two for each that is to be served alone, and what those in service want
abbrev pub work_left : List Slot → ℕ
work_left slots = 3 * count_in WAITS slots + (2 * count_in ALONE slots + work_of_service (count_in TOGETHER slots))
