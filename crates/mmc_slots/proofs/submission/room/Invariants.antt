use Rattle.std.proofs.Common.{◌<◌, ◌≡◌, ◌≤◌, ℕ}
use Rattle.mmc_slots.specs.Slots.{slot_at}
use Rattle.mmc_slots.proofs.submission.room.Given as goal

abbrev pub invariant-loop-k : goal.invariant-loop-k
invariant-loop-k l = (l.room ≤ l.k) × ((j : ℕ) → l.room ≤ j → j < l.k → (slot_at l.slots j).state ≡ 0)
