use Rattle.std.proofs.Common.{◌≡◌, ◌≤◌, length, take}
use Rattle.mmc_slots.specs.Slots.{Memory, entries_in}
use Rattle.mmc_slots.proofs.conclusion.count_together.Given as goal

abbrev pub invariant-loop-k : goal.invariant-loop-k
invariant-loop-k l = record {
  most : l.count ≤ l.k;
  count : (m : Memory) → l.count ≡ length (entries_in m 2 (take l.k l.slots));
}
