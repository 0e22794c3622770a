use Rattle.std.proofs.Common.{◌≡◌, drop}
use Rattle.mmc_queue.specs.Rule.{passes_none}
use Rattle.mmc_slots.specs.Slots.{Memory, entries_in, entry_of}
use Rattle.mmc_slots.proofs.search.passes_none.Given as goal

abbrev pub invariant-loop-k : goal.invariant-loop-k
invariant-loop-k l =
    (m : Memory)
    → passes_none (entry_of m l.slot) (entries_in m 1 (drop l.k l.slots)) ≡ passes_none (entry_of m l.slot) (entries_in m 1 l.slots)
