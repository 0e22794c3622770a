use Rattle.std.proofs.Common.{take}
use Rattle.mmc_queue.specs.Rule.{NoneMay}
use Rattle.mmc_slots.specs.Slots.{Memory, entries_in}
use Rattle.mmc_slots.proofs.search.find.Given as goal

abbrev pub invariant-loop-k : goal.invariant-loop-k
invariant-loop-k l = (m : Memory) → NoneMay l.most l.extent (entries_in m 1 l.slots) (entries_in m 1 (take l.k l.slots))
