use Rattle.std.proofs.Common.{◌+◌, ◌≡◌, ◌≢◌, ◌≤◌, List, ℕ}
use Rattle.mmc_queue.specs.Rule.{Grows}
use Rattle.mmc_queue.specs.declared.entry.Entry.{Entry}
use Rattle.mmc_slots.specs.Slots.{AreOrdered, Memory, SameButStates, entries_in}
use Rattle.mmc_slots.proofs.service.grow.Given as goal

abbrev pub invariant-loop-joined : goal.invariant-loop-joined
invariant-loop-joined l = record {
  some : l._joined + 1 ≤ l.extent.members;
  few : l.extent.members ≤ 16;
  grown : (m : Memory) (next : ℕ) (waits : List Entry) → AreOrdered next l.fn.slots
      → Grows l.most waits (entries_in m 2 l.fn.slots) l.fn.extent (entries_in m 1 l.fn.slots)
      → Grows l.most waits (entries_in m 2 l.slots) l.extent (entries_in m 1 l.slots);
  others : (m : Memory) (state : ℕ) → state ≢ 1 → state ≢ 2 → entries_in m state l.slots ≡ entries_in m state l.fn.slots;
  same : SameButStates l.fn.slots l.slots;
  ordered : (next : ℕ) → AreOrdered next l.fn.slots → AreOrdered next l.slots;
}
