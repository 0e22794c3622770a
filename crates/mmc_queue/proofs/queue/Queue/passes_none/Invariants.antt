use Rattle.std.proofs.Common.{◌≡◌}
use Rattle.std.specs.Map.{values_of}
use Rattle.mmc_queue.specs.Rule.{passes_none}
use Rattle.mmc_queue.proofs.queue.Queue.passes_none.Given as goal

abbrev pub invariant-loop-other : goal.invariant-loop-other
invariant-loop-other l = passes_none l.entry (values_of l.other-iterator) ≡ passes_none l.entry l.self
