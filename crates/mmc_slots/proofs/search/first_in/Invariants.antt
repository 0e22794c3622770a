use Rattle.std.proofs.Common.{take}
use Rattle.mmc_slots.specs.Search.{NoneIn}
use Rattle.mmc_slots.proofs.search.first_in.Given as goal

abbrev pub invariant-loop-k : goal.invariant-loop-k
invariant-loop-k l = NoneIn l.state (take l.k l.slots)
