use Rattle.std.proofs.Common.{◌++◌, ◌≡◌, drop, take}
use Rattle.mmc_queue.specs.Rule.{with_member}
use Rattle.mmc_queue.specs.declared.entry.Entry.{Entry}
use Rattle.mmc_queue.proofs.group.index_for.Given as goal

abbrev pub invariant-loop-k : goal.invariant-loop-k
invariant-loop-k l =
    (e : Entry) → e.ticket ≡ l.ticket
    → take l.k l.members.items ++ with_member (drop l.k l.members.items) e ≡ with_member l.members.items e
