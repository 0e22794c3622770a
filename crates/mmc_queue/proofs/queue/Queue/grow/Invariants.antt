use Rattle.std.proofs.Common.{◌+◌, ◌≡◌, ◌≤◌, List}
use Rattle.arrayvec.specs.ArrayVec.{array_vec_len}
use Rattle.mmc_queue.specs.Rule.{Grows}
use Rattle.mmc_queue.specs.declared.entry.Entry.{Entry}
use Rattle.mmc_requests.specs.declared.limits.TheConstants.{MAX_COUNT}
use Rattle.mmc_queue.proofs.queue.Queue.grow.Given as goal

abbrev pub invariant-loop-joined : goal.invariant-loop-joined
invariant-loop-joined l =
    (l.group.extent.members ≡ array_vec_len l.group.members) × (l._joined + 1 ≤ l.group.extent.members)
    × (l.group.extent.members ≤ 16)
    × ((waits : List Entry) → Grows MAX_COUNT waits l.initial.group.members.items l.initial.group.extent l.initial.self
    → Grows MAX_COUNT waits l.group.members.items l.group.extent l.self)
