use Rattle.std.proofs.Common.{◌∙◌, ap, arith}
use Rattle.mmc_queue.proofs.GrowLemmas.{few_members, joins_next, widened_members}
use Rattle.mmc_queue.proofs.queue.Queue.grow.Goals as goal

pub loop-joined-preserved : goal.loop-joined-preserved
loop-joined-preserved c =
    let group = c.loop-joined.group in
    let left = c.loop-joined.self in
    let e = c.in-Ok.entry in
    let few = few_members group.extent left c.in-Some.ticket c.in-Some.ensures in
    let wide = ap (λ r. r.members) c.join.ensures.extent ∙ widened_members group.extent e.request in
    let long = c.join.ensures.counted in
    let low = c.loop-joined.invariant.1 in (
      omega (arith, long),
      omega (arith, wide, low),
      omega (arith, wide, few),
      (λ waits g.
          rw (c.join.ensures.extent, c.join.ensures.members)
          (joins_next waits group.members.items group.extent left c.in-Some.ticket e c.take.new.self c.in-Some.ensures
          c.in-Ok.ensures.taken.0 c.in-Ok.ensures.taken.1 c.in-Ok.ensures.taken.2 (c.loop-joined.invariant.3 waits g))),
    )
