use Rattle.std.proofs.Common.{arith, drop, length-append, ◌++◌}
use Rattle.std.proofs.lemmas.List.{length-drop, length-take}
use Rattle.nbd_server.proofs.InputLemmas.{consumes_then}
use Rattle.nbd_server.proofs.input.skip.Goals as goal

pub loop-left-preserved : goal.loop-left-preserved
loop-left-preserved g c =
    let so_far = c.loop-left.invariant in
    let more = length-append so_far.taken c.fill.new.bytes in
    let was = so_far.many in
    let some = c.fill.auto.bytes in
    let few = c.min-some.ensures in
    let full = so_far.full in
    let taken = length-take c.min-some.result c.loop-left.chunk in
    let kept = length-append c.fill.new.bytes (drop c.min-some.result c.loop-left.chunk) in
    let after = length-drop c.min-some.result c.loop-left.chunk in
    record {
      full = omega (arith, full, some, taken, few, kept, after);
      taken = so_far.taken ++ c.fill.new.bytes;
      many = omega (arith, more, was, some, few, full, taken);
      read = consumes_then _ _ _ so_far.taken c.fill.new.bytes so_far.read c.in_ok-fill.ensures.read;
    }
