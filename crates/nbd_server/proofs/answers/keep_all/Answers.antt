use Rattle.std.proofs.Common.{arith, refl, ◌++◌}
use Rattle.std.proofs.lemmas.List.Sorted.{IsPermutation-more, IsPermutation-refl}
use Rattle.nbd_server.proofs.answers.keep_all.Goals as goal

pub loop-last-init : goal.loop-last-init
loop-last-init c = record { longer = refl; kept = IsPermutation-refl (c.args.all.now.items ++ c.args.given.now.items) }

pub loop-last-preserved : goal.loop-last-preserved
loop-last-preserved c =
    let so_far = c.loop-last.invariant in
    let (some, last) = c.in-Some.ensures in
    record {
      longer = omega (arith, so_far.longer, c.push.ensures.len, c.remove.ensures.len);
      kept = rw (c.push.ensures.items, c.remove.ensures.items) (IsPermutation-more (c.args.all.now.items ++ c.args.given.now.items)
          c.loop-last.all.items c.loop-last.given.items c.in-Some.last c.remove.result (omega (arith, some, last, c.len.ensures.value))
          c.remove.ensures.value so_far.kept);
    }
