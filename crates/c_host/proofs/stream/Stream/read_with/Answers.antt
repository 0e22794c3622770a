use Rattle.std.proofs.Common.{◌*◌, ◌+◌, ◌-◌, ◌/◌, ◌<◌, ◌∙◌, ◌≡◌, ◌≤◌, arith, length, refl, subst, sym}
use Rattle.std.specs.Prelude.{IfSome, Option, slice_index}
use Rattle.mmc_card.specs.declared.exchange.DataIn.{DataIn}
use Rattle.mmc_card.specs.declared.exchange.DataIn.TheVariants.{Good}
use Rattle.mmc_bus.specs.Together.{AreGood, none_good}
use Rattle.mmc_host.specs.Hosts.{unkept_host}
use Rattle.mmc_host.specs.Together.{HostRead}
use Rattle.c_host.proofs.MovedLemmas.{all_read, few_touched, is_other_in, some_failed}
use Rattle.c_host.proofs.TakenLemmas.{more_good, more_taken}
use Rattle.c_host.specs.Records.{touched_by}
use Rattle.c_host.specs.Told.{AreTaken, none_taken}
use Rattle.c_host.proofs.stream.Stream.read_with.Goals as goal

pub loop-done-init : goal.loop-done-init
loop-done-init g c = record {
  inside = omega arith;
  good = none_good;
  many = sym c.len-count.ensures;
  taken = none_taken;
  same = c.send_with-answer.ensures.same;
}

pub blocks_mut-piece-requires : goal.blocks_mut-piece-requires
blocks_mut-piece-requires g c =
    let many = c.loop-done.invariant.many in
    let begun = c.loop-done.invariant.inside in
    let most : c.touched_by-touched.result ≤ c.len-count.result =
    rw c.touched_by-touched.ensures (rw c.moved_by-moved.ensures (few_touched c.failed_by.result c.good_by.result c.len-count.result)) in
    record { some = omega (arith, c.loop-done-test.true); inside = omega (arith, many, begun, most) }

pub loop-done-preserved : goal.loop-done-preserved
loop-done-preserved g c =
    let places = g.D.Blocks.blocks in
    let leave = g.D.BlocksMut.with in
    let one = g.met.D.BlocksMut.writes_one in
    let was = c.args.blocks.now in
    let now = c.loop-done.blocks in
    let first = c.loop-done.done in
    let count = c.len-count.result in
    let so_far = c.loop-done.invariant in
    let many = so_far.many in
    let begun = so_far.inside in
    let most = c.touched_by-touched.result - first in
    let few : c.touched_by-touched.result ≤ count =
    rw c.touched_by-touched.ensures (rw c.moved_by-moved.ensures (few_touched c.failed_by.result c.good_by.result count)) in
    let some : 0 < most = omega (arith, c.loop-done-test.true) in
    let within : first + most ≤ length (places now) = omega (arith, many, begun, few) in
    let together = g.D.BlocksMut.together now first most in
    let has = (g.met.D.BlocksMut.has_some now first most some within).1 in
    let len = c.blocks_mut-piece.ensures.len in
    let left = c.take.new.bytes in
    let long : length left ≡ 512 * together = c.take.ensures.length ∙ len in
    let all = g.met.D.BlocksMut.writes_all now first most left some within long in
    let size : length c.blocks_mut-piece.result.now / 512 ≡ together = omega (arith, len) in
    let inside : first + together ≤ count = omega (arith, has, begun, few) in
    let good = more_good places leave one was now first together count left many inside long so_far.good in
    record {
      inside = omega (arith, size, has, begun);
      good = rw (all, size) good.0;
      many = rw all good.1;
      taken = rw (all, size, c.take.ensures.past) (more_taken places leave one was now first together count left many inside long
          c.send_with-answer.new.self.diary.past c.loop-done.self.diary.past c.take.result so_far.taken);
      same = c.take.ensures.same ∙ so_far.same;
    }

pub returns-clause-reads : goal.returns-clause-reads
returns-clause-reads g c =
    let begun = c.loop-done.invariant.inside in
    let end : c.loop-done.done ≡ touched_by c.moved_by-moved.result c.len-count.result =
    omega (arith, c.touched_by-touched.ensures, begun, c.loop-done-test.false) in
    record {
      between = unkept_host;
      sent = λ kept. absurd (cc);
      read = all_read g.D.Blocks.blocks g.D.BlocksMut.with g.met.D.BlocksMut.writes_one c.args.blocks.now
          c.moved_by-moved.result c.len-count.result c.loop-done.blocks c.len-count.ensures
          (λ got is. some_failed (λ (x : DataIn). x ≡ Good → ⊥) c.failed_by.result c.good_by.result c.len-count.result got
          (subst (λ (x : Option DataIn). IfSome x (λ y. y ≡ Good → ⊥)) (sym c.failed_by.ensures)
          (is_other_in (slice_index c.send_with-answer.result 18)))
          (sym c.moved_by-moved.ensures ∙ is))
          (subst (λ n. AreGood HostRead g.D.Blocks.blocks g.D.BlocksMut.with unkept_host c.args.blocks.now n unkept_host
          c.loop-done.blocks) end c.loop-done.invariant.good);
    }

pub returns-clause-tells : goal.returns-clause-tells
returns-clause-tells g c =
    let places = g.D.Blocks.blocks c.loop-done.blocks in
    let same : length places ≡ c.len-count.result = c.loop-done.invariant.many in
    let begun = c.loop-done.invariant.inside in
    let end : c.loop-done.done ≡ touched_by c.moved_by-moved.result c.len-count.result =
    omega (arith, c.touched_by-touched.ensures, begun, c.loop-done-test.false) in
    let new = c.loop-done.self.diary.past in (
      c.send_with-answer.result,
      rw same (subst (λ old. AreTaken places old (touched_by c.moved_by-moved.result c.len-count.result) new)
          c.send_with-answer.ensures.told
          (subst (λ n. AreTaken places c.send_with-answer.new.self.diary.past n new) end c.loop-done.invariant.taken)),
      c.heard_by-heard.ensures,
      rw same (c.moved_by-moved.ensures ∙ rw c.failed_by.ensures (rw c.good_by.ensures refl)),
    )
