use Rattle.std.proofs.Common.{◌+◌, ◌-◌, ◌*◌, ◌/◌, ◌<◌, ◌∙◌, ◌≡◌, ◌≤◌, ap, arith, length, refl, sym}
use Rattle.mmc_sdhci.specs.Controller.{ControllerView}
use Rattle.mmc_sdhci.specs.Lending.{unlent}
use Rattle.mmc_sdhci.proofs.Placing.{more_filled, more_from}
use Rattle.mmc_sdhci.proofs.moving.take_places.Goals as goal

pub loop-done-init : goal.loop-done-init
loop-done-init g c = record {
  inside = omega arith;
  filled = record { placed = refl; sized = λ j less. absurd (omega (arith, less)); many = refl };
  come = λ kept. (kept, (refl, λ come lent j less. absurd (omega (arith, less))));
}

pub loop-done-preserved : goal.loop-done-preserved
loop-done-preserved g c =
    let places = g.D.Blocks.blocks in
    let leave = g.D.BlocksMut.with in
    let one = g.met.D.BlocksMut.writes_one in
    let was = c.args.blocks.now in
    let now = c.loop-done.blocks in
    let first = c.loop-done.done in
    let most = c.len-count.result - first in
    let so_far = c.loop-done.invariant in
    let count = c.len-count.ensures in
    let many = so_far.filled.many in
    let begun = so_far.inside in
    let some : 0 < most = omega (arith, c.loop-done-test.true) in
    let within : first + most ≤ length (places now) = omega (arith, many, count, begun) in
    let together = g.D.BlocksMut.together now first most in
    let has = g.met.D.BlocksMut.has_some now first most some within in
    let left = c.take_places.new.blocks in
    let long : length left ≡ 512 * together = c.take_places.ensures.whole ∙ c.blocks_mut-piece.ensures.len in
    let all = g.met.D.BlocksMut.writes_all now first most left some within long in
    let len = c.blocks_mut-piece.ensures.len in
    let size : length c.blocks_mut-piece.result.now / 512 ≡ together = omega (arith, len) in
    let few = has.1 in
    let inside : first + together ≤ length (places was) = omega (arith, many, within, few) in
    record {
      inside = omega (arith, size, few, begun);
      filled = rw (all, size) (more_filled places leave one was first together left now long inside so_far.filled);
      come = λ kept.
          let taken = c.take_places.ensures.takes kept in
          let before = so_far.come taken.0 in (
            before.0,
            (
              taken.1.0 ∙ before.1.0,
              λ come lent.
                  rw (all, size) (more_from places leave one was first together left now long inside come
                  (λ k less. taken.1.1 come (ap (λ (v : ControllerView). v.dma.lent) before.1.0 ∙ lent) k (omega (arith, less, long)))
                  so_far.filled (before.1.1 come lent)),
            ),
          );
    }

pub returns : goal.returns
returns g c =
    let filled = c.loop-done.invariant.filled in
    let begun = c.loop-done.invariant.inside in
    let count = c.len-count.ensures in
    let end : c.loop-done.done ≡ length (g.D.Blocks.blocks c.args.blocks.now) = omega (arith, c.loop-done-test.false, begun, count) in
    record {
      blocks = g.D.Blocks.blocks c.loop-done.blocks;
      sized = λ j less. filled.sized j (omega (arith, less, end));
      placed = rw (sym end) filled.placed;
      back = λ kept.
          let t = c.take_back.ensures kept in
          let so_far = c.loop-done.invariant.come t.0 in (
            so_far.0,
            (
              λ come lent j less. so_far.1.1 come lent j (omega (arith, less, end)),
              t.1 ∙ ap (λ (v : ControllerView). unlent v) so_far.1.0,
            ),
          );
    }
