use Rattle.std.proofs.Common.{◌<◌, ◌∙◌, ◌≡◌, add-one, ap, arith, length, subst, sym}
use Rattle.std.proofs.lemmas.List.{length-set}
use Rattle.mmc_bus.proofs.TogetherLemmas.{good_lent}
use Rattle.mmc_bus.specs.Lending.{block}
use Rattle.mmc_bus.specs.Together.{AreGood, BlockRead, good_one, none_good, reads, reads_none}
use Rattle.mmc_card.specs.declared.exchange.DataIn.{DataIn}
use Rattle.moving_bus.proofs.OneLemmas.{one_read}
use Rattle.moving_bus.proofs.moving.MovingBusBus.read_with.Goals as goal

pub loop-done-init : goal.loop-done-init
loop-done-init g c = (none_good, sym c.len-count.ensures)

pub loop-done-preserved : goal.loop-done-preserved
loop-done-preserved g c =
    let same = c.loop-done.invariant.1 in
    let left = c.read_data-got.new.buffer in
    let below : c.loop-done.done < length (g.D.Blocks.blocks c.loop-done.blocks) = omega (arith, same) in
    let long : length left ≡ 512 = omega arith in
    let is = c.is_good.ensures.yes c.if-not-is_good.false in (
      rw add-one (good_one c.loop-done.done (g.B.Bus.view c.loop-done.self.bus) c.loop-done.blocks left
          (g.B.Bus.view c.read_data-got.new.self) c.loop-done.invariant.0 below long
          (subst (λ (got : DataIn). BlockRead (g.B.Bus.view c.loop-done.self.bus) got left (g.B.Bus.view c.read_data-got.new.self))
          is (one_read _ _ c.read_data-got.result left _ (omega arith) c.read_data-got.ensures))),
      ap length (g.met.D.BlocksMut.writes_one c.loop-done.blocks c.loop-done.done left below long)
          ∙ length-set (g.D.Blocks.blocks c.loop-done.blocks) c.loop-done.done left ∙ same,
    )

pub returns-then-not-is_good : goal.returns-then-not-is_good
returns-then-not-is_good g c =
    let same = c.loop-done.invariant.1 in
    let left = c.read_data-got.new.buffer in
    let below : c.loop-done.done < length (g.D.Blocks.blocks c.loop-done.blocks) = omega (arith, same) in
    let long : length left ≡ 512 = omega arith in
    record {
      between = g.B.Bus.view c.command-reply.new.self;
      commanded = c.command-reply.ensures;
      read = reads_none c.loop-done.done (g.B.Bus.view c.loop-done.self.bus) c.loop-done.blocks _ c.read_data-got.result left
          (g.B.Bus.view c.read_data-got.new.self) c.loop-done.invariant.0 below long
          (λ is. c.is_good.ensures.no c.if-not-is_good.true is)
          (one_read _ _ c.read_data-got.result left _ (omega arith) c.read_data-got.ensures)
          (block c.loop-done.blocks c.loop-done.done left
          (good_lent (g.B.Bus.view c.command-reply.new.self) c.args.blocks.now g.met.D.BlocksMut.writes_one c.loop-done.done
          (g.B.Bus.view c.loop-done.self.bus) c.loop-done.blocks c.loop-done.invariant.0) below long);
    }

pub returns : goal.returns
returns g c =
    let end : c.loop-done.done ≡ c.len-count.result = omega arith in
    record {
      between = g.B.Bus.view c.command-reply.new.self;
      commanded = c.command-reply.ensures;
      read = reads _ _ _ (subst (λ n. AreGood BlockRead g.D.Blocks.blocks g.D.BlocksMut.with (g.B.Bus.view c.command-reply.new.self)
          c.args.blocks.now n (g.B.Bus.view c.loop-done.self.bus) c.loop-done.blocks) end c.loop-done.invariant.0);
    }
