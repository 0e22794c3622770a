use Rattle.std.proofs.Common.{◌<◌, ◌∙◌, ◌≡◌, add-one, ap, arith, length, refl, subst, sym}
use Rattle.std.proofs.lemmas.List.{length-set}
use Rattle.mmc_bus.proofs.TogetherLemmas.{good_lent}
use Rattle.mmc_bus.specs.Lending.{block}
use Rattle.mmc_bus.specs.Together.{AreGood, BlockRead, good_one, none_good, reads, reads_none}
use Rattle.mmc_card.specs.declared.exchange.DataIn.{DataIn}
use Rattle.mmc_card_sim.specs.SimView.{sim_bus_view}
use Rattle.mmc_card_sim.proofs.MovingLemmas.{no_read_fails, one_read}
use Rattle.mmc_card_sim.proofs.sim_card.SimCard.read_blocks.Goals as goal

pub loop-done-init : goal.loop-done-init
loop-done-init g c = record { good = none_good; plan = refl; faults = λ none. refl; count = sym c.len-count.ensures }

pub loop-done-preserved : goal.loop-done-preserved
loop-done-preserved g c =
    let h = c.loop-done.invariant in
    let same = h.count in
    let left = c.read_data-got.new.buffer in
    let below : c.loop-done.done < length (g.D.Blocks.blocks c.loop-done.blocks) = omega (arith, same) in
    let long : length left ≡ 512 = omega arith in
    let is = c.is_good.ensures.yes c.if-not-is_good.false in
    let read = one_read _ _ c.read_data-got.result left _ (omega arith) c.read_data-got.ensures.exchanged in
    record {
      good = rw add-one (good_one c.loop-done.done (sim_bus_view c.loop-done.self) c.loop-done.blocks left
          (sim_bus_view c.read_data-got.new.self) h.good below long
          (subst (λ (got : DataIn). BlockRead (sim_bus_view c.loop-done.self) got left (sim_bus_view c.read_data-got.new.self)) is read));
      plan = c.read_data-got.ensures.plan ∙ h.plan;
      faults = λ none. no_read_fails c.loop-done.self.plan _ _ _ _ _ _ (h.plan ∙ none) c.read_data-got.ensures.counts ∙ h.faults none;
      count = ap length (g.met.D.BlocksMut.writes_one c.loop-done.blocks c.loop-done.done left below long)
          ∙ length-set (g.D.Blocks.blocks c.loop-done.blocks) c.loop-done.done left ∙ same;
    }

pub returns-then-not-is_good : goal.returns-then-not-is_good
returns-then-not-is_good g c =
    let h = c.loop-done.invariant in
    let same = h.count in
    let left = c.read_data-got.new.buffer in
    let below : c.loop-done.done < length (g.D.Blocks.blocks c.loop-done.blocks) = omega (arith, same) in
    let long : length left ≡ 512 = omega arith in
    record {
      read = reads_none c.loop-done.done (sim_bus_view c.loop-done.self) c.loop-done.blocks _ c.read_data-got.result left
          (sim_bus_view c.read_data-got.new.self) h.good below long (λ is. c.is_good.ensures.no c.if-not-is_good.true is)
          (one_read _ _ c.read_data-got.result left _ (omega arith) c.read_data-got.ensures.exchanged)
          (block c.loop-done.blocks c.loop-done.done left
          (good_lent (sim_bus_view c.args.self.now) c.args.blocks.now g.met.D.BlocksMut.writes_one c.loop-done.done
          (sim_bus_view c.loop-done.self) c.loop-done.blocks h.good) below long);
      plan = c.read_data-got.ensures.plan ∙ h.plan;
      faults = λ none. no_read_fails c.loop-done.self.plan _ _ _ _ _ _ (h.plan ∙ none) c.read_data-got.ensures.counts ∙ h.faults none;
    }

pub returns : goal.returns
returns g c =
    let h = c.loop-done.invariant in
    let end : c.loop-done.done ≡ c.len-count.result = omega arith in
    record {
      read = reads _ _ _ (subst (λ n. AreGood BlockRead g.D.Blocks.blocks g.D.BlocksMut.with (sim_bus_view c.args.self.now) c.args.blocks.now n
          (sim_bus_view c.loop-done.self) c.loop-done.blocks) end h.good);
      plan = h.plan;
      faults = h.faults;
    }
