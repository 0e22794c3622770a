use Rattle.std.proofs.Common.{◌<◌, ◌≡◌, ◌∙◌, [], add-one, arith, length, refl, subst, sym}
use Rattle.std.specs.Prelude.{slice_index_or}
use Rattle.mmc_bus.specs.Together.{AreAccepted, BlockWritten, NotBusy, accepted_one, none_accepted, writes, writes_none}
use Rattle.mmc_card.specs.declared.exchange.Exchange.TheVariants.{Out}
use Rattle.mmc_card_sim.specs.SimView.{sim_bus_view}
use Rattle.mmc_card_sim.proofs.MovingLemmas.{no_write_fails, one_of}
use Rattle.mmc_card_sim.proofs.sim_card.SimCard.write_blocks.Goals as goal

pub loop-done-init : goal.loop-done-init
loop-done-init g c = record { accepted = none_accepted; plan = refl; faults = λ none. refl }

pub returns-then-not-is_ready_after : goal.returns-then-not-is_ready_after
returns-then-not-is_ready_after g c =
    let h = c.loop-done.invariant in
    let ready = c.is_ready_after.ensures in
    record {
      written = writes c.loop-done.done _ (subst (λ card. AreAccepted BlockWritten NotBusy (g.D.Blocks.blocks c.args.blocks.now)
          (sim_bus_view c.args.self.now) c.loop-done.done (sim_bus_view card)) (sym (ready.none c.if-not-is_ready_after.true)) h.accepted);
      plan = ready.plan ∙ h.plan;
      faults = λ none. ready.faults (h.plan ∙ none) ∙ h.faults none;
    }

pub loop-done-preserved : goal.loop-done-preserved
loop-done-preserved g c =
    let h = c.loop-done.invariant in
    let rested = c.is_ready_after.ensures in
    let wrote = c.write_data-got.ensures in
    let ready = sim_bus_view c.is_ready_after.new.self in
    let new = sim_bus_view c.write_data-got.new.self in
    let below : c.loop-done.done < length (g.D.Blocks.blocks c.args.blocks.now) = omega arith in
    record {
      accepted = rw add-one (accepted_one c.loop-done.done (sim_bus_view c.loop-done.self) ready new h.accepted
          (rested.rested c.if-not-is_ready_after.false) below
          (subst (λ got. BlockWritten ready (slice_index_or (g.D.Blocks.blocks c.args.blocks.now) c.loop-done.done []) got new)
          (c.is_accepted.ensures.yes c.if-not-is_accepted.false)
          (subst (λ block. BlockWritten ready block c.write_data-got.result new) c.block.ensures
          (one_of ready new (Out c.write_data-got.result) _ wrote.exchanged))));
      plan = wrote.plan ∙ rested.plan ∙ h.plan;
      faults = λ none. no_write_fails c.is_ready_after.new.self.plan _ _ _ _ _ _ (rested.plan ∙ h.plan ∙ none) wrote.counts
          ∙ rested.faults (h.plan ∙ none) ∙ h.faults none;
    }

pub returns-then-not-is_accepted : goal.returns-then-not-is_accepted
returns-then-not-is_accepted g c =
    let h = c.loop-done.invariant in
    let rested = c.is_ready_after.ensures in
    let wrote = c.write_data-got.ensures in
    let ready = sim_bus_view c.is_ready_after.new.self in
    let new = sim_bus_view c.write_data-got.new.self in
    let below : c.loop-done.done < length (g.D.Blocks.blocks c.args.blocks.now) = omega arith in
    record {
      written = writes_none c.loop-done.done (sim_bus_view c.loop-done.self) ready c.write_data-got.result new h.accepted
          (rested.rested c.if-not-is_ready_after.false) below (λ is. c.is_accepted.ensures.no c.if-not-is_accepted.true is)
          (subst (λ block. BlockWritten ready block c.write_data-got.result new) c.block.ensures
          (one_of ready new (Out c.write_data-got.result) _ wrote.exchanged));
      plan = wrote.plan ∙ rested.plan ∙ h.plan;
      faults = λ none. no_write_fails c.is_ready_after.new.self.plan _ _ _ _ _ _ (rested.plan ∙ h.plan ∙ none) wrote.counts
          ∙ rested.faults (h.plan ∙ none) ∙ h.faults none;
    }

pub returns : goal.returns
returns g c =
    let h = c.loop-done.invariant in
    let end : c.loop-done.done ≡ c.len-count.result = omega arith in
    record {
      written = writes _ _ (subst (λ n. AreAccepted BlockWritten NotBusy (g.D.Blocks.blocks c.args.blocks.now) (sim_bus_view c.args.self.now) n
          (sim_bus_view c.loop-done.self)) end h.accepted);
      plan = h.plan;
      faults = h.faults;
    }
