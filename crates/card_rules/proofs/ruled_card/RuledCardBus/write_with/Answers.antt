use Rattle.std.proofs.Common.{inl, inr, refl, subst, sym}
use Rattle.mmc_bus.specs.Together.{WrittenWith, none_accepted, writes}
use Rattle.mmc_card.specs.BusView.{BusView}
use Rattle.mmc_card_sim.specs.SimView.{sim_bus_view}
use Rattle.card_rules.specs.RuledCards.{ruled_view}
use Rattle.card_rules.proofs.RuledLemmas.{plain, seen}
use Rattle.card_rules.proofs.ruled_card.RuledCardBus.write_with.Goals as goal

pub returns-then-is_smooth-clause-written : goal.returns-then-is_smooth-clause-written
returns-then-is_smooth-clause-written g c =
    let rules = c.args.self.now.rules.rules.items in
    let (none, plan) = c.is_smooth.ensures c.if-is_smooth.true in
    subst (λ (old : BusView). WrittenWith old c.args.frame c.args.want (g.D.Blocks.blocks c.args.blocks.now)
    c.write_with.result.0 c.write_with.result.1 (seen rules c.write_with.new.self)) (sym (plain rules c.args.self.now.card none))
    (subst (λ (new : BusView). WrittenWith (sim_bus_view c.args.self.now.card) c.args.frame c.args.want (g.D.Blocks.blocks c.args.blocks.now)
    c.write_with.result.0 c.write_with.result.1 new) (sym (plain rules c.write_with.new.self none)) c.write_with.ensures.written)

pub returns-then-is_smooth-clause-falls : goal.returns-then-is_smooth-clause-falls
returns-then-is_smooth-clause-falls g c =
    let (none, plan) = c.is_smooth.ensures c.if-is_smooth.true in
    inr (record { rules = none; plan = plan; faults = c.write_with.ensures.faults plan })

pub returns : goal.returns
returns g c = record {
  written = record {
    between = ruled_view c.command.new.self;
    commanded = c.command.ensures.exchanged;
    unheard = λ command is lost. refl;
    written = writes 0 _ none_accepted;
  };
  falls = inl refl;
}
