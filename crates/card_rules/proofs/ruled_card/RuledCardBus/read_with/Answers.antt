use Rattle.std.proofs.Common.{inl, inr, refl, subst, sym}
use Rattle.mmc_bus.specs.Together.{ReadWith, none_good, reads}
use Rattle.mmc_card.specs.BusView.{BusView}
use Rattle.mmc_card_sim.specs.SimView.{sim_bus_view}
use Rattle.card_rules.specs.RuledCards.{ruled_view}
use Rattle.card_rules.proofs.RuledLemmas.{plain, seen}
use Rattle.card_rules.proofs.ruled_card.RuledCardBus.read_with.Goals as goal

pub returns-then-is_smooth-clause-read : goal.returns-then-is_smooth-clause-read
returns-then-is_smooth-clause-read g c =
    let rules = c.args.self.now.rules.rules.items in
    let (none, plan) = c.is_smooth.ensures c.if-is_smooth.true in
    subst (λ (old : BusView). ReadWith g.D.Blocks.blocks g.D.BlocksMut.with old c.args.frame c.args.want c.args.blocks.now
    c.read_with.result.0 c.read_with.result.1 c.read_with.new.blocks (seen rules c.read_with.new.self)) (sym (plain rules c.args.self.now.card none))
    (subst (λ (new : BusView). ReadWith g.D.Blocks.blocks g.D.BlocksMut.with (sim_bus_view c.args.self.now.card) c.args.frame c.args.want
    c.args.blocks.now c.read_with.result.0 c.read_with.result.1 c.read_with.new.blocks new) (sym (plain rules c.read_with.new.self none))
    c.read_with.ensures.read)

pub returns-then-is_smooth-clause-falls : goal.returns-then-is_smooth-clause-falls
returns-then-is_smooth-clause-falls g c =
    let (none, plan) = c.is_smooth.ensures c.if-is_smooth.true in
    inr (record { rules = none; plan = plan; faults = c.read_with.ensures.faults plan })

pub returns : goal.returns
returns g c = record {
  read = record { between = ruled_view c.command.new.self; commanded = c.command.ensures.exchanged; read = reads 0 _ _ none_good };
  falls = inl refl;
}
