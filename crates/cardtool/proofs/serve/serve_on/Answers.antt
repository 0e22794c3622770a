use Rattle.std.proofs.Common.{refl, subst, sym}
use Rattle.mmc_block.specs.InOrder.{AreDecided}
use Rattle.mmc_card.specs.Card.{holds}
use Rattle.mmc_card_sim.specs.SimView.{sim_bus_view}
use Rattle.cardtool.proofs.WholeLemmas.{on_spec}
use Rattle.card_served.specs.New.{new_card}
use Rattle.cardtool.proofs.serve.serve_on.Goals as goal

pub returns : goal.returns
returns g c =
    let is_new = c.in_ok-card.ensures.new in
    let (bounded, served) = c.serve_over.ensures.served refl
    (subst (λ card. AreDecided (holds card)) (sym is_new.card)
    (c.a_card_at_rest_is_decided.ensures (new_card c.args.spec) refl)) in
    on_spec c.args.spec c.args.plan.now (c.in_ok-card.ensures.taken refl) c.in_ok-card.card is_new
    (sim_bus_view c.serve_over.result.0) bounded
    c.args.script c.args.trace (g.W.Write.contents c.args.out.now) (g.W.Write.contents c.serve_over.new.out)
    c.serve_over.result.1 served
