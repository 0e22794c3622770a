use Rattle.mmc_card_sim.proofs.PlanLemmas.{never_planned}
use Rattle.mmc_card_sim.proofs.sim_card.SimCard.plan.Goals as goal

pub invariant_of-self : goal.invariant_of-self
invariant_of-self c =
    let was = c.self.invariant in
    let e = c.plan.ensures in
    record {
      is_card = was.is_card;
      soon_ready = was.soon_ready;
      soon_rested = was.soon_rested;
      finds_none = was.finds_none;
      few = was.few;
      bounded = was.bounded;
      never = never_planned _ _ c.args.exchange _ c.args.fault c.plan.result e.unchanged e.planned e.replaced was.never;
    }
