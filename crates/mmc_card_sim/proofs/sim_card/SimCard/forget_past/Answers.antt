use Rattle.std.proofs.Common.{◌∙◌}
use Rattle.mmc_card_sim.proofs.sim_card.SimCard.forget_past.Goals as goal

pub invariant_of-self : goal.invariant_of-self
invariant_of-self c =
    let was = c.self.invariant in
    record {
      is_card = was.is_card;
      soon_ready = was.soon_ready;
      soon_rested = was.soon_rested;
      finds_none = was.finds_none;
      few = was.few;
      bounded = was.bounded;
      never = c.forget_past.ensures.same _ was.bounded ∙ was.never;
    }
