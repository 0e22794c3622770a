use Rattle.std.proofs.Common.{refl, ◌∙◌}
use Rattle.mmc_bus.specs.Together.{none_accepted, writes}
use Rattle.mmc_card_sim.specs.SimView.{sim_bus_view}
use Rattle.mmc_card_sim.proofs.MovingLemmas.{no_command_fails}
use Rattle.mmc_card_sim.proofs.sim_card.SimCardBus.write_with.Goals as goal

pub returns-then-not-is_smooth-clause-written : goal.returns-then-not-is_smooth-clause-written
returns-then-not-is_smooth-clause-written g c = record {
  between = sim_bus_view c.command-reply.new.self;
  commanded = c.command-reply.ensures.exchanged;
  unheard = λ command is lost. refl;
  written = writes 0 _ none_accepted;
}

pub returns-then-not-is_smooth-clause-faults : goal.returns-then-not-is_smooth-clause-faults
returns-then-not-is_smooth-clause-faults g c = λ none.
    no_command_fails c.args.self.now.plan _ _ _ _ _ _ _ none c.command-reply.ensures.counts

pub returns-clause-written : goal.returns-clause-written
returns-clause-written g c = record {
  between = sim_bus_view c.command-reply.new.self;
  commanded = c.command-reply.ensures.exchanged;
  unheard = λ command is lost. absurd (c.is_answered.ensures c.if-not-is_answered.false command is lost);
  written = c.write_blocks.ensures.written;
}

pub returns-clause-faults : goal.returns-clause-faults
returns-clause-faults g c = λ none.
    c.write_blocks.ensures.faults (c.command-reply.ensures.plan ∙ none)
    ∙ no_command_fails c.args.self.now.plan _ _ _ _ _ _ _ none c.command-reply.ensures.counts
