use Rattle.mmc_bus.specs.Together.{none_good, reads}
use Rattle.mmc_card_sim.specs.SimView.{sim_bus_view}
use Rattle.mmc_card_sim.proofs.MovingLemmas.{no_command_fails}
use Rattle.std.proofs.Common.{◌∙◌}
use Rattle.mmc_card_sim.proofs.sim_card.SimCardBus.read_with.Goals as goal

pub returns-then-not-is_smooth-clause-read : goal.returns-then-not-is_smooth-clause-read
returns-then-not-is_smooth-clause-read g c = record {
  between = sim_bus_view c.command-reply.new.self;
  commanded = c.command-reply.ensures.exchanged;
  read = reads 0 _ _ none_good;
}

pub returns-then-not-is_smooth-clause-faults : goal.returns-then-not-is_smooth-clause-faults
returns-then-not-is_smooth-clause-faults g c = λ none.
    no_command_fails c.args.self.now.plan _ _ _ _ _ _ _ none c.command-reply.ensures.counts

pub returns-clause-read : goal.returns-clause-read
returns-clause-read g c = record {
  between = sim_bus_view c.command-reply.new.self;
  commanded = c.command-reply.ensures.exchanged;
  read = c.read_blocks.ensures.read;
}

pub returns-clause-faults : goal.returns-clause-faults
returns-clause-faults g c = λ none.
    c.read_blocks.ensures.faults (c.command-reply.ensures.plan ∙ none)
    ∙ no_command_fails c.args.self.now.plan _ _ _ _ _ _ _ none c.command-reply.ensures.counts
