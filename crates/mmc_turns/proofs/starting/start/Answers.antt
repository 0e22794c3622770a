use Rattle.mmc_turns.proofs.StartLemmas.{has_begun}
use Rattle.mmc_turns.proofs.starting.start.Goals as goal

pub returns-clause-machine : goal.returns-clause-machine
returns-clause-machine c =
    has_begun c.a_start_agrees.ensures c.one_is_joined.ensures c.args.most c.args.slots.now c.start.new.slots c.start.result
    c.start.ensures.unchanged c.start.ensures.rule c.start.ensures.fair c.start.ensures.alone c.start.ensures.ordered
