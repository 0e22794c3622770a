use Rattle.std.proofs.Common.{◌∙◌, refl, sym}
use Rattle.mmc_block.proofs.BeginLemmas.{group_started, nobody_served}
use Rattle.mmc_block.proofs.turn.take_next_group.Goals as goal

pub next_into-requires : goal.next_into-requires
next_into-requires c = nobody_served c.args.phase.now c.args.attempt.now c.requires.idle c.requires.empty

pub returns-clause-started : goal.returns-clause-started
returns-clause-started c =
    group_started c.args.phase.now c.in-Idle.stands c.args.queue.now c.next_into.new.self c.args.attempt.now c.next_into.new.group
    (sym c.replace.ensures.value ∙ c.in-Idle.is) c.requires.empty (c.if-not-next_into.ensures.fair refl)
