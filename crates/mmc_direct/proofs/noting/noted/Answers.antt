use Rattle.mmc_direct.proofs.NotedLemmas.{broken_noted, ready_noted}
use Rattle.mmc_direct.proofs.noting.noted.Goals as goal

pub returns-in-Ready : goal.returns-in-Ready
returns-in-Ready c = ready_noted c.args.stands.now c.in-Ready.session c.note.result c.in-Ready.is c.note.ensures.of_a_card

pub returns-in-Broken : goal.returns-in-Broken
returns-in-Broken c =
    broken_noted c.args.stands.now c.in-Broken.broken c.note_broken.result c.in-Broken.is c.note_broken.ensures.of_a_card
