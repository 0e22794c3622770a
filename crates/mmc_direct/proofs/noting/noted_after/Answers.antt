use Rattle.std.proofs.Common.{ap}
use Rattle.mmc_switch.specs.Stands.{stands_of}
use Rattle.mmc_direct.proofs.NotedLemmas.{broken_noted, ready_noted}
use Rattle.mmc_direct.proofs.noting.noted_after.Goals as goal

pub returns-in-Ok : goal.returns-in-Ok
returns-in-Ok c =
    ready_noted (stands_of c.args.outcome.now) c.in-Ok.session c.note.result (ap stands_of c.in-Ok.is) c.note.ensures.of_a_card

pub returns-in-Err : goal.returns-in-Err
returns-in-Err c =
    broken_noted (stands_of c.args.outcome.now) c.in-Err.broken c.note_broken.result (ap stands_of c.in-Err.is)
    c.note_broken.ensures.of_a_card
