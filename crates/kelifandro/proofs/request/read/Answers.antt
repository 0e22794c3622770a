use Rattle.std.proofs.Common.{rules}
use Rattle.mmc_card.specs.Card.{holds}
use Rattle.kelifandro.proofs.RequestLemmas.{has_read, same_memory}
use Rattle.kelifandro.proofs.request.read.Goals as goal

pub returns-clause-has : goal.returns-clause-has
returns-clause-has g c kept ready =
    let reading = c.run.new.self in
    let left = c.run.ensures.leaves in
    let memory = same_memory left.4 in
    has_read c.run.result (holds (g.B.Bus.view c.run.new.bus).card) c.args.part reading.part c.args.start reading.start _
    reading.blocks.now.blocks.now left.0 left.1 (search rules) (c.run.ensures.has kept ready)
