use Rattle.std.proofs.Common.{arith, subst}
use Rattle.mmc_queue.specs.Rule.{begins}
use Rattle.mmc_queue.specs.Waiting.{AreSound}
use Rattle.mmc_queue.proofs.FairLemmas.{fair}
use Rattle.mmc_queue.proofs.queue.Queue.next_into.Goals as goal

pub take_alone-requires-clause-sound : goal.take_alone-requires-clause-sound
take_alone-requires-clause-sound c = (subst AreSound c.in-Some.ensures.taken c.in-Some.ensures.sound).0

pub returns-clause-rule : goal.returns-clause-rule
returns-clause-rule c some =
    let e = c.in-Some.oldest in
    c.grow.ensures c.args.self.now
    (rw (c.take_alone.ensures.extent, c.take_alone.ensures.members) (begins e c.take_oldest.new.self c.in-Some.ensures.taken))

pub returns-clause-fair : goal.returns-clause-fair
returns-clause-fair c some =
    let e = c.in-Some.oldest in
    let g = c.grow.ensures c.args.self.now
    (rw (c.take_alone.ensures.extent, c.take_alone.ensures.members) (begins e c.take_oldest.new.self c.in-Some.ensures.taken)) in
    (fair 1024 c.args.self.now c.grow.new.group.members.items c.grow.new.group.extent c.grow.new.self (omega arith)
    c.in-Some.ensures.ascend c.in-Some.ensures.sound g.grown).0
