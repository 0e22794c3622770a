use Rattle.std.proofs.Common.{◌∙◌, ap, refl, subst, sym}
use Rattle.mmc_bus.specs.Lending.{nothing}
use Rattle.mmc_queue.specs.Lent.{write_blocks_of}
use Rattle.mmc_transfer.specs.Run.{HasTurned, IsRunning, run_then}
use Rattle.mmc_block.proofs.StepLemmas.{bytes_are_lent, room_is_lent}
use Rattle.mmc_block.proofs.step.advance_blocks.Goals as goal

pub returns-in-Read-clause-turned : goal.returns-in-Read-clause-turned
returns-in-Read-clause-turned g c kept faults at =
    let run = c.args.run.now in
    let old = g.B.Bus.view c.args.bus.now in
    let then = run_then c.read_on.new.self c.read_on.result in
    subst (λ bs. HasTurned run bs faults old then (g.B.Bus.view c.read_on.new.bus))
    (sym (room_is_lent run.job.way _ c.read_on.new.blocks c.in-Read.is c.requires.of.1))
    (c.read_on.ensures.turned kept faults
    (subst (λ bs. IsRunning run bs faults old) (room_is_lent run.job.way _ c.args.group.now c.in-Read.is c.requires.of.1) at))

pub returns-in-Write : goal.returns-in-Write
returns-in-Write g c =
    let run = c.args.run.now in
    let old = g.B.Bus.view c.args.bus.now in
    let then = run_then c.write_on.new.self c.write_on.result in
    let lent = bytes_are_lent run.job.way _ c.args.group.now c.in-Write.is c.requires.of.1
    ∙ ap write_blocks_of (sym c.writes.ensures) in
    record {
      lent = c.a_lent_group_keeps_its_requests.ensures.requests c.args.group.now c.args.group.now nothing;
      extent = refl;
      joined = c.requires.joined;
      writes = λ is. refl;
      bounded = c.write_on.ensures.bounded;
      nears = c.write_on.ensures.nears;
      kept = c.write_on.ensures.kept;
      same = c.write_on.ensures.same;
      lowers = c.write_on.ensures.lowers;
      cause = c.write_on.ensures.cause;
      turned = λ kept faults at.
          subst (λ bs. HasTurned run bs faults old then (g.B.Bus.view c.write_on.new.bus)) (sym lent)
          (c.write_on.ensures.turned kept faults (subst (λ bs. IsRunning run bs faults old) lent at));
    }
