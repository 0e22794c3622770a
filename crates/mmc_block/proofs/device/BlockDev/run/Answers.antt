use Rattle.std.proofs.Common.{arith}
use Rattle.mmc_transfer.specs.declared.pace.Pace.TheVariants.{Transfer}
use Rattle.mmc_block.proofs.TurnsLemmas.{each_answered, turns_then}
use Rattle.mmc_block.proofs.device.BlockDev.run.Goals as goal

pub loop-self-preserved : goal.loop-self-preserved
loop-self-preserved g c =
    let room = c.loop-self.invariant.room in
    let long = c.append.ensures.len in
    let kept = c.append.ensures.capacity in
    let leaves = c.turn_at.ensures.leaves in
    record {
      so_far = rw c.append.ensures.items (turns_then g.B.Bus.view Transfer c.args.self.now c.loop-self.self c.turn_at.new.self
          c.loop-self.answers.items c.turn_at.new.answers.items c.loop-self.invariant.so_far c.turn_at.ensures);
      room = omega (arith, room, long, kept, leaves);
      none = c.append.ensures.none;
    }

pub returns-clause-each : goal.returns-clause-each
returns-clause-each g c =
    each_answered g.B.Bus.view c.args.self.now c.loop-self.self c.loop-self.answers.items
    c.loop-self.invariant.so_far (c.work_left.ensures.none.0 (omega arith))
