use Rattle.std.proofs.Common.{◌<◌, arith, length, subst, sym}
use Rattle.mmc_bus.specs.Lending.{block, nothing}
use Rattle.mmc_transfer.proofs.TakeLemmas.{take_ends, take_fails}
use Rattle.mmc_transfer.proofs.moves.take.Goals as goal

pub returns-in_err-receive-clause-turned : goal.returns-in_err-receive-clause-turned
returns-in_err-receive-clause-turned g c kept faults at =
    take_fails c.args.job.now (g.D.Blocks.blocks c.args.blocks.now)
    (g.D.Blocks.blocks (g.D.BlocksMut.with c.args.blocks.now c.args.done c.receive.new.buffer)) c.args.done faults
    c.receive.new.buffer c.requires.way c.requires.more c.requires.count (omega arith)
    (g.met.D.BlocksMut.writes_one c.args.blocks.now c.args.done c.receive.new.buffer) (g.B.Bus.view c.args.bus.now)
    (g.B.Bus.view c.receive.new.bus) at (length c.block_mut.result.now) c.in_err-receive.field-0.0
    c.from_residual.result (omega arith) c.from_residual.ensures.0 (c.in_err-receive.ensures.works kept)

pub returns-clause-turned : goal.returns-clause-turned
returns-clause-turned g c kept faults at =
    take_ends c.args.job.now (g.D.Blocks.blocks c.args.blocks.now)
    (g.D.Blocks.blocks (g.D.BlocksMut.with c.args.blocks.now c.args.done c.receive.new.buffer)) c.args.done faults
    c.receive.new.buffer c.requires.way c.requires.more c.requires.count (omega arith)
    (g.met.D.BlocksMut.writes_one c.args.blocks.now c.args.done c.receive.new.buffer) (g.B.Bus.view c.args.bus.now)
    (g.B.Bus.view c.receive.new.bus) at (length c.block_mut.result.now) (c.in_ok-receive.ensures.works kept)
    c.after_read.result c.after_read.ensures

pub returns-in_err-receive-clause-lent : goal.returns-in_err-receive-clause-lent
returns-in_err-receive-clause-lent g c =
    block _ c.args.done c.receive.new.buffer nothing
    (subst (λ n. c.args.done < n) (sym c.requires.count) c.requires.more) (omega arith)

pub returns-clause-lent : goal.returns-clause-lent
returns-clause-lent g c =
    block _ c.args.done c.receive.new.buffer nothing
    (subst (λ n. c.args.done < n) (sym c.requires.count) c.requires.more) (omega arith)
