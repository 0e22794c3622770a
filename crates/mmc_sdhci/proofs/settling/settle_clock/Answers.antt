use Rattle.std.proofs.Common.{◌*◌, ◌+◌, arith}
use Rattle.mmc_sdhci.proofs.Waiting.{begins_to_tick, clock_in_time, clock_seen, ticks_on}
use Rattle.mmc_sdhci.proofs.settling.settle_clock.Goals as goal

pub loop-look-init : goal.loop-look-init
loop-look-init g c = begins_to_tick (g.R.Registers.view c.args.registers.now) c.requires

pub loop-look-preserved : goal.loop-look-preserved
loop-look-preserved g c =
    ticks_on (g.R.Registers.view c.args.registers.now) (g.R.Registers.view c.loop-look.registers)
    (g.R.Registers.view c.read8.new.self) (g.R.Registers.view c.pause.new.self) (100 * c.loop-look._look)
    (100 * (c.loop-look._look + 1)) c.read8.result 100 c.if-read8-eq1.false (omega arith) c.loop-look.invariant
    c.read8.ensures.reads c.pause.ensures.passes

pub returns-then-read8-eq1 : goal.returns-then-read8-eq1
returns-then-read8-eq1 g c =
    clock_seen (g.R.Registers.view c.args.registers.now) (g.R.Registers.view c.loop-look.registers)
    (g.R.Registers.view c.read8.new.self) (100 * c.loop-look._look) c.read8.result c.if-read8-eq1.true
    c.loop-look.invariant c.read8.ensures.reads

pub returns : goal.returns
returns g c =
    clock_in_time (g.R.Registers.view c.args.registers.now) (g.R.Registers.view c.loop-look.registers)
    (g.R.Registers.view c.read8-2.new.self) (100 * c.loop-look._look) c.read8-2.result (omega (arith, c.loop-look-test.false))
    c.loop-look.invariant c.read8-2.ensures.reads
