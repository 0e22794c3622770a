use Rattle.std.proofs.Common.{◌+◌, ◌∙◌, ap}
use Rattle.mmc_sdhci.specs.Commands.{mode_of}
use Rattle.mmc_sdhci.proofs.Beginning.{begins, idle_for, may_argue, may_begin, rests_cleared_bits}
use Rattle.mmc_sdhci.proofs.command.begin.Goals as goal

pub set_sizes-requires-clause-rest : goal.set_sizes-requires-clause-rest
set_sizes-requires-clause-rest g c =
    rests_cleared_bits (g.R.Registers.view c.args.registers.now) (g.R.Registers.view c.clear.new.registers) c.args.under_way
    c.requires.rest c.clear.ensures

pub set_sizes-requires-clause-idle : goal.set_sizes-requires-clause-idle
set_sizes-requires-clause-idle g c =
    idle_for (g.R.Registers.view c.args.registers.now) (g.R.Registers.view c.clear.new.registers) c.args.under_way c.args.command
    c.requires.under_way c.requires.free c.clear.ensures

pub write32-requires : goal.write32-requires
write32-requires g c =
    may_argue (g.R.Registers.view c.clear.new.registers) (g.R.Registers.view c.set_sizes.new.registers) c.args.command
    (rests_cleared_bits (g.R.Registers.view c.args.registers.now) (g.R.Registers.view c.clear.new.registers) c.args.under_way
    c.requires.rest c.clear.ensures) c.set_sizes.ensures

pub write32-requires-2 : goal.write32-requires-2
write32-requires-2 g c =
    may_begin (g.R.Registers.view c.args.registers.now) (g.R.Registers.view c.clear.new.registers)
    (g.R.Registers.view c.set_sizes.new.registers) (g.R.Registers.view c.write32.new.self) c.args.under_way c.args.command
    c.args.mover c.flags_of.result _ c.requires.rest c.requires.index c.requires.movable c.requires.free c.requires.set
    c.requires.mover c.clear.ensures c.set_sizes.ensures c.write32.ensures.writes c.flags_of.ensures
    (ap (λ n. n + c.dma_bit.result) c.mode_of.ensures ∙ ap (λ n. mode_of c.args.command.transfer + n) c.dma_bit.ensures)

pub returns : goal.returns
returns g c =
    begins (g.R.Registers.view c.args.registers.now) (g.R.Registers.view c.clear.new.registers)
    (g.R.Registers.view c.set_sizes.new.registers) (g.R.Registers.view c.write32.new.self)
    (g.R.Registers.view c.write32-2.new.self) c.args.under_way c.args.command c.args.mover
    c.flags_of.result _ c.requires.index c.requires.movable c.clear.ensures c.set_sizes.ensures c.write32.ensures.writes
    c.write32-2.ensures.writes c.flags_of.ensures
    (ap (λ n. n + c.dma_bit.result) c.mode_of.ensures ∙ ap (λ n. mode_of c.args.command.transfer + n) c.dma_bit.ensures)
