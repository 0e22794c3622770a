use Rattle.std.proofs.Common.{rules}
use Rattle.mmc_card_sim.proofs.SpecLemmas.{registers_hold}
use Rattle.mmc_card_sim.proofs.judging.read_registers.Goals as goal

pub returns-clause-registers : goal.returns-clause-registers
returns-clause-registers c = registers_hold c.args.registers.now c.tell_widths.ensures (search rules)
