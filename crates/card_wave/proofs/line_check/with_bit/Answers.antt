use Rattle.std.proofs.Common.{arith}
use Rattle.card_wave.proofs.Linear.{next_same, next_other}
use Rattle.card_wave.proofs.line_check.with_bit.Goals as goal

pub returns-then-check-bit : goal.returns-then-check-bit
returns-then-check-bit c = next_same c.args.check c.args.bit (omega arith) c.if-check-bit.true

pub returns-else-check-bit : goal.returns-else-check-bit
returns-else-check-bit c = next_other c.args.check c.args.bit (omega arith) c.if-check-bit.false
