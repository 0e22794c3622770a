use Rattle.std.proofs.Common.{◌≡◌, take}
use Rattle.card_wave.specs.LineCheck.{line_check}
use Rattle.card_wave.proofs.line_check.line_check_of.Given as goal

abbrev pub invariant-loop-bit : goal.invariant-loop-bit
invariant-loop-bit l = l.check ≡ line_check (take l.bit-index l.bits)
