use Rattle.std.proofs.Common.{◌≡◌, ◌↔◌, ◌/◌, ◌%◌, ◌^◌, IsTrue}
use Rattle.card_decode.specs.Registers.{number_of}
use Rattle.card_decode.proofs.bits.is_zero.Given as goal

abbrev pub invariant-loop-count : goal.invariant-loop-count
invariant-loop-count l = IsTrue l.zero ↔ (number_of l.register l.bytes / 2 ^ l.low % 2 ^ l.count ≡ 0)
