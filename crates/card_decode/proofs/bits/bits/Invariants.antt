use Rattle.std.proofs.Common.{◌≡◌, ◌+◌, ◌-◌, ◌/◌, ◌%◌, ◌^◌}
use Rattle.card_decode.specs.Registers.{number_of}
use Rattle.card_decode.proofs.bits.bits.Given as goal

abbrev pub invariant-loop-count : goal.invariant-loop-count
invariant-loop-count l = l.value ≡ number_of l.register l.bytes / 2 ^ (l.high + 1 - l.count) % 2 ^ l.count
