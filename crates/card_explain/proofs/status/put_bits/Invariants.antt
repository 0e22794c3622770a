use Rattle.std.proofs.Common.{◌≡◌, ◌++◌, drop}
use Rattle.std.specs.Prelude.{map}
use Rattle.mmc_frame.specs.StatusBits.{named}
use Rattle.card_explain.specs.Statuses.{errors_words}
use Rattle.card_explain.proofs.status.put_bits.Given as goal

abbrev pub invariant-loop-bit : goal.invariant-loop-bit
invariant-loop-bit l =
    l.fn.out.items ++ errors_words l.fn.errors (map named l.fn.bits)
    ≡ l.out.items ++ errors_words l.fn.errors (map named (drop l.bit-index l.fn.bits))
