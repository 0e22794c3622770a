use Rattle.std.proofs.Common.{◌≡◌, nat_lt, false, sym, ◌∙◌, arith}
use Rattle.card_decode.proofs.WordLemmas.{no_bit}
use Rattle.card_decode.proofs.meaning.has_bit.Goals as goal

pub returns-else-place-lt64 : goal.returns-else-place-lt64
returns-else-place-lt64 c =
    let far : nat_lt c.args.place 64 ≡ false = grind (arith, c.if-place-lt64.false) in
    far ∙ sym (no_bit c.args.value c.args.place c.ranges.value.fits c.if-place-lt64.false)
