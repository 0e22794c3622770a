use Rattle.std.proofs.Common.{◌<◌, ◌+◌, ◌++◌, length, drop, arith, sym, ap, ◌∙◌, append_assoc}
use Rattle.std.proofs.lemmas.List.Elements.{All-get_or}
use Rattle.std.specs.Prelude.{map}
use Rattle.mmc_frame.specs.StatusBits.{named}
use Rattle.card_explain.specs.Statuses.{errors_words}
use Rattle.card_explain.proofs.StatusLemmas.{errors_at, no_bit}
use Rattle.card_explain.proofs.status.put_bits.Goals as goal

pub put_bit-requires : goal.put_bit-requires
put_bit-requires c =
    let lt : c.loop-bit.bit-index < length c.args.bits.now = omega arith in
    All-get_or (λ bit. bit.place < 32) c.args.bits.now c.loop-bit.bit-index no_bit lt c.requires

pub loop-bit-preserved : goal.loop-bit-preserved
loop-bit-preserved c =
    let lt : c.loop-bit.bit-index < length c.args.bits.now = omega arith in
    let others = errors_words c.args.errors (map named (drop (c.loop-bit.bit-index + 1) c.args.bits.now)) in
    c.loop-bit.invariant
    ∙ ap (λ t. c.loop-bit.out.items ++ t) (errors_at c.args.errors c.args.bits.now c.loop-bit.bit-index lt)
    ∙ sym (append_assoc c.loop-bit.out.items _ _)
    ∙ ap (λ o. o ++ others) (sym c.in_ok-put_bit.ensures)
