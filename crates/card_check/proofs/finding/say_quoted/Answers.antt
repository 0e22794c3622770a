use Rattle.std.proofs.Common.{◌<◌, ◌+◌, ◌++◌, length, drop, arith, sym, ap, ◌∙◌, append_assoc}
use Rattle.card_check.specs.Findings.{quoted_text}
use Rattle.card_check.proofs.FindingLemmas.{quoted_at}
use Rattle.card_check.proofs.finding.say_quoted.Goals as goal

pub loop-byte-preserved : goal.loop-byte-preserved
loop-byte-preserved c =
    let lt : c.loop-byte.byte-index < length c.args.bytes.now = omega arith in
    let others = quoted_text (drop (c.loop-byte.byte-index + 1) c.args.bytes.now) in
    c.loop-byte.invariant
    ∙ ap (λ t. c.loop-byte.line.items ++ t) (quoted_at c.args.bytes.now c.loop-byte.byte-index lt)
    ∙ sym (append_assoc c.loop-byte.line.items _ _)
    ∙ ap (λ o. o ++ others) (sym c.in_ok-say_byte.ensures)
