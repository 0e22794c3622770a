use Rattle.std.proofs.Common.{◌≡◌, ◌+◌, ◌/◌, ◌%◌, ◌^◌, ap, sym, ◌∙◌}
use Rattle.std.proofs.lemmas.Bool.{false≢true}
use Rattle.card_decode.specs.Registers.{number_of}
use Rattle.card_decode.proofs.ByteLemmas.{zero_step}
use Rattle.card_decode.proofs.bits.is_zero.Goals as goal
use Rattle.card_decode.proofs.bits.is_zero.Goals.{then-bit_at-ne0, else-bit_at-ne0}

pub loop-count-preserved : goal.loop-count-preserved
loop-count-preserved c =
    let n = number_of c.args.register c.args.bytes.now in
    let count = c.loop-count.count in
    let inv = c.loop-count.invariant in
    let bit : c.bit_at.result ≡ n / 2 ^ (c.args.low + count) % 2 =
    c.bit_at.ensures ∙ ap (λ w. n / 2 ^ (w + count) % 2) c.from.ensures in
    let step = zero_step n c.args.low count in
    elim c.if-bit_at-ne0.branch [
      | then-bit_at-ne0 w ↦ (
        λ t. absurd (false≢true (sym w.zero-is ∙ t)),
        λ z. absurd (w.if-bit_at-ne0.true (bit ∙ (step.0 z).1)),
      )
      | else-bit_at-ne0 w ↦ (
        λ t. step.1 (inv.0 (sym w.zero-is ∙ t), sym bit ∙ w.if-bit_at-ne0.false),
        λ z. w.zero-is ∙ inv.1 (step.0 z).0,
      )
    ]
