use Rattle.std.proofs.Common.{sym, ◌≡◌, ◌≤◌, ◌+◌, ◌-◌, ◌*◌, ◌/◌, ◌%◌, ◌^◌, ap, ◌∙◌, arith}
use Rattle.card_decode.specs.Registers.{number_of}
use Rattle.card_decode.proofs.ByteLemmas.{bits_step}
use Rattle.card_decode.proofs.bits.bits.Goals as goal

pub loop-count-preserved : goal.loop-count-preserved
loop-count-preserved c =
    let n = number_of c.args.register c.args.bytes.now in
    let count = c.loop-count.count in
    let within : count ≤ c.args.high = omega arith in
    let place : c.args.high + 1 - (count + 1) ≡ c.args.high - count = omega arith in
    ap (λ v. v * 2 + c.bit_at.result) c.loop-count.invariant
    ∙ ap (λ b. (n / 2 ^ (c.args.high + 1 - count) % 2 ^ count) * 2 + b)
    (c.bit_at.ensures ∙ ap (λ w. n / 2 ^ w % 2) c.from.ensures)
    ∙ bits_step n c.args.high count within ∙ ap (λ w. n / 2 ^ w % 2 ^ (count + 1)) (sym place)
