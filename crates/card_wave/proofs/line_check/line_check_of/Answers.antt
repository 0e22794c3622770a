use Rattle.std.proofs.Common.{◌≡◌, bit_xor, ◌+◌, ◌++◌, ◌∷◌, [], take, get_or, false, cond, ap, sym, ◌∙◌}
use Rattle.std.proofs.lemmas.List.{take_more}
use Rattle.card_wave.specs.LineCheck.{line_check, times_x}
use Rattle.card_wave.proofs.Linear.{line_check_none, line_check-push}
use Rattle.card_wave.proofs.line_check.line_check_of.Goals as goal

pub loop-bit-init : goal.loop-bit-init
loop-bit-init c = sym line_check_none

pub loop-bit-preserved : goal.loop-bit-preserved
loop-bit-preserved c =
    let i = c.loop-bit.bit-index in
    let bits = c.args.bits.now in
    let more : take (i + 1) bits ≡ take i bits ++ get_or bits i false ∷ [] = take_more bits i false c.loop-bit-test.true in
    c.with_bit-check.ensures
    ∙ ap (λ n. bit_xor (times_x n) (cond (get_or bits i false) 4129 0)) c.loop-bit.invariant
    ∙ sym (ap line_check more ∙ line_check-push (take i bits) (get_or bits i false))
