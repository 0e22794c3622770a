use Rattle.std.proofs.Common.{◌≡◌, ◌+◌, ◌-◌, ◌/◌, ◌++◌, [], ◌∷◌, suc, sym, ap, ◌∙◌, append_assoc, append-nil, subst, arith}
use Rattle.std.specs.Int.{bytes_high_first}
use Rattle.std.specs.Io.KnownBytes.{Appends}
use Rattle.mmc_frame.specs.Field.{field}
use Rattle.text_out.specs.Hex.{hex_text}
use Rattle.text_out.proofs.WritingLemmas.{appends_more, writes_broken}
use Rattle.card_decode.specs.Registers.{number_of}
use Rattle.card_decode.proofs.ByteLemmas.{digits_next, digits_whole}
use Rattle.card_decode.proofs.line.put_digits.Goals as goal

pub returns-in_err-put_pieces : goal.returns-in_err-put_pieces
returns-in_err-put_pieces g c =
    let inv = c.loop-written.invariant in
    let v = field c.args.high c.args.low (number_of c.args.register c.args.bytes.now) in
    let count = (c.args.high - c.args.low) / 8 + 1 in
    let here : count - c.loop-written.written ≡ suc (count - 1 - c.loop-written.written) = omega arith in
    writes_broken _ _ _ _ inv.0 _ (hex_text (bytes_high_first (count - 1 - c.loop-written.written) v)) _
    c.from_residual.ensures.0
    (digits_whole c.args.high c.args.low v c.requires.ordered ∙ inv.1
    ∙ ap (λ k. inv.0 ++ hex_text (bytes_high_first k v)) here
    ∙ ap (λ t. inv.0 ++ t) (digits_next _ v _ c.byte_of-byte.ensures)) inv.2
    c.in_err-put_pieces.ensures

pub loop-written-preserved : goal.loop-written-preserved
loop-written-preserved g c =
    let inv = c.loop-written.invariant in
    let v = field c.args.high c.args.low (number_of c.args.register c.args.bytes.now) in
    let count = (c.args.high - c.args.low) / 8 + 1 in
    let here : count - c.loop-written.written ≡ suc (count - 1 - c.loop-written.written) = omega arith in
    let next : count - 1 - c.loop-written.written ≡ count - (c.loop-written.written + 1) = omega arith in (
      inv.0 ++ hex_text (c.byte_of-byte.result ∷ []),
      inv.1 ∙ ap (λ k. inv.0 ++ hex_text (bytes_high_first k v)) here
          ∙ ap (λ t. inv.0 ++ t) (digits_next _ v _ c.byte_of-byte.ensures)
          ∙ sym (append_assoc inv.0 (hex_text (c.byte_of-byte.result ∷ [])) _)
          ∙ ap (λ k. (inv.0 ++ hex_text (c.byte_of-byte.result ∷ [])) ++ hex_text (bytes_high_first k v)) next,
      appends_more _ _ _ inv.0 _ inv.2 c.in_ok-put_pieces.ensures,
    )

pub returns : goal.returns
returns g c =
    let inv = c.loop-written.invariant in
    let v = field c.args.high c.args.low (number_of c.args.register c.args.bytes.now) in
    let count = (c.args.high - c.args.low) / 8 + 1 in
    let none : count - c.loop-written.written ≡ 0 = omega arith in
    subst (Appends (g.W.Write.contents c.args.out.now) (g.W.Write.contents c.loop-written.out))
    (sym (append-nil inv.0) ∙ ap (λ k. inv.0 ++ hex_text (bytes_high_first k v)) (sym none) ∙ sym inv.1
    ∙ sym (digits_whole c.args.high c.args.low v c.requires.ordered)) inv.2
