use Rattle.std.proofs.Common.{[], ◌<◌, ◌+◌, ◌++◌, ◌∷◌, length, drop, get_or, arith, sym, ap, ◌∙◌, append_assoc}
use Rattle.text_out.specs.Hex.{hex_text}
use Rattle.text_out.proofs.HexLemmas.{hex_at}
use Rattle.text_out.proofs.WritingLemmas.{appends_more, writes_broken}
use Rattle.text_out.proofs.hex.put_hex.Goals as goal

pub returns-in_err-put_byte : goal.returns-in_err-put_byte
returns-in_err-put_byte g c =
    let inv = c.loop-byte.invariant in
    let lt : c.loop-byte.byte-index < length c.args.bytes.now = omega arith in
    writes_broken _ _ _ _ inv.0 _ (hex_text (drop (c.loop-byte.byte-index + 1) c.args.bytes.now)) _
    c.from_residual.ensures.0
    (inv.1 ∙ ap (λ t. inv.0 ++ t) (hex_at c.args.bytes.now c.loop-byte.byte-index lt)) inv.2 c.in_err-put_byte.ensures

pub loop-byte-preserved : goal.loop-byte-preserved
loop-byte-preserved g c =
    let inv = c.loop-byte.invariant in
    let lt : c.loop-byte.byte-index < length c.args.bytes.now = omega arith in (
      inv.0 ++ hex_text (get_or c.args.bytes.now c.loop-byte.byte-index 0 ∷ []),
      inv.1 ∙ ap (λ t. inv.0 ++ t) (hex_at c.args.bytes.now c.loop-byte.byte-index lt) ∙ sym (append_assoc inv.0 _ _),
      appends_more _ _ _ inv.0 _ inv.2 c.in_ok-put_byte.ensures,
    )
