use Rattle.std.proofs.Common.{◌<◌, ◌+◌, ◌++◌, length, drop, get_or, arith, sym, ap, ◌∙◌, append_assoc}
use Rattle.text_out.specs.Pieces.{piece_text, pieces_text}
use Rattle.text_out.proofs.PieceLemmas.{pieces_at, no_piece}
use Rattle.text_out.proofs.WritingLemmas.{appends_more, writes_broken}
use Rattle.text_out.proofs.pieces.put_pieces.Goals as goal

pub returns-in_err-put_piece : goal.returns-in_err-put_piece
returns-in_err-put_piece g c =
    let inv = c.loop-piece.invariant in
    let lt : c.loop-piece.piece-index < length c.args.pieces.now = omega arith in
    writes_broken _ _ _ _ inv.0 _ (pieces_text (drop (c.loop-piece.piece-index + 1) c.args.pieces.now)) _
    c.from_residual.ensures.0
    (inv.1 ∙ ap (λ t. inv.0 ++ t) (pieces_at c.args.pieces.now c.loop-piece.piece-index no_piece lt)) inv.2
    c.in_err-put_piece.ensures

pub loop-piece-preserved : goal.loop-piece-preserved
loop-piece-preserved g c =
    let inv = c.loop-piece.invariant in
    let lt : c.loop-piece.piece-index < length c.args.pieces.now = omega arith in (
      inv.0 ++ piece_text (get_or c.args.pieces.now c.loop-piece.piece-index no_piece),
      inv.1 ∙ ap (λ t. inv.0 ++ t) (pieces_at c.args.pieces.now c.loop-piece.piece-index no_piece lt)
          ∙ sym (append_assoc inv.0 _ _),
      appends_more _ _ _ inv.0 _ inv.2 c.in_ok-put_piece.ensures,
    )
