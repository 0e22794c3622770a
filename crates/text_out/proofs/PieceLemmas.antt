-- The piece at a place, and those after it.
use Rattle.std.proofs.Common.{◌≡◌, ◌<◌, ◌+◌, ℕ, List, [], ◌++◌, length, drop, get_or, sym, ap, ◌∙◌, drop-cons, add-one}
use Rattle.text_out.specs.declared.pieces.Piece.{Piece}
use Rattle.text_out.specs.declared.pieces.Piece.TheVariants.{Text}
use Rattle.text_out.specs.Pieces.{piece_text, pieces_text}

pub pieces_at : (ps : List Piece) (i : ℕ) (d : Piece) → i < length ps → pieces_text (drop i ps)
    ≡ piece_text (get_or ps i d) ++ pieces_text (drop (i + 1) ps)
pieces_at ps i d lt = ap pieces_text (drop-cons ps i d lt)
    ∙ ap (λ n. piece_text (get_or ps i d) ++ pieces_text (drop n ps)) (sym (add-one i))

abbrev pub no_piece : Piece
no_piece = Text (record { ref_ptr = (0, 0); now = [] })
