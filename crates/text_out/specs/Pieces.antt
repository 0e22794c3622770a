-- A line of the output, in pieces.
use Rattle.std.specs.Prelude.{ℕ, List, ◌++◌, [], ◌∷◌}
use Rattle.std.specs.Fmt.{decimal}
use Rattle.text_out.specs.Hex.{hex_text}
use Rattle.text_out.specs.Repeats.{repeats_text}
use Rattle.text_out.specs.declared.pieces.Piece.{Piece}
use Rattle.text_out.specs.declared.pieces.Piece.TheVariants.{Text, Number, Hex, Repeats}

-- what a piece writes
abbrev pub piece_text : Piece → List ℕ
piece_text (Text t) = t.now
piece_text (Number n) = decimal n
piece_text (Hex bytes) = hex_text bytes.now
piece_text (Repeats bytes) = repeats_text bytes.now

-- what pieces write, one after the other
abbrev pub pieces_text : List Piece → List ℕ
pieces_text [] = []
pieces_text (p ∷ ps) = piece_text p ++ pieces_text ps
