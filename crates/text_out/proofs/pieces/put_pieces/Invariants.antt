use Rattle.std.proofs.Common.{◌≡◌, ℕ, List, ◌++◌, drop}
use Rattle.std.specs.Io.KnownBytes.{Appends}
use Rattle.text_out.specs.Pieces.{pieces_text}
use Rattle.text_out.proofs.pieces.put_pieces.Given as goal

abbrev pub invariant-loop-piece : goal.invariant-loop-piece
invariant-loop-piece g l = (front : List ℕ)
    × (pieces_text l.fn.pieces ≡ front ++ pieces_text (drop l.piece-index l.fn.pieces))
    × Appends (g.W.Write.contents l.fn.out) (g.W.Write.contents l.out) front
