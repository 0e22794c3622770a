use Rattle.std.proofs.Common.{◌≡◌, ℕ, List, ◌++◌, drop}
use Rattle.std.specs.Io.KnownBytes.{Appends}
use Rattle.text_out.specs.Hex.{hex_text}
use Rattle.text_out.proofs.hex.put_hex.Given as goal

abbrev pub invariant-loop-byte : goal.invariant-loop-byte
invariant-loop-byte g l = (front : List ℕ) × (hex_text l.fn.bytes ≡ front ++ hex_text (drop l.byte-index l.fn.bytes))
    × Appends (g.W.Write.contents l.fn.out) (g.W.Write.contents l.out) front
