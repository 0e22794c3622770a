use Rattle.std.proofs.Common.{◌≡◌, ℕ, List, ◌++◌, drop}
use Rattle.std.specs.Io.KnownBytes.{Appends}
use Rattle.card_maker.specs.CardText.{ext_lines}
use Rattle.card_maker.specs.FileLines.{ended_lines}
use Rattle.card_maker.proofs.card_file.put_ext_lines.Given as goal

abbrev pub invariant-loop-place : goal.invariant-loop-place
invariant-loop-place g l = record {
  front : List ℕ;
  split : ended_lines (ext_lines 0 l.fn.ext_csd) ≡ front ++ ended_lines (ext_lines l.place (drop l.place l.fn.ext_csd));
  printed : Appends (g.W.Write.contents l.fn.out) (g.W.Write.contents l.out) front;
}
