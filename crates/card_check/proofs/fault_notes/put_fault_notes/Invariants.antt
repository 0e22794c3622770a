use Rattle.std.proofs.Common.{ℕ, ◌+◌, List, length}
use Rattle.std.specs.Io.KnownBytes.{Appends}
use Rattle.card_text.specs.Parts.{left_parts}
use Rattle.card_text.specs.Script.{lines}
use Rattle.card_check.specs.Notes.{fault_note}
use Rattle.card_check.proofs.ByLineLemmas.{Reviewed}
use Rattle.card_check.proofs.fault_notes.put_fault_notes.Given as goal

abbrev pub invariant-loop-rest : goal.invariant-loop-rest
invariant-loop-rest g l = record {
  front : List ℕ;
  reviewed : Reviewed (fault_note l.fn.kind) (lines l.fn.text) (left_parts 10 l.rest) (length l.fn.text + 1) l.number front;
  printed : Appends (g.W.Write.contents l.fn.out) (g.W.Write.contents l.out) front;
}

abbrev pub decreases-loop-rest : goal.decreases-loop-rest
decreases-loop-rest g l = length (left_parts 10 l.rest)
