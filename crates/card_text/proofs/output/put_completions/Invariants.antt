use Rattle.std.proofs.Common.{◌≡◌, ℕ, List, ◌++◌, drop}
use Rattle.std.specs.Io.KnownBytes.{Appends}
use Rattle.card_text.specs.Output.{completions_text}
use Rattle.card_text.proofs.output.put_completions.Given as goal

abbrev pub invariant-loop-completion : goal.invariant-loop-completion
invariant-loop-completion g l = record {
  front : List ℕ;
  split : completions_text l.fn.completions ≡ front ++ completions_text (drop l.completion-index l.fn.completions);
  printed : Appends (g.W.Write.contents l.fn.out) (g.W.Write.contents l.out) front;
}
