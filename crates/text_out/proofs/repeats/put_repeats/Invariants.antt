use Rattle.std.proofs.Common.{◌≡◌, ℕ, List, ◌++◌, length}
use Rattle.std.specs.Io.KnownBytes.{Appends}
use Rattle.text_out.specs.Repeats.{repeats_text}
use Rattle.text_out.proofs.repeats.put_repeats.Given as goal

abbrev pub invariant-loop-rest : goal.invariant-loop-rest
invariant-loop-rest g l = (front : List ℕ) × (repeats_text l.fn.bytes ≡ front ++ repeats_text l.rest)
    × Appends (g.W.Write.contents l.fn.out) (g.W.Write.contents l.out) front

abbrev pub decreases-loop-rest : goal.decreases-loop-rest
decreases-loop-rest g l = length l.rest
