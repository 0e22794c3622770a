use Rattle.std.proofs.Common.{◌≡◌, ℕ, List, ◌++◌, drop}
use Rattle.std.specs.Prelude.{codes}
use Rattle.std.specs.Io.KnownBytes.{Appends}
use Rattle.card_decode.specs.Words.{set_text}
use Rattle.card_decode.proofs.meaning.put_set.Given as goal

abbrev pub invariant-loop-name : goal.invariant-loop-name
invariant-loop-name g l = (front : List ℕ)
    × (set_text (codes ": ") l.fn.names l.value ≡ front ++ set_text l.separator (drop l.name-index l.fn.names) l.value)
    × Appends (g.W.Write.contents l.fn.out) (g.W.Write.contents l.out) front
