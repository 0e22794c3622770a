use Rattle.std.proofs.Common.{◌≡◌, ◌++◌, take, drop}
use Rattle.std.specs.Prelude.{map}
use Rattle.card_decode.specs.Words.{printable}
use Rattle.card_decode.proofs.meaning.make_printable.Given as goal

abbrev pub invariant-loop-byte : goal.invariant-loop-byte
invariant-loop-byte l =
    l.text ≡ map printable (take l.byte-index l.initial.text) ++ drop l.byte-index l.initial.text
