use Rattle.std.proofs.Common.{◌≡◌, ◌++◌, drop}
use Rattle.card_picture.specs.Escapes.{escaped}
use Rattle.card_picture.proofs.escape.put_escaped.Given as goal

abbrev pub invariant-loop-byte : goal.invariant-loop-byte
invariant-loop-byte l =
    l.fn.out.items ++ escaped l.fn.text ≡ l.out.items ++ escaped (drop l.byte-index l.fn.text)
