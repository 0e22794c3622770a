use Rattle.std.proofs.Common.{◌≡◌, drop}
use Rattle.card_decode.specs.Words.{name_in}
use Rattle.card_decode.proofs.meaning.name_in.Given as goal

abbrev pub invariant-loop-name : goal.invariant-loop-name
invariant-loop-name l = name_in l.fn.names l.value ≡ name_in (drop l.name-index l.fn.names) l.value
