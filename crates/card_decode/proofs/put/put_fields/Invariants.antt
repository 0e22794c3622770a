use Rattle.std.proofs.Common.{◌≡◌, ℕ, List, ◌++◌, drop}
use Rattle.std.specs.Io.KnownBytes.{Appends}
use Rattle.card_decode.specs.Registers.{number_of}
use Rattle.card_decode.specs.Words.{fields_text}
use Rattle.card_decode.proofs.put.put_fields.Given as goal

abbrev pub invariant-loop-field : goal.invariant-loop-field
invariant-loop-field g l = (front : List ℕ)
    × (fields_text l.register (number_of l.register l.bytes) l.fields
    ≡ front ++ fields_text l.register (number_of l.register l.bytes) (drop l.field-index l.fields))
    × Appends (g.W.Write.contents l.fn.out) (g.W.Write.contents l.out) front
