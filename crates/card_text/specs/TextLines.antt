-- A line of a card file or a script, and what such lines say together.
use Rattle.std.specs.Prelude.{ℕ, ◌==◌, Bool, List, [], ◌∷◌, Option, None, Some, option_map, true}
use Rattle.card_text.specs.declared.text_line.Line.{Line}
use Rattle.card_text.specs.declared.text_line.Line.TheVariants.{Bad, Says, Skipped}

-- an empty line, or a comment
abbrev pub is_skipped : List ℕ → Bool
is_skipped [] = true
is_skipped (b ∷ bs) = b == 35

-- a line that isn't skipped, by what its fields say
abbrev pub line_by : {A : Type 0} → Option A → Line A
line_by None = Bad
line_by (Some said) = Says said

-- what lines say, in order, where each of them is of the grammar
unfoldable pub said_in : {A : Type 0} → List (Line A) → Option (List A)
said_in [] = Some []
said_in (Bad ∷ others) = None
said_in (Skipped ∷ others) = said_in others
said_in (Says said ∷ others) = option_map (λ all. said ∷ all) (said_in others)
