-- The lines of which objects were written so far, and those that are left.
use Rattle.std.proofs.Common.{List, Option, Some, ap, append-nil, append_assoc, sym, ◌++◌, ◌∙◌, ◌∷◌, ◌≡◌, ℕ}
use Rattle.std.specs.Borrow.{Bor}
use Rattle.card_text.proofs.PartLemmas.{none_left}
use Rattle.card_text.specs.Parts.{left_parts}
use Rattle.card_json.specs.Fields.{fields_text, line_said}
use Rattle.card_json.specs.Objects.{object_line}

-- one line more
pub one_line : (all out put line : List ℕ) (left others : List (List ℕ)) → all ≡ out ++ fields_text left → left ≡ line ∷ others
    → put ≡ out ++ object_line (line_said line) → all ≡ put ++ fields_text others
unfolding fields_text
one_line all out put line left others before first is =
    before ∙ ap (λ ls. out ++ fields_text ls) first ∙ sym (append_assoc out (object_line (line_said line)) (fields_text others))
    ∙ ap (λ o. o ++ fields_text others) (sym is)

-- and no line more
pub no_line : (all out : List ℕ) (rest : Option (Bor (List ℕ))) → ((text : Bor (List ℕ)) → rest ≡ Some text → ⊥)
    → all ≡ out ++ fields_text (left_parts 10 rest) → out ≡ all
unfolding fields_text
no_line all out rest none before = sym (before ∙ ap (λ ls. out ++ fields_text ls) (none_left 10 rest none) ∙ append-nil out)
