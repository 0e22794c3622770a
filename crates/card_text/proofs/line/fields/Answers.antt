use Rattle.std.proofs.Common.{◌++◌, List, ℕ, ap, ◌∙◌, map, sym, arith}
use Rattle.std.proofs.lemmas.List.{length-map}
use Rattle.std.proofs.lemmas.Bool.Decides.{nat_tests}
use Rattle.card_text.specs.Parts.{left_parts}
use Rattle.card_text.proofs.PartLemmas.{one_more}
use Rattle.card_text.proofs.line.fields.Goals as goal

pub returns-then-is_full-clause-none : goal.returns-then-is_full-clause-none
returns-then-is_full-clause-none c =
    let done : List (List ℕ) = map (λ f. f.now) c.loop-rest.fields.items in
    let more = one_more done _ c.in-Some.text.now (ap (λ r. done ++ left_parts 32 r) (sym c.in-Some.is) ∙ c.loop-rest.invariant) in
    grind (arith, nat_tests, more, length-map c.loop-rest.fields.items (λ f. f.now))
