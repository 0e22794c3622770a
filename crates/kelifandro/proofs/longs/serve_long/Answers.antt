use Rattle.std.proofs.Common.{ap, of_z, rules, sym, to_z, w32, ◌∙◌, ◌≡◌}
use Rattle.std.proofs.lemmas.Bool.{false≢true}
use Rattle.std.proofs.lemmas.Int.{to_z-of_z}
use Rattle.std.specs.Prelude.{ℤ}
use Rattle.kelifandro.specs.Calls.{is_attempted}
use Rattle.kelifandro.proofs.CallLemmas.{told_none, told_why}
use Rattle.kelifandro.proofs.longs.serve_long.Goals as goal

pub returns-in-Err-clause-refused : goal.returns-in-Err-clause-refused
returns-in-Err-clause-refused g c = λ opened how says.
    told_why _ c.in-Err.number _
    (sym c.in-Err.is ∙ c.may_begin.ensures.refused opened how says)
    (λ why is. (search rules))

pub returns-in-Err-clause-whole : goal.returns-in-Err-clause-whole
returns-in-Err-clause-whole g c = λ zero.
    let number : to_z w32 (of_z w32 c.in-Err.number) ≡ c.in-Err.number = to_z-of_z w32 c.in-Err.number (search rules) in
    absurd (false≢true (sym c.in-Err.ensures.unmade ∙ ap (λ (n : ℤ). is_attempted n) (sym number ∙ zero)))

pub returns-in-Err-clause-less : goal.returns-in-Err-clause-less
returns-in-Err-clause-less g c = λ made failed.
    let number : to_z w32 (of_z w32 c.in-Err.number) ≡ c.in-Err.number = to_z-of_z w32 c.in-Err.number (search rules) in
    absurd (false≢true (sym c.in-Err.ensures.unmade ∙ ap (λ (n : ℤ). is_attempted n) (sym number) ∙ made))

pub returns-in-Ok-clause-refused : goal.returns-in-Ok-clause-refused
returns-in-Ok-clause-refused g c = λ opened how says.
    told_none _ _ (sym c.in-Ok.is ∙ c.may_begin.ensures.refused opened how says)
