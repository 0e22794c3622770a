-- The numbers that calls of a queue are answered.
use Rattle.std.proofs.Common.{◌∙◌, ◌≡◌, ◌||◌, Bool, None, Option, Some, ap, arith, false, sym, true, ℕ, ℤ}
use Rattle.std.specs.Prelude.{◌==◌, not}
use Rattle.std.proofs.lemmas.Bool.Decides.{nat_tests}
use Rattle.std.proofs.lemmas.Bool.{true≢false}
use Rattle.std.specs.Prelude.{Err, IfSome, Result}
use Rattle.mmc_requests.specs.declared.refused.Refused.{Refused}
use Rattle.mmc_slots.specs.declared.acceptance.NotAccepted.{NotAccepted}
use Rattle.mmc_slots.specs.declared.acceptance.NotAccepted.TheVariants as Not
use Rattle.kelifandro.specs.Answers.{refused_number, submitted_number}

pub refused_by : (reason : Option Refused) (submitted : Result Unit NotAccepted) (number : ℤ)
    → IfSome reason (λ why. submitted ≡ Err (Not.Refused why)) → number ≡ submitted_number submitted
    → IfSome reason (λ why. number ≡ refused_number why)
refused_by None submitted number judged told = tt
refused_by (Some why) submitted number judged told = told ∙ ap submitted_number judged

abbrev or_else : {A : Type 0} → A → Option A → A
or_else other None = other
or_else other (Some it) = it

-- what stands in an option is one
pub same_some : {A : Type 0} (option : Option A) (a b : A) → option ≡ Some a → option ≡ Some b → a ≡ b
same_some option a b first then = ap (or_else a) (sym first ∙ then)

-- what was said to be done has its answers
pub not_done : (is_done others : Bool) → is_done ≡ true → (is_done || others) ≡ false → ⊥
not_done true others is not = true≢false not
not_done false others is not = true≢false (sym is)

pub not_zero_is : (n : ℕ) → (n ≡ 0 → ⊥) → not (n == 0) ≡ true
not_zero_is n some = grind (arith, nat_tests)
