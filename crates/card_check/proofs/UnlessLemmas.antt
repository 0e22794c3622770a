-- Two lines that are written where something isn't so.
use Rattle.std.proofs.Common.{Bool, List, Option, Result, subst, ◌++◌, ◌≡◌, ℕ}
use Rattle.std.specs.Prelude.{IsErr}
use Rattle.std.specs.Io.KnownBytes.{Appends}
use Rattle.text_out.proofs.WritingLemmas.{front_before, writes_after, writes_failed}
use Rattle.text_out.specs.Writing.{AppendsFront, Writes}
use Rattle.card_check.specs.Registers.{unless}

module _ {E : Type 0} (old mid new : Option (List ℕ)) (r : Result Unit E) (tested is tested' is' : Bool)
    (first second : List ℕ) where
  pub first_failed : IsErr r → tested ≡ is → AppendsFront old new (unless tested first)
      → Writes old new r (unless is first ++ unless is' second)
  first_failed failed same front =
      writes_failed old new r _ failed (front_before old new (unless is first) (unless is' second)
      (subst (λ b. AppendsFront old new (unless b first)) same front))

  pub both_written : tested ≡ is → tested' ≡ is' → Appends old mid (unless tested first)
      → Writes mid new r (unless tested' second) → Writes old new r (unless is first ++ unless is' second)
  both_written same same' wrote writes =
      writes_after old mid new r (unless is first) (unless is' second)
      (subst (λ b. Appends old mid (unless b first)) same wrote)
      (subst (λ b. Writes mid new r (unless b second)) same' writes)
