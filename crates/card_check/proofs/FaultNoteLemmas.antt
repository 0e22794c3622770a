-- A flip that is none in the longest frame fits no answer.
use Rattle.std.proofs.Common.{◌≡◌, Bool, None, Option, Some, ap, arith, false, refl, sym, true, ℕ}
use Rattle.std.proofs.lemmas.Bool.Decides.{nat_tests}
use Rattle.std.specs.Prelude.{nat_lt, not, ◌&&◌, ◌==◌}
use Rattle.mmc_frame.specs.declared.kind.Kind.{Kind}
use Rattle.mmc_card.specs.CardAnswer.{CardAnswer, Checked, R2, R3, Silent}
use Rattle.mmc_card_sim.specs.FlippedReplies.{are_beside_ocr, can_flip, is_flip, is_flip_of}
use Rattle.mmc_card_sim.specs.declared.fault.Fault.TheVariants.{FlipReply}
use Rattle.mmc_card_sim.specs.declared.fault.Flips.{Flips}
use Rattle.card_check.specs.Notes.{FitsNothing}

in_longer : (n : ℕ) → nat_lt n 48 ≡ true → nat_lt n 136 ≡ true
in_longer n h = grind (arith, nat_tests)

one : (a b : Bool) → (a ≡ true → b ≡ true) → b ≡ false → a ≡ false
one false b p h = refl
one true true p h = h
one true false p h = sym (p refl)

two : (a b c a' b' : Bool) → (a ≡ true → a' ≡ true) → (b ≡ true → b' ≡ true) → (a' && (b' && c)) ≡ false
    → (a && (b && c)) ≡ false
two false b c a' b' p q h = refl
two true false c a' b' p q h = refl
two true true false a' b' p q h = refl
two true true true true true p q h = h
two true true true true false p q h = sym (q refl)
two true true true false b' p q h = sym (p refl)

shorter_by : (first : ℕ) (second : Option ℕ) → is_flip_of first second 136 ≡ false → is_flip_of first second 48 ≡ false
shorter_by first None h = one (nat_lt first 48) (nat_lt first 136) (in_longer first) h
shorter_by first (Some second) h =
    two (nat_lt first 48) (nat_lt second 48) (not (first == second)) (nat_lt first 136) (nat_lt second 136)
    (in_longer first) (in_longer second) h

shorter : (flips : Flips) → is_flip flips 136 ≡ false → is_flip flips 48 ≡ false
shorter flips h = shorter_by flips.first flips.second h

unflipped : (flips : Flips) (answer : CardAnswer) → is_flip flips 136 ≡ false → can_flip flips answer ≡ false
unflipped flips Silent h = refl
unflipped flips (Checked index argument) h = shorter flips h
unflipped flips (R3 ocr) h = ap (λ (b : Bool). b && are_beside_ocr flips.first flips.second) (shorter flips h)
unflipped flips (R2 register) h = h

pub flips_nothing : (kind : Kind) (flips : Flips) → is_flip flips 136 ≡ false → FitsNothing kind (FlipReply flips)
flips_nothing kind flips h = record {
  command = λ delays card frame is. unflipped flips _ h;
  read = λ card lines size. refl;
  write = λ card lines. refl;
  poll = λ card. refl;
  time = λ card. refl;
}
