-- The remainders of x^0 to x^126 are different, and none is 0.
use Rattle.std.proofs.Common.{◌≡◌, ℕ, zero, suc, ◌<◌, inl, inr, Bool, true, false, not, ◌&&◌, refl, arith}
use Rattle.std.specs.Prelude.{nat_eq}
use Rattle.std.proofs.lemmas.Bool.{cases_eq, eq-eqb}
use Rattle.mmc_frame.specs.Check.{times_x, power}
use Rattle.mmc_frame.proofs.Bytes.{each_below, and_true}

abbrev pub is_new_below : ℕ → ℕ → Bool
is_new_below p n = each_below n (λ j. not (nat_eq (power j) p))

abbrev pub powers_differ : ℕ → Bool
powers_differ n = each_below n (λ i. not (nat_eq (power i) 0) && is_new_below (power i) i)

all_differ : powers_differ 127 ≡ true
unfolding power times_x
all_differ = refl

not_false : (b : Bool) → not b ≡ true → b ≡ true → ⊥
not_false true h k = cc
not_false false h k = cc

at_below : (n : ℕ) (test : ℕ → Bool) → each_below n test ≡ true → (i : ℕ) → i < n → test i ≡ true
at_below zero test h i l = absurd (omega arith)
at_below (suc n) test h i l =
    let both = and_true (test n) (each_below n test) h in
    elim (cases_eq i n) [ inl same ↦ rw same both.0 | inr other ↦ at_below n test both.1 i (omega (arith, other)) ]

pub power_nonzero : (i : ℕ) → i < 127 → power i ≡ 0 → ⊥
power_nonzero i l h =
    let test = at_below 127 (λ k. not (nat_eq (power k) 0) && is_new_below (power k) k) all_differ i l in
    not_false _ (and_true _ _ test).0 (eq-eqb (power i) 0 h)

pub powers_other : (i j : ℕ) → j < i → i < 127 → power j ≡ power i → ⊥
powers_other i j less l h =
    let test = at_below 127 (λ k. not (nat_eq (power k) 0) && is_new_below (power k) k) all_differ i l in
    not_false _ (at_below i (λ k. not (nat_eq (power k) (power i))) (and_true _ _ test).1 j less)
    (eq-eqb (power j) (power i) h)
