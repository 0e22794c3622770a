-- Sets of values and changes of them.
use Rattle.std.proofs.Common.{◌&&◌, ◌+◌, ◌<◌, ◌∙◌, ◌∷◌, ◌≡◌, ◌≤◌, ◌⊎◌, Bool, List, [], ap, arith, cond, false, inl, inr}
use Rattle.std.proofs.Common.{length, refl, suc, sym, true, zero, ℕ}
use Rattle.std.specs.Prelude.{◌==◌, nat_le, nat_lt, slice_index_or}
use Rattle.mmc_card.specs.declared.part.Part.{Part}
use Rattle.mmc_card.specs.declared.part.Part.TheVariants.{Boot1, Boot2, Gp1, Gp2, Gp3, Gp4, User}
use Rattle.mmc_card.specs.Card.{at_sector}
use Rattle.mmc_card.specs.Sectors.{Change, IsIn, Sector, Sets, Within, maybe_changed, part_number, touches, value_of}
use Rattle.std.proofs.lemmas.Bool.Decides.{nat_tests}

-- Sets.

pub within_same : (sets : Sets) → Within sets sets
within_same sets part sector value h = h

pub in_cond : (b : Bool) (x : Sector) (xs : List Sector) (v : Sector) → IsIn (cond b (x ∷ xs) xs) v
    → ((b ≡ true) × (v ≡ x)) ⊎ IsIn xs v
in_cond true x xs v (inl e) = inl (refl, e)
in_cond true x xs v (inr h) = inr h
in_cond false x xs v h = inr h

pub cond_in_new : (b : Bool) (x : Sector) (xs : List Sector) (v : Sector) → b ≡ true → v ≡ x
    → IsIn (cond b (x ∷ xs) xs) v
cond_in_new true x xs v t e = inl e
cond_in_new false x xs v t e = cc

pub cond_in_old : (b : Bool) (x : Sector) (xs : List Sector) (v : Sector) → IsIn xs v → IsIn (cond b (x ∷ xs) xs) v
cond_in_old true x xs v h = inr h
cond_in_old false x xs v h = h

-- what might be before may be after a change that was carried out or not
pub old_maybe : (change : Change) (sets : Sets) → Within sets (maybe_changed change sets)
old_maybe change sets part sector value h =
    cond_in_old (touches change part sector) (value_of change sector) (sets part sector) value h

-- a change goes along with what is within
pub maybe_within : (change : Change) (new old : Sets) → Within new old
    → Within (maybe_changed change new) (maybe_changed change old)
maybe_within change new old within part sector value h =
    elim (in_cond (touches change part sector) (value_of change sector) (new part sector) value h) [
      | inl t ↦ cond_in_new (touches change part sector) (value_of change sector) (old part sector) value t.0 t.1
      | inr k ↦ cond_in_old (touches change part sector) (value_of change sector) (old part sector) value
          (within part sector value k)
    ]

-- Which sectors a change touches.

pub touched_by : (a b start s n : ℕ) → a ≡ b → start ≤ s → s < start + n
    → ((a == b) && (nat_le start s && nat_lt s (start + n))) ≡ true
touched_by a b start s n e l m = grind (arith, nat_tests)

pub by_touch : (a b start s n : ℕ) → ((a == b) && (nat_le start s && nat_lt s (start + n))) ≡ true
    → (a ≡ b) × (start ≤ s) × (s < start + n)
by_touch a b start s n h = (grind (arith, nat_tests), grind (arith, nat_tests), grind (arith, nat_tests))

pub untouched : (change : Change) (part : Part) (sector : ℕ) → change.values ≡ [] → touches change part sector ≡ true
    → ⊥
untouched change part sector none t =
    let h = by_touch (part_number change.part) (part_number part) change.start sector (length change.values) t in
    let n : length change.values ≡ 0 = ap length none in
    omega (arith, h.1, h.2, n)

pub part_of_number : ℕ → Part
part_of_number zero = User
part_of_number (suc zero) = Boot1
part_of_number (suc (suc zero)) = Boot2
part_of_number (suc (suc (suc zero))) = Gp1
part_of_number (suc (suc (suc (suc zero)))) = Gp2
part_of_number (suc (suc (suc (suc (suc zero))))) = Gp3
part_of_number (suc (suc (suc (suc (suc (suc n)))))) = Gp4

numbered : (part : Part) → part_of_number (part_number part) ≡ part
unfolding part_of_number
numbered User = refl
numbered Boot1 = refl
numbered Boot2 = refl
numbered Gp1 = refl
numbered Gp2 = refl
numbered Gp3 = refl
numbered Gp4 = refl

pub same_part : (p q : Part) → part_number p ≡ part_number q → p ≡ q
same_part p q e = sym (numbered p) ∙ ap part_of_number e ∙ numbered q

-- One sector of a list.

in_at_by : (b : Bool) (x v : Sector) → IsIn (cond b (x ∷ []) []) v → (b ≡ true) × (v ≡ x)
in_at_by true x v (inl e) = (refl, e)
in_at_by true x v (inr h) = absurd h
in_at_by false x v h = absurd h

at_in_by : (b : Bool) (x v : Sector) → b ≡ true → v ≡ x → IsIn (cond b (x ∷ []) []) v
at_in_by true x v t e = inl e
at_in_by false x v t e = cc

less_of : (a b : ℕ) → nat_lt a b ≡ true → a < b
less_of a b h = grind (arith, nat_tests)

of_less : (a b : ℕ) → a < b → nat_lt a b ≡ true
of_less a b h = grind (arith, nat_tests)

pub in_at : (xs : List Sector) (s : ℕ) (v : Sector) → IsIn (at_sector xs s) v
    → (s < length xs) × (v ≡ slice_index_or xs s [])
in_at xs s v h =
    let q = in_at_by (nat_lt s (length xs)) (slice_index_or xs s []) v h in (less_of s (length xs) q.0, q.1)

pub at_in : (xs : List Sector) (s : ℕ) (v : Sector) → s < length xs → v ≡ slice_index_or xs s []
    → IsIn (at_sector xs s) v
at_in xs s v l e = at_in_by (nat_lt s (length xs)) (slice_index_or xs s []) v (of_less s (length xs) l) e
