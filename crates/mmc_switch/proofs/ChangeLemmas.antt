-- Work of several turns that changes some sectors of a card: what all turns leave together.
use Rattle.std.proofs.Common.{◌+◌, ◌-◌, ◌<◌, ◌∙◌, ◌∷◌, ◌≡◌, ◌≤◌, Bool, List, [], ap, arith, cond, false, inl, inr, length, refl, subst}
use Rattle.std.proofs.Common.{sym, true, ℕ}
use Rattle.std.specs.Prelude.{nat_lt, slice_index_or}
use Rattle.std.proofs.lemmas.Bool.Decides.{nat_tests}
use Rattle.mmc_card.specs.declared.part.Part.{Part}
use Rattle.mmc_card.proofs.SectorLemmas.{by_touch, cond_in_new, in_cond, old_maybe, same_part}
use Rattle.mmc_card.specs.BusView.{BusView}
use Rattle.mmc_card.specs.Card.{Card, at_sector, holds, known, stored}
use Rattle.mmc_card.specs.Laws.{Carried}
use Rattle.mmc_card.specs.Sectors.{Change, IsIn, Same, Sector, Sets, Within, changed, maybe_changed, part_number}
use Rattle.mmc_card.specs.Sectors.{touches, value_of}
use Rattle.mmc_bus.specs.Learned.{Stays}
use Rattle.mmc_bus.proofs.WorkLemmas.{stays_same, stays_then}
use Rattle.mmc_switch.specs.UnderWay.{Turn, faults_then}

-- what a card at rest holds
abbrev pub RestLaw : Type 0
RestLaw = (card : Card) → card.values ≡ [] → Same (holds card) (known card)

-- Exactly a change: what holds no more than before but for its sectors, and has those changed, has changed just so.

same_cond : (b : Bool) (x y : Sector)
    → ((v : Sector) → IsIn (cond b (x ∷ []) []) v → IsIn (cond b (y ∷ []) []) v)
    → cond b (x ∷ []) [] ≡ cond b (y ∷ []) []
same_cond true x y within = elim (within x (inl refl)) [ inl e ↦ ap (λ z. z ∷ []) e | inr none ↦ absurd none ]
same_cond false x y within = refl

-- as many sectors, and no more in each of them
same_sector : (xs ys : List Sector) (s : ℕ) → length xs ≡ length ys
    → ((v : Sector) → IsIn (at_sector xs s) v → IsIn (at_sector ys s) v) → at_sector xs s ≡ at_sector ys s
same_sector xs ys s size within =
    let e : cond (nat_lt s (length xs)) (slice_index_or ys s [] ∷ []) [] ≡ at_sector ys s =
    ap (λ n. cond (nat_lt s n) (slice_index_or ys s [] ∷ []) []) size in
    same_cond (nat_lt s (length xs)) (slice_index_or xs s []) (slice_index_or ys s [])
    (λ v h. subst (λ zs. IsIn zs v) (sym e) (within v h)) ∙ e

-- a sector that exists and may hold this value alone
one_value : (xs : List Sector) (s : ℕ) (value : Sector) → s < length xs
    → ((v : Sector) → IsIn (at_sector xs s) v → v ≡ value) → at_sector xs s ≡ value ∷ []
one_value xs s value below alone =
    let there : nat_lt s (length xs) ≡ true = grind (arith, nat_tests) in
    let is : at_sector xs s ≡ slice_index_or xs s [] ∷ [] = rw there refl in
    is ∙ ap (λ z. z ∷ []) (alone (slice_index_or xs s []) (rw is (inl refl)))

on_touched : (b : Bool) (x v : Sector) (xs : List Sector) → b ≡ true → IsIn (cond b (x ∷ []) xs) v → v ≡ x
on_touched true x v xs t (inl e) = e
on_touched true x v xs t (inr none) = absurd none
on_touched false x v xs t h = cc

off_touched : (b : Bool) (x v : Sector) (xs : List Sector) → b ≡ false → IsIn (cond b (x ∷ xs) xs) v → IsIn xs v
off_touched true x v xs t h = cc
off_touched false x v xs t h = h

module _ (change : Change) (a b : Card) (rest_a : Same (holds a) (known a)) (rest_b : Same (holds b) (known b))
    (carried : Carried a b) (inside : change.start + length change.values ≤ length (stored b change.part))
    (within : Within (holds b) (maybe_changed change (holds a)))
    (done : Within (holds b) (changed change (holds b))) where
  on : (part : Part) (s : ℕ) → touches change part s ≡ true → holds b part s ≡ changed change (holds a) part s
  on part s t =
      let hit = by_touch (part_number change.part) (part_number part) change.start s (length change.values) t in
      let here : length (stored b change.part) ≡ length (stored b part) =
      ap (λ p. length (stored b p)) (same_part change.part part hit.0) in
      let below : s < length (stored b part) = omega (arith, hit.2, inside, here) in
      let to : changed change (holds a) part s ≡ value_of change s ∷ [] = rw t refl in
      rest_b part s
      ∙ one_value (stored b part) s (value_of change s) below (λ v h.
      on_touched (touches change part s) (value_of change s) v (holds b part s) t
      (done part s v (subst (λ xs. IsIn xs v) (sym (rest_b part s)) h)))
      ∙ sym to

  off : (part : Part) (s : ℕ) → touches change part s ≡ false → holds b part s ≡ changed change (holds a) part s
  off part s t =
      let to : changed change (holds a) part s ≡ holds a part s = rw t refl in
      rest_b part s
      ∙ same_sector (stored b part) (stored a part) s (carried.sizes part) (λ v h.
      subst (λ xs. IsIn xs v) (rest_a part s)
      (off_touched (touches change part s) (value_of change s) v (holds a part s) t
      (within part s v (subst (λ xs. IsIn xs v) (sym (rest_b part s)) h))))
      ∙ sym (rest_a part s) ∙ sym to

  by : (part : Part) (s : ℕ) (t : Bool) → touches change part s ≡ t → holds b part s ≡ changed change (holds a) part s
  by part s true t = on part s t
  by part s false t = off part s t

  pub exactly : Same (holds b) (changed change (holds a))
  exactly part s = by part s _ refl

-- Turns one after the other.

pub within_twice : (change : Change) (a b c : Sets) → Within b (maybe_changed change a) → Within c (maybe_changed change b)
    → Within c (maybe_changed change a)
within_twice change a b c first second part s v h =
    elim (in_cond (touches change part s) (value_of change s) (b part s) v (second part s v h)) [
      | inl new ↦ cond_in_new (touches change part s) (value_of change s) (a part s) v new.0 new.1
      | inr old ↦ first part s v old
    ]

-- the faults so far, and those of this turn
faults_so_far : (first now new : BusView) → Stays first now → Stays now new
    → faults_then (now.faults - first.faults) now new ≡ new.faults - first.faults
faults_so_far first now new p q = let l = p.later in let m = q.later in omega (arith, l, m)

-- What some turns have led to, of which `Running` is the work's own.
pub record IsSoFar (change : Change) (Running : ℕ → BusView → Type 0) (first now : BusView) : Type 0 where
  pub stays : Stays first now
  pub within : Within (holds now.card) (maybe_changed change (holds first.card))
  pub running : Running (now.faults - first.faults) now

-- before the first one
pub so_far_first : (change : Change) (Running : ℕ → BusView → Type 0) (first : BusView) → Running 0 first
    → IsSoFar change Running first first
so_far_first change Running first running = record {
  stays = stays_same first first.lines;
  within = old_maybe change (holds first.card);
  running = let none : 0 ≡ first.faults - first.faults = omega arith in subst (λ n. Running n first) none running;
}

-- after another one
pub so_far_then : (change : Change) (Running Left : ℕ → BusView → Type 0) (first now new : BusView)
    → IsSoFar change Running first now
    → ((faults : ℕ) → Running faults now → Turn change Left faults now new) → IsSoFar change Left first new
so_far_then change Running Left first now new f turned =
    let t = turned (now.faults - first.faults) f.running in
    record {
      stays = stays_then first now new f.stays t.stays;
      within = within_twice change (holds first.card) (holds now.card) (holds new.card) f.within t.within;
      running = subst (λ n. Left n new) (faults_so_far first now new f.stays t.stays) t.left;
    }
