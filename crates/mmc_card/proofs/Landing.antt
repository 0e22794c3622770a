-- What lands of an unfinished transfer, sector by sector.
use Rattle.std.proofs.Common.{◌++◌, ◌+◌, ◌-◌, ◌<◌, ◌∙◌, ◌∷◌, ◌≡◌, ◌≤◌, ◌⊎◌, Bool, List, [], ap, arith, inl, inr, length}
use Rattle.std.proofs.Common.{refl, suc, sym, true, zero, ℕ}
use Rattle.std.specs.Prelude.{slice_index_or, slice_set}
use Rattle.mmc_card.specs.declared.part.Part.{Part}
use Rattle.mmc_card.proofs.Conditions.{by_cond}
use Rattle.mmc_card.proofs.SectorLemmas.{at_in, cond_in_new, cond_in_old, in_at, in_cond, touched_by, untouched}
use Rattle.mmc_card.specs.Card.{Card, holds, known, landed, landed_in, stored, unfinished}
use Rattle.mmc_card.specs.Sectors.{Sector, Within, part_number, touches, value_of}

-- lists

pub record Lands (i : ℕ) (vs : List Sector) (s : ℕ) (v : Sector) : Type 0 where
  pub j : ℕ
  pub at : s ≡ i + j
  pub below : j < length vs
  pub is : slice_index_or vs j [] ≡ v

pub landed_length : (lands : ℕ → Bool) (i : ℕ) (vs xs : List Sector) → length (landed_in lands i vs xs) ≡ length xs
landed_length lands i vs [] = refl
landed_length lands zero [] (x ∷ xs) = refl
landed_length lands zero (v ∷ vs) (x ∷ xs) = let h = landed_length lands zero vs xs in omega (arith, h)
landed_length lands (suc i) vs (x ∷ xs) = let h = landed_length lands i vs xs in omega (arith, h)

pub landed_at : (lands : ℕ → Bool) (i : ℕ) (vs xs : List Sector) (s : ℕ) (v : Sector)
    → slice_index_or (landed_in lands i vs xs) s [] ≡ v → (slice_index_or xs s [] ≡ v) ⊎ Lands i vs s v
landed_at lands i vs [] s v h = inl h
landed_at lands zero [] (x ∷ xs) s v h = inl h
landed_at lands zero (w ∷ vs) (x ∷ xs) zero v h =
    by_cond (λ y. y ≡ v → (x ≡ v) ⊎ Lands zero (w ∷ vs) zero v) (lands (length vs))
    (λ _ e. inr (record { j = 0; at = refl; below = omega arith; is = e })) (λ _ o. inl o) h
landed_at lands zero (w ∷ vs) (x ∷ xs) (suc s) v h =
    elim (landed_at lands zero vs xs s v h) [
      | inl o ↦ inl o
      | inr l ↦
          (let a = l.at in
          let b = l.below in
          inr (record { j = suc l.j; at = omega (arith, a); below = omega (arith, b); is = l.is }))
    ]
landed_at lands (suc i) vs (x ∷ xs) zero v h = inl h
landed_at lands (suc i) vs (x ∷ xs) (suc s) v h =
    elim (landed_at lands i vs xs s v h) [
      | inl o ↦ inl o
      | inr l ↦ (let a = l.at in inr (record { j = l.j; at = omega (arith, a); below = l.below; is = l.is }))
    ]

-- all landed
pub all_at : (i : ℕ) (vs xs : List Sector) (j : ℕ) → i + length vs ≤ length xs → j < length vs
    → slice_index_or (landed_in (λ k. true) i vs xs) (i + j) [] ≡ slice_index_or vs j []
all_at i vs [] j f l = absurd (omega (arith, f, l))
all_at zero [] (x ∷ xs) j f l = absurd (omega (arith, l))
all_at zero (v ∷ vs) (x ∷ xs) zero f l = refl
all_at zero (v ∷ vs) (x ∷ xs) (suc j) f l =
    let e : 0 + suc j ≡ suc (0 + j) = omega arith in
    rw e (all_at zero vs xs j (omega (arith, f)) (omega (arith, l)))
all_at (suc i) vs (x ∷ xs) j f l =
    let e : suc i + j ≡ suc (i + j) = omega arith in
    rw e (all_at i vs xs j (omega (arith, f)) l)

pub one_set : {X : Type 0} (xs : List X) (i : ℕ) (x d : X) (s : ℕ)
    → (slice_index_or (slice_set xs i x) s d ≡ slice_index_or xs s d)
    ⊎ ((i ≡ s) × (slice_index_or (slice_set xs i x) s d ≡ x))
one_set [] i x d s = inl refl
one_set (y ∷ xs) zero x d zero = inr (refl, refl)
one_set (y ∷ xs) zero x d (suc s) = inl refl
one_set (y ∷ xs) (suc i) x d zero = inl refl
one_set (y ∷ xs) (suc i) x d (suc s) =
    elim (one_set xs i x d s) [ inl o ↦ inl o | inr n ↦ inr (ap suc n.0, n.1) ]

pub at_snoc : (xs : List Sector) (y : Sector) (j : ℕ) → j < length xs + 1
    → ((j < length xs) × (slice_index_or (xs ++ y ∷ []) j [] ≡ slice_index_or xs j []))
    ⊎ ((j ≡ length xs) × (slice_index_or (xs ++ y ∷ []) j [] ≡ y))
at_snoc [] y zero l = inr (refl, refl)
at_snoc [] y (suc j) l = absurd (omega (arith, l))
at_snoc (x ∷ xs) y zero l = inl (omega arith, refl)
at_snoc (x ∷ xs) y (suc j) l =
    elim (at_snoc xs y j (omega (arith, l))) [
      | inl o ↦ (let a = o.0 in inl (omega (arith, a), o.1))
      | inr n ↦ (let a = n.0 in inr (omega (arith, a), n.1))
    ]

pub snoc_length : (xs : List Sector) (y : Sector) → length (xs ++ y ∷ []) ≡ length xs + 1
snoc_length [] y = refl
snoc_length (x ∷ xs) y = let h = snoc_length xs y in omega (arith, h)

-- cards

pub landed_size : (c : Card) (lands : ℕ → Bool) (p : Part)
    → length (slice_index_or (landed lands c) (part_number p) []) ≡ length (stored c p)
landed_size c lands p =
    let new = landed_in lands c.start c.values (stored c c.part) in
    elim (one_set c.sectors (part_number c.part) new [] (part_number p)) [
      | inl o ↦ ap length o
      | inr n ↦ (let l = landed_length lands c.start c.values (stored c c.part) in
          ap length n.1 ∙ l ∙ ap (λ i. length (slice_index_or c.sectors i [])) n.0)
    ]

-- once a transfer is over, each sector has what it might have had
pub landed_within : (c d : Card) (lands : ℕ → Bool) → d.sectors ≡ landed lands c → d.values ≡ []
    → Within (holds d) (holds c)
landed_within c d lands st none p s v h =
    let new = landed_in lands c.start c.values (stored c c.part) in
    let was = in_cond (touches (unfinished c) p s) (value_of (unfinished c) s) (known c p s) in
    elim (in_cond (touches (unfinished d) p s) (value_of (unfinished d) s) (known d p s) v h) [
      | inl t ↦ absurd (untouched (unfinished d) p s none t.0)
      | inr k ↦
          (let q = in_at (stored d p) s v k in
          let e : stored d p ≡ slice_index_or (landed lands c) (part_number p) [] =
          ap (λ ss. slice_index_or ss (part_number p) []) st in
          let size : length (stored d p) ≡ length (stored c p) = ap length e ∙ landed_size c lands p in
          let l = q.0 in
          let below : s < length (stored c p) = omega (arith, l, size) in
          let is : v ≡ slice_index_or (slice_index_or (landed lands c) (part_number p) []) s [] =
          q.1 ∙ ap (λ xs. slice_index_or xs s []) e in
          elim (one_set c.sectors (part_number c.part) new [] (part_number p)) [
            | inl o ↦ cond_in_old (touches (unfinished c) p s) (value_of (unfinished c) s) (known c p s) v
                (at_in (stored c p) s v below (is ∙ ap (λ xs. slice_index_or xs s []) o))
            | inr n ↦
                (let at : slice_index_or new s [] ≡ v = sym (is ∙ ap (λ xs. slice_index_or xs s []) n.1) in
                let part : stored c c.part ≡ stored c p = ap (λ i. slice_index_or c.sectors i []) n.0 in
                elim (landed_at lands c.start c.values (stored c c.part) s v at) [
                  | inl old ↦ cond_in_old (touches (unfinished c) p s) (value_of (unfinished c) s) (known c p s) v
                      (at_in (stored c p) s v below (sym old ∙ ap (λ xs. slice_index_or xs s []) part))
                  | inr lands ↦
                      (let a = lands.at in
                      let b = lands.below in
                      let off : s - c.start ≡ lands.j = omega (arith, a) in
                      cond_in_new (touches (unfinished c) p s) (value_of (unfinished c) s) (known c p s) v
                      (touched_by (part_number c.part) (part_number p) c.start s (length c.values) n.0
                      (omega (arith, a)) (omega (arith, a, b)))
                      (sym (ap (λ i. slice_index_or c.values i []) off ∙ lands.is)))
                ])
          ])
    ]
