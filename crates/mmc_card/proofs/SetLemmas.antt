-- What sectors hold at rest, and once a change was carried out.
use Rattle.std.proofs.Common.{◌+◌, ◌-◌, ◌<◌, ◌∙◌, ◌∷◌, ◌≡◌, ◌≤◌, Bool, List, [], ap, arith, cond, false, inl, inr}
use Rattle.std.proofs.Common.{length, refl, suc, sym, true, zero, ℕ}
use Rattle.std.specs.Prelude.{nat_lt, slice_index_or, slice_set}
use Rattle.mmc_frame.specs.declared.card_state.State.TheVariants.{Prg}
use Rattle.mmc_card.specs.declared.part.Part.{Part}
use Rattle.mmc_card.proofs.Landing.{all_at, landed_at, landed_length, one_set}
use Rattle.mmc_card.proofs.SectorLemmas.{by_touch, touched_by, untouched}
use Rattle.mmc_card.specs.Blocks.{programmed, rested}
use Rattle.mmc_card.specs.Card.{Card, FitsPart, at_sector, holds, is_in, known, landed, landed_in, stored, unfinished}
use Rattle.mmc_card.specs.Sectors.{Same, Sector, changed, part_number, touches, value_of}
use Rattle.std.proofs.lemmas.Bool.Decides.{nat_tests}

-- Conditions.

first_of : {X : Type 0} (b : Bool) (x y : X) → b ≡ true → cond b x y ≡ x
first_of true x y t = refl
first_of false x y t = cc

second_of : {X : Type 0} (b : Bool) (x y : X) → (b ≡ true → ⊥) → cond b x y ≡ y
second_of true x y f = absurd (f refl)
second_of false x y f = refl

either_of : {X : Type 0} (b : Bool) (a x y : X) → (b ≡ true → a ≡ x) → ((b ≡ true → ⊥) → a ≡ y) → a ≡ cond b x y
either_of true a x y t f = t refl
either_of false a x y t f = f (λ e. cc)

-- Lists.

sector_there : (xs : List Sector) (s : ℕ) → s < length xs → at_sector xs s ≡ slice_index_or xs s [] ∷ []
sector_there xs s l = first_of (nat_lt s (length xs)) (slice_index_or xs s [] ∷ []) [] (grind (arith, nat_tests))

-- the list that is put at a place is found there, also past the end, where both are empty
put_there : (xs : List (List Sector)) (i : ℕ) (f : List Sector → List Sector) → f [] ≡ []
    → slice_index_or (slice_set xs i (f (slice_index_or xs i []))) i [] ≡ f (slice_index_or xs i [])
put_there [] i f e = sym e
put_there (x ∷ xs) zero f e = refl
put_there (x ∷ xs) (suc i) f e = put_there xs i f e

-- what isn't among the new values stays
kept_at : (lands : ℕ → Bool) (i : ℕ) (vs xs : List Sector) (s : ℕ) → (i ≤ s → s < i + length vs → ⊥)
    → slice_index_or (landed_in lands i vs xs) s [] ≡ slice_index_or xs s []
kept_at lands i vs xs s out =
    elim (landed_at lands i vs xs s (slice_index_or (landed_in lands i vs xs) s []) refl) [
      | inl o ↦ sym o
      | inr l ↦ (let a = l.at in let b = l.below in absurd (out (omega (arith, a)) (omega (arith, a, b))))
    ]

kept_sector : (lands : ℕ → Bool) (i : ℕ) (vs xs : List Sector) (s : ℕ) → (i ≤ s → s < i + length vs → ⊥)
    → at_sector (landed_in lands i vs xs) s ≡ at_sector xs s
kept_sector lands i vs xs s out =
    ap (λ n. cond (nat_lt s n) (slice_index_or (landed_in lands i vs xs) s [] ∷ []) []) (landed_length lands i vs xs)
    ∙ ap (λ x. cond (nat_lt s (length xs)) (x ∷ []) []) (kept_at lands i vs xs s out)

new_sector : (i : ℕ) (vs xs : List Sector) (s : ℕ) → i + length vs ≤ length xs → i ≤ s → s < i + length vs
    → at_sector (landed_in (λ k. true) i vs xs) s ≡ slice_index_or vs (s - i) [] ∷ []
new_sector i vs xs s fits from below =
    let n = landed_length (λ k. true) i vs xs in
    let e : i + (s - i) ≡ s = omega arith in
    sector_there (landed_in (λ k. true) i vs xs) s (omega (arith, n))
    ∙ ap (λ x. x ∷ [])
    (ap (λ j. slice_index_or (landed_in (λ k. true) i vs xs) j []) (sym e)
    ∙ all_at i vs xs (s - i) fits (omega arith))

-- Cards.

pub at_rest : (c : Card) → c.values ≡ [] → Same (holds c) (known c)
at_rest c none p s =
    second_of (touches (unfinished c) p s) (value_of (unfinished c) s ∷ known c p s) (known c p s)
    (untouched (unfinished c) p s none)

landed_new : (c : Card) (p : Part) (s : ℕ) → FitsPart c → touches (unfinished c) p s ≡ true
    → at_sector (slice_index_or (landed (λ i. true) c) (part_number p) []) s ≡ value_of (unfinished c) s ∷ []
landed_new c p s fits t =
    let h = by_touch (part_number c.part) (part_number p) c.start s (length c.values) t in
    ap (λ i. at_sector (slice_index_or (landed (λ k. true) c) i []) s) (sym h.0)
    ∙ ap (λ xs. at_sector xs s)
    (put_there c.sectors (part_number c.part) (landed_in (λ k. true) c.start c.values) refl)
    ∙ (let from = h.1 in
    let below = h.2 in
    new_sector c.start c.values (stored c c.part) s (fits (omega (arith, from, below))) h.1 h.2)

landed_old : (c : Card) (p : Part) (s : ℕ) → (touches (unfinished c) p s ≡ true → ⊥)
    → at_sector (slice_index_or (landed (λ i. true) c) (part_number p) []) s ≡ known c p s
landed_old c p s out =
    elim
    (one_set c.sectors (part_number c.part) (landed_in (λ i. true) c.start c.values (stored c c.part)) []
    (part_number p)) [
      | inl o ↦ ap (λ xs. at_sector xs s) o
      | inr n ↦ ap (λ xs. at_sector xs s) n.1
          ∙ kept_sector (λ i. true) c.start c.values (stored c c.part) s
          (λ from below. out
          (touched_by (part_number c.part) (part_number p) c.start s (length c.values) n.0 from below))
          ∙ ap (λ i. at_sector (slice_index_or c.sectors i []) s) n.0
    ]

landed_changed : (c : Card) → FitsPart c → Same (known (programmed (λ i. true) c)) (changed (unfinished c) (known c))
landed_changed c fits p s =
    either_of (touches (unfinished c) p s) (known (programmed (λ i. true) c) p s) (value_of (unfinished c) s ∷ [])
    (known c p s) (landed_new c p s fits) (landed_old c p s)

pub carried_out : (c : Card) → c.state ≡ Prg → FitsPart c → Same (holds (rested c)) (changed (unfinished c) (known c))
carried_out c prg fits p s =
    let e : rested c ≡ programmed (λ i. true) c =
    first_of (is_in c.state Prg) (programmed (λ i. true) c) (record c { is_busy = false })
    (ap (λ t. is_in t Prg) prg) in
    ap (λ d. holds d p s) e ∙ at_rest (programmed (λ i. true) c) refl p s ∙ landed_changed c fits p s

pub nothing_changed : (c : Card) → c.state ≡ Prg → c.values ≡ [] → Same (holds (rested c)) (holds c)
nothing_changed c prg none p s =
    let fits : FitsPart c = λ some. (let empty = ap length none in absurd (omega (arith, some, empty))) in
    carried_out c prg fits p s
    ∙ second_of (touches (unfinished c) p s) (value_of (unfinished c) s ∷ []) (known c p s)
    (untouched (unfinished c) p s none)
    ∙ sym (at_rest c none p s)
