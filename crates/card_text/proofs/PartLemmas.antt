-- A text is cut at its first byte `at`.
use Rattle.std.proofs.Common.{◌≡◌, ℕ, ◌+◌, ◌≤◌, List, [], ◌∷◌, length, take, drop, None, Option, Some, Bool, true, false, cond}
use Rattle.std.proofs.Common.{refl, ap, subst, arith, eqb, length-append, ◌++◌, ◌<◌}
use Rattle.std.specs.List.{slice_split, position, position_or_len}
use Rattle.std.proofs.lemmas.List.Splits.{slice_split_first, slice_split_none}
use Rattle.std.proofs.lemmas.List.Sums.{fails_before_first}
use Rattle.std.proofs.lemmas.List.Elements.{All-from_get_or}
use Rattle.std.proofs.lemmas.Option.{cond_some}
use Rattle.card_text.specs.Parts.{left_parts, parts}
use Rattle.std.specs.Borrow.{Bor}
use Rattle.card_text.specs.Data.{repeat_of_fields}
use Rattle.std.specs.List.{onto_first}
use Rattle.std.proofs.lemmas.Bool.{ltb-true, ltb-false}

cond_none : {A : Type 0} (b : Bool) (x : A) → cond b (Some x) None ≡ None → b ≡ false
cond_none true x h = cc
cond_none false x h = refl

pub cut_found : (p : ℕ → Bool) (text : List ℕ) (place : ℕ) → position p text ≡ Some place
    → slice_split p text ≡ take place text ∷ slice_split p (drop (place + 1) text)
cut_found p text place h =
    let f = cond_some _ _ _ h in
    subst (λ n. slice_split p text ≡ take n text ∷ slice_split p (drop (n + 1) text)) f.1
    (slice_split_first p text 0 (ltb-true _ _ f.0))

pub cut_none : (p : ℕ → Bool) (text : List ℕ) → position p text ≡ None → slice_split p text ≡ text ∷ []
cut_none p text h =
    let past : length text ≤ position_or_len p text = ltb-false _ _ (cond_none _ _ h) in
    slice_split_none p text
    (All-from_get_or (λ x. p x ≡ false) text 0 (λ i lt. fails_before_first p text i 0 (omega arith)))

onto_some : (b : ℕ) (ps : List (List ℕ)) → onto_first b ps ≡ [] → ⊥
onto_some b [] h = cc
onto_some b (p ∷ ps) h = cc

split_cons : (t : Bool) (b : ℕ) (ps : List (List ℕ)) → cond t ([] ∷ ps) (onto_first b ps) ≡ [] → ⊥
split_cons true b ps h = cc
split_cons false b ps h = onto_some b ps h

-- a text has a part
pub split_some : (p : ℕ → Bool) (text : List ℕ) → slice_split p text ≡ [] → ⊥
split_some p [] h = cc
split_some p (b ∷ bs) h = split_cons (p b) b (slice_split p bs) h

some_length : (ps : List (List ℕ)) → (ps ≡ [] → ⊥) → 0 < length ps
some_length [] some = absurd (some refl)
some_length (p ∷ ps) some = omega arith

-- a text that is left has one more part at least
pub one_more : (done all : List (List ℕ)) (text : List ℕ) → done ++ parts 32 text ≡ all → length done < length all
unfolding parts
one_more done all text whole =
    omega (arith, ap length whole, length-append done (parts 32 text), some_length (slice_split (λ b. eqb b 32) text) (split_some (λ b. eqb b 32) text))

three : (a b : List ℕ) (ps : List (List ℕ)) → (ps ≡ [] → ⊥) → None ≡ repeat_of_fields (a ∷ b ∷ ps)
three a b [] h = absurd (h refl)
three a b (p ∷ ps) h = refl

pub two_stars : (a b : List ℕ) (text : List ℕ) → None ≡ repeat_of_fields (a ∷ b ∷ parts 42 text)
unfolding parts
two_stars a b text = three a b _ (split_some _ text)

-- where no text is left there is no part
pub none_left : (at : ℕ) (rest : Option (Bor (List ℕ))) → ((text : Bor (List ℕ)) → rest ≡ Some text → ⊥) → left_parts at rest ≡ []
none_left at None none = refl
none_left at (Some text) none = absurd (none text refl)
