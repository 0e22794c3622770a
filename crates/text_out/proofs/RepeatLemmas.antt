-- The longest repeats of bytes, taken from the front.
use Rattle.std.proofs.Common.{Result, Ok, Err, ◌≡◌, ℕ, ◌+◌, ◌<◌, List, [], ◌∷◌, ◌++◌, length, drop, get_or, Bool, true}
use Rattle.std.proofs.Common.{false, cond, suc, sym, refl, ap, ◌∙◌, subst, arith, append-nil, inl, inr, add-one}
use Rattle.std.specs.Prelude.{OnErr, map, replicate, ◌==◌, ◌⊎◌}
use Rattle.std.specs.List.{prefix_len, join_with_byte}
use Rattle.std.proofs.lemmas.Bool.{eq-eqb, ne_eqb, cases_eq}
use Rattle.text_out.specs.Repeats.{Repeat, repeats, with_byte, repeat_text, repeats_text, spread, NeighboursDiffer}

-- how many bytes at the front are b
abbrev pub len : ℕ → List ℕ → ℕ
len b bs = prefix_len (λ x. x == b) bs

len_same : (b : ℕ) (bs : List ℕ) → len b (b ∷ bs) ≡ suc (len b bs)
len_same b bs = rw (eq-eqb b b refl) (omega arith)

len_other : (b c : ℕ) (cs : List ℕ) → (c ≡ b → ⊥) → len b (c ∷ cs) ≡ 0
len_other b c cs ne = rw (ne_eqb c b ne) refl

abbrev Front : ℕ → List ℕ → Type 0
Front b bs = repeats (b ∷ bs) ≡ (b, suc (len b bs)) ∷ repeats (drop (len b bs) bs)

front_same : (c : ℕ) (cs : List ℕ) → Front c cs → Front c (c ∷ cs)
unfolding repeats
front_same c cs h = ap (with_byte c) h ∙ rw (len_same c cs, eq-eqb c c refl)
    (ap (λ n. (c, n) ∷ repeats (drop (len c cs) cs)) (omega arith))

front_other : (b c : ℕ) (cs : List ℕ) → (b ≡ c → ⊥) → Front c cs → Front b (c ∷ cs)
unfolding repeats
front_other b c cs ne h = ap (with_byte b) h ∙ rw (len_other b c cs (λ e. ne (sym e)), ne_eqb b c ne)
    (ap (λ rs. (b, 1) ∷ rs) (sym h))

front_by : (b c : ℕ) (cs : List ℕ) → (b ≡ c) ⊎ (b ≡ c → ⊥) → Front c cs → Front b (c ∷ cs)
front_by b c cs (inl e) h = subst (λ x. Front x (c ∷ cs)) (sym e) (front_same c cs h)
front_by b c cs (inr ne) h = front_other b c cs ne h

front : (b : ℕ) (bs : List ℕ) → Front b bs
unfolding repeats
front b [] = refl
front b (c ∷ cs) = front_by b c cs (cases_eq b c) (front c cs)

-- the front of one byte is the first repeat, and what follows has the other repeats
pub repeats_front : (b : ℕ) (bs : List ℕ) (n : ℕ) → n ≡ len b (b ∷ bs)
    → repeats (b ∷ bs) ≡ (b, n) ∷ repeats (drop n (b ∷ bs))
repeats_front b bs n e = rw (e ∙ len_same b bs) (front b bs)

join_more : (text : List ℕ) (rs : List Repeat) → (rs ≡ [] → ⊥) → join_with_byte 44 (text ∷ map repeat_text rs)
    ≡ text ++ (44 ∷ join_with_byte 44 (map repeat_text rs))
join_more text [] some = absurd (some refl)
join_more text (r ∷ rs) some = refl

with_some_by : (t : Bool) (b : ℕ) (r : Repeat) (rs : List Repeat) → cond t ((b, r.1 + 1) ∷ rs) ((b, 1) ∷ r ∷ rs) ≡ []
    → ⊥
with_some_by true b r rs h = cc
with_some_by false b r rs h = cc

with_some : (b : ℕ) (rs : List Repeat) → with_byte b rs ≡ [] → ⊥
with_some b [] h = cc
with_some b (r ∷ rs) h = with_some_by (b == r.0) b r rs h

-- where there are bytes there are repeats
pub repeats_some : (bs : List ℕ) → (bs ≡ [] → ⊥) → repeats bs ≡ [] → ⊥
unfolding repeats
repeats_some [] some h = some refl
repeats_some (b ∷ bs) some h = with_some b (repeats bs) h

pub text_none : repeats_text [] ≡ []
unfolding repeats_text repeats
text_none = refl

-- the last repeat
pub text_last : (b : ℕ) (bs : List ℕ) (n : ℕ) → n ≡ len b (b ∷ bs) → drop n (b ∷ bs) ≡ [] → repeats_text (b ∷ bs)
    ≡ repeat_text (b, n)
unfolding repeats_text repeats
text_last b bs n e last = ap (λ rs. join_with_byte 44 (map repeat_text rs))
    (repeats_front b bs n e ∙ ap (λ l. (b, n) ∷ repeats l) last)

-- a repeat, a comma, and the others
pub text_more : (b : ℕ) (bs : List ℕ) (n : ℕ) → n ≡ len b (b ∷ bs) → (drop n (b ∷ bs) ≡ [] → ⊥) → repeats_text (b ∷ bs)
    ≡ repeat_text (b, n) ++ (44 ∷ repeats_text (drop n (b ∷ bs)))
unfolding repeats_text
text_more b bs n e more = ap (λ rs. join_with_byte 44 (map repeat_text rs)) (repeats_front b bs n e)
    ∙ join_more (repeat_text (b, n)) (repeats (drop n (b ∷ bs))) (repeats_some _ more)

-- the same of bytes that are not taken apart
pub first_last : (bytes : List ℕ) (b n : ℕ) → 0 < length bytes → b ≡ get_or bytes 0 0 → n ≡ len b bytes
    → drop n bytes ≡ [] → repeats_text bytes ≡ repeat_text (b, n)
first_last [] b n some e k last = absurd (omega arith)
first_last (c ∷ cs) b n some e k last = subst (λ x. n ≡ len x (c ∷ cs) → repeats_text (c ∷ cs) ≡ repeat_text (x, n))
    (sym e) (λ h. text_last c cs n h last) k

pub first_more : (bytes : List ℕ) (b n : ℕ) → 0 < length bytes → b ≡ get_or bytes 0 0 → n ≡ len b bytes
    → (drop n bytes ≡ [] → ⊥) → repeats_text bytes ≡ repeat_text (b, n) ++ (44 ∷ repeats_text (drop n bytes))
first_more [] b n some e k more = absurd (omega arith)
first_more (c ∷ cs) b n some e k more =
    subst (λ x. n ≡ len x (c ∷ cs) → repeats_text (c ∷ cs)
    ≡ repeat_text (x, n) ++ (44 ∷ repeats_text (drop n (c ∷ cs)))) (sym e) (λ h. text_more c cs n h more) k

pub first_some : (bytes : List ℕ) (b n : ℕ) → 0 < length bytes → b ≡ get_or bytes 0 0 → n ≡ len b bytes → 0 < n
first_some [] b n some e k = absurd (omega arith)
first_some (c ∷ cs) b n some e k = let h : n ≡ suc (len c cs) = subst (λ x. n ≡ len x (c ∷ cs)) e k ∙ len_same c cs in
    omega (arith, h)

-- ---- laws: the repeats stand for the bytes, and no repeat goes on in the next

spread_by : (b : ℕ) (r : Repeat) (rs : List Repeat) → (b ≡ r.0) ⊎ (b ≡ r.0 → ⊥) → spread (with_byte b (r ∷ rs))
    ≡ b ∷ spread (r ∷ rs)
unfolding spread
spread_by b r rs (inl e) = rw (eq-eqb b r.0 e, add-one r.1) (ap (λ x. b ∷ (replicate r.1 x ++ spread rs)) e)
spread_by b r rs (inr ne) = rw (ne_eqb b r.0 ne) refl

spread_with : (b : ℕ) (rs : List Repeat) → spread (with_byte b rs) ≡ b ∷ spread rs
unfolding spread
spread_with b [] = refl
spread_with b (r ∷ rs) = spread_by b r rs (cases_eq b r.0)

pub spread_repeats : (bs : List ℕ) → spread (repeats bs) ≡ bs
unfolding repeats spread
spread_repeats [] = refl
spread_repeats (b ∷ bs) = spread_with b (repeats bs) ∙ ap (λ l. b ∷ l) (spread_repeats bs)

pub text_empty : (bs : List ℕ) → length bs ≡ 0 → repeats_text bs ≡ []
text_empty [] h = text_none
text_empty (b ∷ bs) h = absurd (omega arith)

begins_by : (bytes : List ℕ) (b n : ℕ) → 0 < length bytes → b ≡ get_or bytes 0 0 → n ≡ len b bytes → (left : List ℕ)
    → drop n bytes ≡ left → (rest : List ℕ) × (repeats_text bytes ≡ repeat_text (b, n) ++ rest)
begins_by bytes b n some e k [] h = ([], first_last bytes b n some e k h ∙ sym (append-nil (repeat_text (b, n))))
begins_by bytes b n some e k (x ∷ xs) h = (
  44 ∷ repeats_text (drop n bytes),
  first_more bytes b n some e k
      (λ none. let bad : x ∷ xs ≡ [] = sym h ∙ none in cc),
)

-- the first repeat begins the text
pub first_begins : (bytes : List ℕ) (b n : ℕ) → 0 < length bytes → b ≡ get_or bytes 0 0 → n ≡ len b bytes
    → (rest : List ℕ) × (repeats_text bytes ≡ repeat_text (b, n) ++ rest)
first_begins bytes b n some e k = begins_by bytes b n some e k (drop n bytes) refl

pub on_err : {T E P : Type 0} (r : Result T E) → P → OnErr r P
on_err (Ok x) p = tt
on_err (Err e) p = p

pub nothing : (bs : List ℕ) → length bs ≡ 0 → bs ≡ []
nothing [] h = refl
nothing (b ∷ bs) h = absurd (omega arith)

-- ---- neighbours differ, and each repeat has a byte

apart_same : (b : ℕ) (r : Repeat) (rs : List Repeat) → b ≡ r.0 → NeighboursDiffer (r ∷ rs)
    → NeighboursDiffer ((b, r.1 + 1) ∷ rs)
unfolding NeighboursDiffer
apart_same b r [] e h = tt
apart_same b r (q ∷ rs) e h = (λ s. h.0 (sym e ∙ s), h.1)

apart_by : (b : ℕ) (r : Repeat) (rs : List Repeat) → (b ≡ r.0) ⊎ (b ≡ r.0 → ⊥) → NeighboursDiffer (r ∷ rs)
    → NeighboursDiffer (with_byte b (r ∷ rs))
unfolding NeighboursDiffer
apart_by b r rs (inl e) h = rw (eq-eqb b r.0 e) (apart_same b r rs e h)
apart_by b r rs (inr ne) h = rw (ne_eqb b r.0 ne) (ne, h)

apart_with : (b : ℕ) (rs : List Repeat) → NeighboursDiffer rs → NeighboursDiffer (with_byte b rs)
unfolding NeighboursDiffer
apart_with b [] h = tt
apart_with b (r ∷ rs) h = apart_by b r rs (cases_eq b r.0) h

pub repeats_apart : (bs : List ℕ) → NeighboursDiffer (repeats bs)
unfolding repeats NeighboursDiffer
repeats_apart [] = tt
repeats_apart (b ∷ bs) = apart_with b (repeats bs) (repeats_apart bs)
