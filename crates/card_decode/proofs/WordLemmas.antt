-- Names at a place of a list, and those after it.
use Rattle.std.proofs.Common.{◌≡◌, ◌<◌, ◌≤◌, ◌+◌, ◌-◌, ◌%◌, ◌^◌, ℕ, List, [], ◌∷◌, ◌++◌, length, drop, get_or, sym, ap, ◌∙◌, drop-cons, add-one}
use Rattle.std.proofs.Common.{append-nil, append_assoc, take, zero, suc, true, false, cond, refl, arith, ◌≢◌}
use Rattle.std.proofs.lemmas.Bool.{eq-eqb, ne_eqb}
use Rattle.std.proofs.Math.Nat.{div-eq_of_lt, pow-le-pow_right}
use Rattle.std.specs.Prelude.{map}
use Rattle.std.specs.Int.{bytes_high_first, to_be_bytes, w64}
use Rattle.byteorder.proofs.Bytes.{between-bytes_high_first}
use Rattle.std.proofs.lemmas.List.{drop-map, take-map}
use Rattle.std.specs.Prelude.{◌==◌, codes}
use Rattle.card_decode.specs.declared.field.Name.{Name}
use Rattle.card_decode.specs.Words.{has_bit, name_in, printable, set_text}

abbrev pub no_name : Name
no_name = record { value = 0; text = record { ref_ptr = (0, 0); now = [] } }

name_at : (names : List Name) (i : ℕ) (d : Name) (value : ℕ) → i < length names
    → name_in (drop i names) value
    ≡ cond ((get_or names i d).value == value) (get_or names i d).text.now (name_in (drop (i + 1) names) value)
unfolding name_in
name_at names i d value lt =
    ap (λ ns. name_in ns value) (drop-cons names i d lt)
    ∙ ap (λ n. cond ((get_or names i d).value == value) (get_or names i d).text.now (name_in (drop n names) value))
    (sym (add-one i))

set_at : (separator : List ℕ) (names : List Name) (i : ℕ) (d : Name) (value : ℕ) → i < length names
    → set_text separator (drop i names) value
    ≡ cond (has_bit (get_or names i d).value value)
    (separator ++ ((get_or names i d).text.now ++ set_text (codes ", ") (drop (i + 1) names) value))
    (set_text separator (drop (i + 1) names) value)
unfolding set_text
set_at separator names i d value lt =
    ap (λ ns. set_text separator ns value) (drop-cons names i d lt)
    ∙ ap (λ n. cond (has_bit (get_or names i d).value value)
    (separator ++ ((get_or names i d).text.now ++ set_text (codes ", ") (drop n names) value))
    (set_text separator (drop n names) value)) (sym (add-one i))

pub name_here : (names : List Name) (i value : ℕ) → i < length names → (get_or names i no_name).value ≡ value
    → name_in (drop i names) value ≡ (get_or names i no_name).text.now
name_here names i value lt same =
    name_at names i no_name value lt
    ∙ ap (λ t. cond t (get_or names i no_name).text.now (name_in (drop (i + 1) names) value)) (eq-eqb _ _ same)

pub name_next : (names : List Name) (i value : ℕ) → i < length names → (get_or names i no_name).value ≢ value
    → name_in (drop i names) value ≡ name_in (drop (i + 1) names) value
name_next names i value lt other =
    name_at names i no_name value lt
    ∙ ap (λ t. cond t (get_or names i no_name).text.now (name_in (drop (i + 1) names) value)) (ne_eqb _ _ other)

pub name_end : (names : List Name) (i value : ℕ) → length names ≤ i → name_in (drop i names) value ≡ codes "reserved"
unfolding name_in
name_end [] zero value h = refl
name_end [] (suc i) value h = refl
name_end (n ∷ ns) zero value h = absurd (omega arith)
name_end (n ∷ ns) (suc i) value h = name_end ns i value (omega arith)

pub set_here : (separator : List ℕ) (names : List Name) (i value : ℕ) → i < length names
    → has_bit (get_or names i no_name).value value ≡ true → set_text separator (drop i names) value
    ≡ separator ++ ((get_or names i no_name).text.now ++ set_text (codes ", ") (drop (i + 1) names) value)
set_here separator names i value lt bit =
    set_at separator names i no_name value lt
    ∙ ap (λ t. cond t
    (separator ++ ((get_or names i no_name).text.now ++ set_text (codes ", ") (drop (i + 1) names) value))
    (set_text separator (drop (i + 1) names) value)) bit

pub set_next : (separator : List ℕ) (names : List Name) (i value : ℕ) → i < length names
    → has_bit (get_or names i no_name).value value ≡ false
    → set_text separator (drop i names) value ≡ set_text separator (drop (i + 1) names) value
set_next separator names i value lt bit =
    set_at separator names i no_name value lt
    ∙ ap (λ t. cond t
    (separator ++ ((get_or names i no_name).text.now ++ set_text (codes ", ") (drop (i + 1) names) value))
    (set_text separator (drop (i + 1) names) value)) bit

pub set_end : (separator : List ℕ) (names : List Name) (i value : ℕ) → length names ≤ i
    → set_text separator (drop i names) value ≡ codes "\n"
unfolding set_text
set_end separator [] zero value h = refl
set_end separator [] (suc i) value h = refl
set_end separator (n ∷ ns) zero value h = absurd (omega arith)
set_end separator (n ∷ ns) (suc i) value h = set_end separator ns i value (omega arith)

-- a value below 2^64 has no bit from 64 on
pub no_bit : (value place : ℕ) → value < 2 ^ 64 → 64 ≤ place → has_bit place value ≡ false
no_bit value place fits h =
    let top : 2 ^ 64 ≤ 2 ^ place = pow-le-pow_right {n = 2} (omega arith) {i = 64} {j = place} h in
    let less : value < 2 ^ place = omega arith in
    ap (λ q. q % 2 == 1) (div-eq_of_lt less)

pub characters_are : (count value : ℕ) → count ≤ 8
    → take (8 - (8 - count)) (drop (8 - count) (map printable (to_be_bytes w64 value)))
    ≡ map printable (bytes_high_first count value)
characters_are count value h =
    ap (take (8 - (8 - count))) (drop-map printable (8 - count) (bytes_high_first 8 value))
    ∙ take-map printable (8 - (8 - count)) (drop (8 - count) (bytes_high_first 8 value))
    ∙ ap (map printable) (between-bytes_high_first 8 count value h)

-- two pieces, and what follows them
pub two_pieces : (a b rest : List ℕ) → (a ++ (b ++ [])) ++ rest ≡ a ++ (b ++ rest)
two_pieces a b rest = ap (λ x. (a ++ x) ++ rest) (append-nil b) ∙ append_assoc a b rest
