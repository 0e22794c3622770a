-- Escaped text has no markup, and a reader takes it for the text.
use Rattle.std.proofs.Common.{◌≡◌, ℕ, List, [], ◌∷◌, ◌++◌, inl, inr, refl, ap, ◌∙◌, true}
use Rattle.std.specs.Prelude.{IsTrue, None, ◌≢◌}
use Rattle.std.specs.List.{list_all}
use Rattle.std.proofs.lemmas.Bool.{cases_eq, ne_eqb}
use Rattle.std.proofs.lemmas.List.Folds.{list_all-append}
use Rattle.std.proofs.lemmas.List.Concat.{flat_map-cons}
use Rattle.card_picture.specs.Escapes.{escaped, escaped_byte, is_no_markup, read_in}

-- a byte that isn't escaped
other_byte : (b : ℕ) → b ≢ 60 → b ≢ 62 → b ≢ 38 → b ≢ 34 → escaped_byte b ≡ b ∷ []
other_byte b p q r s = rw (ne_eqb b 60 p, ne_eqb b 62 q, ne_eqb b 38 r, ne_eqb b 34 s)

no_markup_byte : (b : ℕ) → list_all is_no_markup (escaped_byte b) ≡ true
no_markup_byte b =
    elim (cases_eq b 60) [
      | inl same ↦ rw same
      | inr p ↦ elim (cases_eq b 62) [
        | inl same ↦ rw same
        | inr q ↦ elim (cases_eq b 38) [
          | inl same ↦ rw same
          | inr r ↦ elim (cases_eq b 34) [
            | inl same ↦ rw same
            | inr s ↦ ap (list_all is_no_markup) (other_byte b p q r s) ∙ rw (ne_eqb b 60 p, ne_eqb b 62 q, ne_eqb b 34 s)
          ]
        ]
      ]
    ]

no_markup_all : (text : List ℕ) → list_all is_no_markup (escaped text) ≡ true
no_markup_all [] = refl
no_markup_all (b ∷ bs) =
    ap (list_all is_no_markup) (flat_map-cons escaped_byte b bs)
    ∙ list_all-append is_no_markup (escaped_byte b) (escaped bs)
    ∙ rw (no_markup_byte b, no_markup_all bs)

pub no_markup : (text : List ℕ) → IsTrue (list_all is_no_markup (escaped text))
no_markup text = no_markup_all text

read_other : (b : ℕ) (rest : List ℕ) → b ≢ 38 → read_in None (b ∷ rest) ≡ b ∷ read_in None rest
unfolding read_in
read_other b rest r = rw (ne_eqb b 38 r)

read_byte : (b : ℕ) (rest : List ℕ) → read_in None (escaped_byte b ++ rest) ≡ b ∷ read_in None rest
unfolding read_in
read_byte b rest =
    elim (cases_eq b 60) [
      | inl same ↦ rw same
      | inr p ↦ elim (cases_eq b 62) [
        | inl same ↦ rw same
        | inr q ↦ elim (cases_eq b 38) [
          | inl same ↦ rw same
          | inr r ↦ elim (cases_eq b 34) [
            | inl same ↦ rw same
            | inr s ↦ ap (λ t. read_in None (t ++ rest)) (other_byte b p q r s) ∙ read_other b rest r
          ]
        ]
      ]
    ]

read_nothing : read_in None [] ≡ []
unfolding read_in
read_nothing = refl

pub read_back : (text : List ℕ) → read_in None (escaped text) ≡ text
read_back [] = read_nothing
read_back (b ∷ bs) =
    ap (read_in None) (flat_map-cons escaped_byte b bs) ∙ read_byte b (escaped bs) ∙ ap (λ t. b ∷ t) (read_back bs)
