-- What lines say, where one more stands below others.
use Rattle.std.proofs.Common.{◌≡◌, ◌≢◌, ℕ, ◌<◌, suc, List, [], ◌∷◌, ◌++◌, Option, None, Some, map, length, get_or, zero, refl, ap, ◌∙◌}
use Rattle.std.proofs.Common.{append-nil, arith}
use Rattle.std.specs.Prelude.{option_map}
use Rattle.std.proofs.lemmas.List.{map-append}
use Rattle.card_text.specs.declared.text_line.Line.{Line}
use Rattle.card_text.specs.declared.text_line.Line.TheVariants.{Bad, Says, Skipped}
use Rattle.card_text.specs.TextLines.{said_in}

-- one list after the other, where there are both
abbrev pub joined : {A : Type 0} → Option (List A) → Option (List A) → Option (List A)
joined None others = None
joined (Some first) others = option_map (λ rest. first ++ rest) others

joined_nil : {A : Type 0} (others : Option (List A)) → others ≡ joined (Some []) others
joined_nil None = refl
joined_nil (Some others) = refl

joined_cons : {A : Type 0} (x : A) (first others : Option (List A))
    → option_map (λ all. x ∷ all) (joined first others) ≡ joined (option_map (λ all. x ∷ all) first) others
joined_cons x None others = refl
joined_cons x (Some first) None = refl
joined_cons x (Some first) (Some others) = refl

said_in-append : {A : Type 0} (above below : List (Line A)) → said_in (above ++ below) ≡ joined (said_in above) (said_in below)
unfolding said_in
said_in-append [] below = joined_nil (said_in below)
said_in-append (Bad ∷ above) below = refl
said_in-append (Skipped ∷ above) below = said_in-append above below
said_in-append (Says said ∷ above) below =
    ap (option_map (λ all. said ∷ all)) (said_in-append above below) ∙ joined_cons said (said_in above) (said_in below)

module _ {A : Type 0} (line_of : List ℕ → Line A) where
  one_more : (done : List (List ℕ)) (line : List ℕ) (said : List A) (l : Line A) → said_in (map line_of done) ≡ Some said
      → line_of line ≡ l → said_in (map line_of (done ++ line ∷ [])) ≡ joined (Some said) (said_in (l ∷ []))
  one_more done line said l before is =
      ap said_in (map-append line_of done (line ∷ [])) ∙ said_in-append (map line_of done) (line_of line ∷ [])
      ∙ ap (λ o. joined o (said_in (line_of line ∷ []))) before ∙ ap (λ k. joined (Some said) (said_in (k ∷ []))) is

  -- a line more that is skipped, that says something, or that is bad
  pub said_skipped : (done : List (List ℕ)) (line : List ℕ) (said : List A) → said_in (map line_of done) ≡ Some said
      → line_of line ≡ Skipped → said_in (map line_of (done ++ line ∷ [])) ≡ Some said
  unfolding said_in
  said_skipped done line said before is =
      one_more done line said Skipped before is ∙ ap (λ all. Some all) (append-nil said)

  pub said_more : (done : List (List ℕ)) (line : List ℕ) (said : List A) (x : A) → said_in (map line_of done) ≡ Some said
      → line_of line ≡ Says x → said_in (map line_of (done ++ line ∷ [])) ≡ Some (said ++ x ∷ [])
  unfolding said_in
  said_more done line said x before is = one_more done line said (Says x) before is

  pub said_bad : (done : List (List ℕ)) (line : List ℕ) (said : List A) → said_in (map line_of done) ≡ Some said
      → line_of line ≡ Bad → said_in (map line_of (done ++ line ∷ [])) ≡ None
  unfolding said_in
  said_bad done line said before is = one_more done line said Bad before is

  -- each line is good where all of them say something
  good_first : (l : Line A) (others : List (Line A)) (said : List A) → said_in (l ∷ others) ≡ Some said → l ≢ Bad
  unfolding said_in
  good_first Bad others said all is = cc
  good_first Skipped others said all is = cc
  good_first (Says x) others said all is = cc

  front_said : (x : A) (o : Option (List A)) (said : List A) → option_map (λ all. x ∷ all) o ≡ Some said
      → (rest : List A) × (o ≡ Some rest)
  front_said x None said all = absurd (cc all)
  front_said x (Some rest) said all = (rest, refl)

  rest_said : (l : Line A) (others : List (Line A)) (said : List A) → said_in (l ∷ others) ≡ Some said
      → (rest : List A) × (said_in others ≡ Some rest)
  unfolding said_in
  rest_said Bad others said all = absurd (cc all)
  rest_said Skipped others said all = (said, all)
  rest_said (Says x) others said all = front_said x (said_in others) said all

  pub good_lines : (done more : List (List ℕ)) (said : List A) (k : ℕ) → said_in (map line_of done) ≡ Some said
      → k < length done → line_of (get_or (done ++ more) k []) ≢ Bad
  good_lines [] more said k all lt = absurd (omega arith)
  good_lines (d ∷ ds) more said zero all lt = good_first (line_of d) (map line_of ds) said all
  good_lines (d ∷ ds) more said (suc k) all lt =
      let rest = rest_said (line_of d) (map line_of ds) said all in good_lines ds more rest.0 k rest.1 (omega arith)
