-- Texts with more parts than a rule has.
use Rattle.std.proofs.Common.{[], refl, ◌∷◌, ◌≡◌, List, None, false, ℕ}
use Rattle.card_text.specs.Parts.{parts}
use Rattle.card_text.proofs.PartLemmas.{split_some}
use Rattle.card_rules.specs.RuleTexts.{chance_of, is_alone, range_of}

where_some : (Says : List (List ℕ) → Type 0) → ((word : List ℕ) (words : List (List ℕ)) → Says (word ∷ words))
    → (words : List (List ℕ)) → (words ≡ [] → ⊥) → Says words
where_some Says each [] some = absurd (some refl)
where_some Says each (word ∷ words) some = each word words

-- a text has a part, so what holds where there is one holds of its parts
of_parts : (Says : List (List ℕ) → Type 0) → ((word : List ℕ) (words : List (List ℕ)) → Says (word ∷ words))
    → (at : ℕ) (text : List ℕ) → Says (parts at text)
unfolding parts
of_parts Says each at text = where_some Says each _ (split_some _ text)

pub not_alone : (wanted a text : List ℕ) → false ≡ is_alone wanted (a ∷ parts 32 text)
not_alone wanted a text = of_parts (λ words. false ≡ is_alone wanted (a ∷ words)) (λ word words. refl) 32 text

pub many_sectors : (a b text : List ℕ) → None ≡ range_of (a ∷ b ∷ parts 45 text)
unfolding range_of
many_sectors a b text = of_parts (λ words. None ≡ range_of (a ∷ b ∷ words)) (λ word words. refl) 45 text

pub many_chances : (a b text : List ℕ) → None ≡ chance_of (a ∷ b ∷ parts 47 text)
unfolding chance_of
many_chances a b text = of_parts (λ words. None ≡ chance_of (a ∷ b ∷ words)) (λ word words. refl) 47 text
