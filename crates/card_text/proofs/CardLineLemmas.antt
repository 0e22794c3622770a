-- Lines and texts of faults with further words.
use Rattle.std.proofs.Common.{◌≡◌, ℕ, List, [], ◌∷◌, None, refl}
use Rattle.card_text.specs.CardLines.{value_line_of}
use Rattle.card_text.specs.FaultTexts.{failure_of, fault_of, fault_with_words_of, flips_of, lone_word_of}
use Rattle.card_text.specs.Parts.{parts}
use Rattle.card_text.proofs.PartLemmas.{split_some}

where_some : (Says : List (List ℕ) → Type 0) → ((word : List ℕ) (words : List (List ℕ)) → Says (word ∷ words))
    → (words : List (List ℕ)) → (words ≡ [] → ⊥) → Says words
where_some Says each [] some = absurd (some refl)
where_some Says each (word ∷ words) some = each word words

-- a text has a word, so what holds where there is one holds of its words
of_words : (Says : List (List ℕ) → Type 0) → ((word : List ℕ) (words : List (List ℕ)) → Says (word ∷ words))
    → (text : List ℕ) → Says (parts 32 text)
unfolding parts
of_words Says each text = where_some Says each _ (split_some _ text)

-- more words than one
pub no_lone_word : (a text : List ℕ) → None ≡ lone_word_of (a ∷ parts 32 text)
unfolding lone_word_of
no_lone_word a text = of_words (λ words. None ≡ lone_word_of (a ∷ words)) (λ word words. refl) text

-- more words than an outcome with error bits
pub many_words : (a b text : List ℕ) → None ≡ failure_of (a ∷ b ∷ parts 32 text)
unfolding failure_of
many_words a b text = of_words (λ words. None ≡ failure_of (a ∷ b ∷ words)) (λ word words. refl) text

-- more positions than two
pub many_flips : (a b text : List ℕ) → None ≡ flips_of (a ∷ b ∷ parts 32 text)
unfolding flips_of
many_flips a b text = of_words (λ words. None ≡ flips_of (a ∷ b ∷ words)) (λ word words. refl) text

-- a text with further words is read by them
pub further_words : (name text : List ℕ) → fault_with_words_of name (parts 32 text) ≡ fault_of (name ∷ parts 32 text)
unfolding fault_of
further_words name text =
    of_words (λ words. fault_with_words_of name words ≡ fault_of (name ∷ words)) (λ word words. refl) text

-- more fields than a line but a fault's has
pub many_fields : (key value a text : List ℕ) → None ≡ value_line_of key value (a ∷ parts 32 text)
unfolding value_line_of
many_fields key value a text =
    of_words (λ words. None ≡ value_line_of key value (a ∷ words)) (λ word words. refl) text
