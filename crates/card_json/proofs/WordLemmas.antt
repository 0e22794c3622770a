-- A word of a list by the words that are left from it on.
use Rattle.std.proofs.Common.{List, None, Some, [], ap, arith, drop, get_or, length, sym, ◌+◌, ◌<◌, ◌≤◌, ◌∙◌, ◌∷◌, ◌≡◌, ℕ}
use Rattle.std.proofs.lemmas.List.{get_or-drop, length-drop}
use Rattle.std.proofs.lemmas.Option.{slice_get-get_or, slice_get_past}
use Rattle.std.specs.List.{slice_get}

pub word_there : (words rest : List (List ℕ)) (n : ℕ) (word : List ℕ) → drop n words ≡ word ∷ rest → Some word ≡ slice_get words n
word_there words rest n word is =
    let count = sym (length-drop n words) ∙ ap length is in
    let inside : n < length words = omega (arith, count) in
    let place : n + 0 ≡ n = omega arith in
    sym (slice_get-get_or words n [] inside
    ∙ ap (λ i. Some (get_or words i [])) (sym place)
    ∙ ap Some (sym (get_or-drop n words 0 []) ∙ ap (λ l. get_or l 0 []) is))

pub word_missing : (words : List (List ℕ)) (n : ℕ) → drop n words ≡ [] → None ≡ slice_get words n
word_missing words n is =
    let count = sym (length-drop n words) ∙ ap length is in
    let outside : length words ≤ n = omega (arith, count) in
    sym (slice_get_past words n outside)
