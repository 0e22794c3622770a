-- What is left of a block.
use Rattle.std.proofs.Common.{◌≡◌, ◌≤◌, ◌∷◌, [], Bool, List, arith, drop, false, leb, length, length-drop, refl, true, ℕ}
use Rattle.std.proofs.lemmas.Bool.{leb-false, leb-true}
use Rattle.mmc_sdhci.specs.DataLooks.{is_empty}

pub none_left : (l : List ℕ) → length l ≡ 0 → true ≡ is_empty l
none_left [] is = refl
none_left (x ∷ xs) is = absurd (omega (arith, is))

some_left : (l : List ℕ) → (length l ≡ 0 → ⊥) → false ≡ is_empty l
some_left [] not = absurd (not refl)
some_left (x ∷ xs) not = refl

left_by : (n : ℕ) (xs : List ℕ) (b : Bool) → leb (length xs) n ≡ b → b ≡ is_empty (drop n xs)
left_by n xs true is =
    let few : length xs ≤ n = leb-true (length xs) n is in
    let long = length-drop n xs in none_left (drop n xs) (omega (arith, few, long))
left_by n xs false is =
    let many = leb-false (length xs) n is in
    let long = length-drop n xs in some_left (drop n xs) (λ z. absurd (omega (arith, many, long, z)))

pub left : (n : ℕ) (xs : List ℕ) → leb (length xs) n ≡ is_empty (drop n xs)
left n xs = left_by n xs (leb (length xs) n) refl
