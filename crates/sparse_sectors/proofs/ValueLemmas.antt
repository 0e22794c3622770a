-- Values in the place of sectors, one after the other.
use Rattle.std.proofs.Common.{◌+◌, ◌++◌, ◌-◌, ◌<◌, ◌∙◌, ◌∷◌, ◌≡◌, List, [], ap, arith, append_assoc, drop, length}
use Rattle.std.proofs.Common.{refl, suc, sym, take, zero, ℕ}
use Rattle.std.proofs.lemmas.List.{length-append, length-take-le, replicate-append-replicate, set-append_right}
use Rattle.std.specs.Prelude.{replicate, slice_set}
use Rattle.sparse_sectors.specs.SectorLists.{with_values}

set_first : (xs : List (List ℕ)) (k : ℕ) (value : List ℕ) → k < length xs
    → slice_set (drop k xs) 0 value ≡ value ∷ drop (suc k) xs
set_first [] k value less = absurd (omega (arith, less))
set_first (x ∷ xs) zero value less = refl
set_first (x ∷ xs) (suc k) value less = set_first xs k value (omega (arith, less))

-- one more
pub values_more : (xs ys : List (List ℕ)) (first i : ℕ) (value : List ℕ) → i ≡ length ys → first + i < length xs
    → slice_set (with_values xs first ys) (first + i) value ≡ with_values xs first (ys ++ value ∷ [])
values_more xs ys first i value count less =
    let front : List (List ℕ) = take first xs in
    let long : length front ≡ first = length-take-le first xs (omega (arith, less)) in
    let one : first + i - first ≡ i = omega arith in
    let none : i - i ≡ 0 = omega arith in
    let at : first + length ys ≡ first + i = omega (arith, count) in
    let next : suc (first + i) ≡ first + length (ys ++ value ∷ []) =
    omega (arith, count, length-append ys (value ∷ [])) in
    ap (λ n. slice_set (front ++ (ys ++ drop n xs)) (first + i) value) at
    ∙ set-append_right front (ys ++ drop (first + i) xs) first (first + i) value long (omega arith)
    ∙ ap (λ n. front ++ slice_set (ys ++ drop (first + i) xs) n value) one
    ∙ ap (λ zs. front ++ zs) (set-append_right ys (drop (first + i) xs) i i value (sym count) (omega arith)
    ∙ ap (λ n. ys ++ slice_set (drop (first + i) xs) n value) none
    ∙ ap (λ zs. ys ++ zs) (set_first xs (first + i) value less ∙ ap (λ n. value ∷ drop n xs) next)
    ∙ sym (append_assoc ys (value ∷ []) (drop (first + length (ys ++ value ∷ [])) xs)))

pub replicate_more : (n : ℕ) (value : List ℕ) → replicate n value ++ value ∷ [] ≡ replicate (n + 1) value
replicate_more n value = replicate-append-replicate n 1 value
