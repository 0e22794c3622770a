-- A run of bytes that is left in blocks is left in each of them, one after the other.
use Rattle.std.specs.Prelude.{◌++◌, ◌*◌, ◌+◌, ◌-◌, ◌≡◌, ◌≤◌, List, [], ◌∷◌, drop, length, slice_range, slice_set}
use Rattle.std.specs.Prelude.{get_or, suc, take, zero, ℕ}
use Rattle.std.specs.Simd.{first_chunks}
use Rattle.std.proofs.Common.{◌∙◌, add-zero, ap, arith, refl, sym}
use Rattle.std.proofs.lemmas.List.{append_assoc, drop-drop, drop_more, length-append, length-take-le, set_at}
use Rattle.std.proofs.lemmas.List.{take-append-drop}
use Rattle.mmc_bus.specs.Lending.{left_from}
use Rattle.c_host.specs.Run.{with_run}

pub length_chunks : (count : ℕ) (left : List ℕ) → length (first_chunks 512 count left) ≡ count
length_chunks zero left = refl
length_chunks (suc count) left = ap suc (length_chunks count (drop 512 left))

-- the last chunk
one_chunk_more : (count : ℕ) (left : List ℕ)
    → first_chunks 512 (suc count) left ≡ first_chunks 512 count left ++ take 512 (drop (512 * count) left) ∷ []
one_chunk_more zero left = refl
one_chunk_more (suc count) left =
    let sum : 512 + 512 * count ≡ 512 * suc count = omega arith in
    ap (λ xs. take 512 left ∷ xs) (one_chunk_more count (drop 512 left)
    ∙ ap (λ xs. first_chunks 512 count (drop 512 left) ++ take 512 xs ∷ [])
    (drop-drop (512 * count) 512 left ∙ ap (λ k. drop k left) sum))

-- a run of one block more changes that block
one_more : (blocks : List (List ℕ)) (first count : ℕ) (left : List ℕ) → first + suc count ≤ length blocks
    → slice_set (with_run blocks first count left) (first + count) (slice_range left (512 * count) (512 * count + 512))
    ≡ with_run blocks first (suc count) left
one_more blocks first count left inside =
    let head : List (List ℕ) = take first blocks in
    let run : List (List ℕ) = first_chunks 512 count left in
    let tail : List (List ℕ) = drop (first + suc count) blocks in
    let last : List ℕ = take 512 (drop (512 * count) left) in
    let at : ℕ = first + count in
    let next : at + 1 ≡ first + suc count = omega arith in
    let size : 512 * count + 512 - 512 * count ≡ 512 = omega arith in
    let rest : drop at blocks ≡ get_or blocks at [] ∷ tail =
    drop_more blocks at [] (omega (arith, inside)) ∙ ap (λ k. get_or blocks at [] ∷ drop k blocks) next in
    let long : length (head ++ run) ≡ at =
    length-append head run ∙ ap (λ k. k + length run) (length-take-le first blocks (omega (arith, inside)))
    ∙ ap (λ k. first + k) (length_chunks count left) in
    ap (λ k. slice_set (with_run blocks first count left) at (take k (drop (512 * count) left))) size
    ∙ ap (λ xs. slice_set (head ++ (run ++ xs)) at last) rest
    ∙ ap (λ xs. slice_set xs at last) (sym (append_assoc head run (get_or blocks at [] ∷ tail)))
    ∙ set_at (head ++ run) (get_or blocks at []) tail last at long
    ∙ append_assoc head run (last ∷ tail)
    ∙ ap (λ xs. head ++ xs) (sym (append_assoc run (last ∷ []) tail))
    ∙ ap (λ xs. head ++ (xs ++ tail)) (sym (one_chunk_more count left))

-- where leaving bytes in a block changes a list of blocks so, a run is its blocks
pub run_left : {S : Type 0} (leave : S → ℕ → List ℕ → S) (having : List (List ℕ) → S)
    → ((blocks : List (List ℕ)) (i : ℕ) (left : List ℕ)
    → leave (having blocks) i left ≡ having (slice_set blocks i left))
    → (blocks : List (List ℕ)) (first count : ℕ) (left : List ℕ) → first + count ≤ length blocks
    → having (with_run blocks first count left) ≡ left_from leave (having blocks) first left count
run_left leave having one blocks first zero left inside =
    ap (λ k. having (take first blocks ++ drop k blocks)) (add-zero first) ∙ ap having (take-append-drop first blocks)
run_left leave having one blocks first (suc count) left inside =
    let last : List ℕ = slice_range left (512 * count) (512 * count + 512) in
    ap having (sym (one_more blocks first count left inside))
    ∙ sym (one (with_run blocks first count left) (first + count) last)
    ∙ ap (λ s. leave s (first + count) last)
    (run_left leave having one blocks first count left (omega (arith, inside)))
