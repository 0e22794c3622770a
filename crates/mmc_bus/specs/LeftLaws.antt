-- Bytes that are left in several blocks at once are left in each, one after the other.
use Rattle.std.specs.Prelude.{◌*◌, ◌+◌, ◌-◌, ◌<◌, ◌≡◌, List, drop, length, slice_range, suc, take, zero, ℕ}
use Rattle.std.proofs.Common.{◌∙◌, ap, arith, subst, sym}
use Rattle.std.proofs.lemmas.List.{length-drop, length-take-le}
use Rattle.mmc_bus.specs.Lending.{left_from}

-- what each block keeps is kept by all of them
pub left_all : {S : Type 0} (leave : S → ℕ → List ℕ → S) (Holds : ℕ → S → Type 0) (first : ℕ) (bytes : List ℕ) (was : S) (count : ℕ)
    → ((k : ℕ) (now : S) → k < count → Holds (first + k) now
    → Holds (suc (first + k)) (leave now (first + k) (slice_range bytes (512 * k) (512 * k + 512))))
    → Holds first was → Holds (first + count) (left_from leave was first bytes count)
left_all leave Holds first bytes was zero step start =
    let none : first ≡ first + 0 = omega arith in
    subst (λ n. Holds n was) none start
left_all leave Holds first bytes was (suc count) step start =
    let next : suc (first + count) ≡ first + suc count = omega arith in
    let before = left_all leave Holds first bytes was count (λ k now less. step k now (omega (arith, less))) start in
    subst (λ n. Holds n (left_from leave was first bytes (suc count))) next
    (step count (left_from leave was first bytes count) (omega arith) before)

-- each of them has 512 bytes
pub piece_long : (bytes : List ℕ) (k count : ℕ) → length bytes ≡ 512 * count → k < count
    → length (slice_range bytes (512 * k) (512 * k + 512)) ≡ 512
piece_long bytes k count long less =
    let size : 512 * k + 512 - 512 * k ≡ 512 = omega arith in
    let rest = length-drop (512 * k) bytes in
    ap (λ n. length (take n (drop (512 * k) bytes))) size
    ∙ length-take-le 512 (drop (512 * k) bytes) (omega (arith, rest, long, less))
