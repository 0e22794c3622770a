-- Places that are filled several at a time.
use Rattle.std.proofs.Common.{[], ◌*◌, ◌+◌, ◌<◌, ◌≡◌, ◌≤◌, List, arith, length, suc, ℕ}
use Rattle.std.specs.Prelude.{slice_index_or, slice_range}
use Rattle.mmc_bus.proofs.TogetherLemmas.{WritesOne}
use Rattle.mmc_bus.specs.LeftLaws.{left_all, piece_long}
use Rattle.mmc_bus.specs.Lending.{left_from}
use Rattle.mmc_sdhci.proofs.ByDma.{all_long, all_those, placed_one, still_many}
use Rattle.mmc_sdhci.specs.Lending.{placed}

-- so many places are filled
pub record AreFilled {S : Type 0} (blocks : S → List (List ℕ)) (leave : S → ℕ → List ℕ → S) (was : S) (count : ℕ) (now : S)
    : Type 0 where
  pub placed : now ≡ placed leave (blocks now) was count
  pub sized : (j : ℕ) → j < count → length (slice_index_or (blocks now) j []) ≡ 512
  pub many : length (blocks now) ≡ length (blocks was)

-- and hold what came
abbrev pub AreFrom : List (List ℕ) → ℕ → List (List ℕ) → Type 0
AreFrom come count places = (j : ℕ) → j < count → slice_index_or places j [] ≡ slice_index_or come j []

module _ {S : Type 0} (blocks : S → List (List ℕ)) (leave : S → ℕ → List ℕ → S) (one : WritesOne blocks leave) (was : S) where
  abbrev Filled : ℕ → S → Type 0
  Filled count now = AreFilled blocks leave was count now

  one_filled : (i : ℕ) (now : S) (left : List ℕ) → i < length (blocks was) → length left ≡ 512 → Filled i now
      → Filled (suc i) (leave now i left)
  one_filled i now left below long so_far =
      let many = so_far.many in
      let inside : i < length (blocks now) = omega (arith, many, below) in
      record {
        placed = placed_one blocks leave one was now i left inside long so_far.placed;
        sized = λ j less. all_long blocks leave one was now i left inside long so_far.sized j (omega (arith, less));
        many = still_many blocks leave one was now i left inside long so_far.many;
      }

  module _ (first some : ℕ) (bytes : List ℕ) (now : S) (long : length bytes ≡ 512 * some) (inside : first + some ≤ length (blocks was)) where
    pub more_filled : Filled first now → Filled (first + some) (left_from leave now first bytes some)
    more_filled start =
        left_all leave Filled first bytes now some
        (λ k s less so_far. one_filled (first + k) s (slice_range bytes (512 * k) (512 * k + 512)) (omega (arith, less, inside))
        (piece_long bytes k some long less) so_far)
        start

    pub more_from : (come : List (List ℕ))
        → ((k : ℕ) → k < some → slice_range bytes (512 * k) (512 * k + 512) ≡ slice_index_or come (first + k) [])
        → Filled first now → AreFrom come first (blocks now)
        → AreFrom come (first + some) (blocks (left_from leave now first bytes some))
    more_from come those filled start =
        (left_all leave (λ n s. Filled n s × AreFrom come n (blocks s)) first bytes now some
        (λ k s less so_far.
        let piece = slice_range bytes (512 * k) (512 * k + 512) in
        let piece_is = piece_long bytes k some long less in
        let many = so_far.0.many in
        let below : first + k < length (blocks s) = omega (arith, many, less, inside) in (
          one_filled (first + k) s piece (omega (arith, less, inside)) piece_is so_far.0,
          λ j before. all_those blocks leave one was s (first + k) piece below piece_is come (those k less) so_far.1 j (omega (arith, before)),
        ))
        (filled, start)).1
