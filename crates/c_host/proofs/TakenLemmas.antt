-- Blocks that were taken from C, several at a time.
use Rattle.std.proofs.Common.{[], ◌*◌, ◌+◌, ◌<◌, ◌∙◌, ◌≡◌, ◌≤◌, ◌∷◌, List, ap, arith, inl, inr, length, refl, suc, sym, ℕ}
use Rattle.std.proofs.lemmas.List.{get_or-set_other, get_or-set_same, length-set}
use Rattle.std.specs.Prelude.{◌==◌, slice_index_or, slice_range, slice_set}
use Rattle.mmc_bus.proofs.TogetherLemmas.{WritesOne}
use Rattle.mmc_bus.specs.LeftLaws.{left_all, piece_long}
use Rattle.mmc_bus.specs.Lending.{left_from}
use Rattle.mmc_bus.specs.Together.{AreGood, good_one}
use Rattle.mmc_host.specs.Hosts.{unkept_host}
use Rattle.mmc_host.specs.Together.{HostRead}
use Rattle.mmc_sdhci.proofs.ByDma.{before_or_at}
use Rattle.c_host.specs.Talk.{Talk}
use Rattle.c_host.specs.Talk.Talk.{Came}
use Rattle.c_host.specs.Told.{AreTaken, none_taken, some_taken}

-- places that hold the same were taken so too
taken_still : (places others : List (List ℕ)) (old : List Talk) (count : ℕ) (new : List Talk)
    → ((j : ℕ) → j < count → slice_index_or others j [] ≡ slice_index_or places j [])
    → AreTaken places old count new → AreTaken others old count new
taken_still places others old count new same none_taken = none_taken
taken_still places others old count new same (some_taken done some came bytes before taken long hold) =
    some_taken done some came bytes before
    (taken_still places others old done before (λ j less. same j (omega (arith, less))) taken) long
    (λ i less. same (done + i) (omega (arith, less)) ∙ hold i less)

module _ {S : Type 0} (blocks : S → List (List ℕ)) (leave : S → ℕ → List ℕ → S) (one : WritesOne blocks leave) (was now : S)
    (first some count : ℕ) (bytes : List ℕ) (many : length (blocks now) ≡ count) (inside : first + some ≤ count)
    (long : length bytes ≡ 512 * some) where
  abbrev piece : ℕ → List ℕ
  piece k = slice_range bytes (512 * k) (512 * k + 512)

  abbrev after : S
  after = left_from leave now first bytes some

  still : (k : ℕ) (s : S) → k < some → length (blocks s) ≡ count
      → (blocks (leave s (first + k) (piece k)) ≡ slice_set (blocks s) (first + k) (piece k))
      × (length (blocks (leave s (first + k) (piece k))) ≡ count)
  still k s less all =
      let below : first + k < length (blocks s) = omega (arith, less, inside, all) in
      let wrote = one s (first + k) (piece k) below (piece_long bytes k some long less) in
      (wrote, ap (λ (xs : List (List ℕ)). length xs) wrote ∙ length-set (blocks s) (first + k) (piece k) ∙ all)

  -- each was a good block
  pub more_good : AreGood HostRead blocks leave unkept_host was first unkept_host now
      → AreGood HostRead blocks leave unkept_host was (first + some) unkept_host after × (length (blocks after) ≡ count)
  more_good start =
      left_all leave (λ n s. AreGood HostRead blocks leave unkept_host was n unkept_host s × (length (blocks s) ≡ count)) first bytes
      now some
      (λ k s less so_far.
      let all = so_far.1 in
      let below : first + k < length (blocks s) = omega (arith, less, inside, all) in (
        good_one (first + k) unkept_host s (piece k) unkept_host so_far.0 below (piece_long bytes k some long less)
            (λ kept. absurd (cc)),
        (still k s less all).1,
      ))
      (start, many)

  -- those before hold what they held, and these the bytes
  record IsLeft (n : ℕ) (s : S) : Type 0 where
    all : length (blocks s) ≡ count
    before : (j : ℕ) → j < first → slice_index_or (blocks s) j [] ≡ slice_index_or (blocks now) j []
    these : (i : ℕ) → first + i < n → slice_index_or (blocks s) (first + i) [] ≡ piece i

  one_more : (k : ℕ) (s : S) → k < some → IsLeft (first + k) s → IsLeft (suc (first + k)) (leave s (first + k) (piece k))
  one_more k s less so_far =
      let all = so_far.all in
      let next = leave s (first + k) (piece k) in
      let wrote = (still k s less all).0 in
      let below : first + k < length (blocks s) = omega (arith, less, inside, all) in
      let other : (j : ℕ) → (j ≡ first + k → ⊥) → slice_index_or (blocks next) j [] ≡ slice_index_or (blocks s) j [] =
      λ j not. ap (λ xs. slice_index_or xs j []) wrote ∙ get_or-set_other (blocks s) (first + k) j (piece k) [] not in
      record {
        all = (still k s less all).1;
        before = λ j early. other j (λ same. omega (arith, early, same)) ∙ so_far.before j early;
        these = λ i early. elim (before_or_at i k (i == k) refl (omega (arith, early))) [
          | inl same ↦ ap (λ n. slice_index_or (blocks next) (first + n) []) same
              ∙ (ap (λ xs. slice_index_or xs (first + k) []) wrote ∙ get_or-set_same (blocks s) (first + k) (piece k) [] below
              ∙ ap piece (sym same))
          | inr less_still ↦ other (first + i) (λ same. omega (arith, less_still, same)) ∙ so_far.these i (omega (arith, less_still))
        ];
      }

  all_left : IsLeft (first + some) after
  all_left =
      left_all leave IsLeft first bytes now some one_more
      (record { all = many; before = λ j early. refl; these = λ i early. absurd (omega (arith, early)) })

  -- and so they were taken
  pub more_taken : (old before : List Talk) (came : ℕ) → AreTaken (blocks now) old first before
      → AreTaken (blocks after) old (first + some) (Came came bytes ∷ before)
  more_taken old before came taken =
      some_taken first some came bytes before
      (taken_still (blocks now) (blocks after) old first before (λ j early. all_left.before j early) taken) long
      (λ i less. all_left.these i (omega (arith, less)))
