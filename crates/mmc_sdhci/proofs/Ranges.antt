-- Blocks of some bytes, of which one is written.
use Rattle.std.proofs.Common.{◌*◌, ◌+◌, ◌-◌, ◌<◌, ◌∙◌, ◌≡◌, ◌≤◌, List, ap, arith, drop, length, sym, take, ℕ}
use Rattle.std.proofs.lemmas.List.{drop-take}
use Rattle.std.proofs.lemmas.Slice.{between-put_mid, take-put_mid_below}
use Rattle.std.specs.Prelude.{slice_range}
use borrow.Rule.Slice.PartMut.{put_mid}

-- the bytes after these were left in this block
abbrev pub with_range : ℕ → List ℕ → List ℕ → List ℕ
with_range i bytes left = put_mid (512 * i) (512 * i + 512 - 512 * i) bytes left

module _ (i : ℕ) (bytes left : List ℕ) (inside : 512 * i + 512 ≤ length bytes) (long : length left ≡ 512) where
  pub this_range : slice_range (with_range i bytes left) (512 * i) (512 * i + 512) ≡ left
  this_range =
      between-put_mid (512 * i) (512 * i + 512 - 512 * i) bytes left (512 * i + 512) (omega (arith, inside)) (omega (arith, long))

  pub other_range : (j : ℕ) → j < i → slice_range (with_range i bytes left) (512 * j) (512 * j + 512) ≡ slice_range bytes (512 * j) (512 * j + 512)
  other_range j less =
      let size : 512 * j + 512 - 512 * j ≡ 512 = omega arith in
      let here : (xs : List ℕ) → slice_range xs (512 * j) (512 * j + 512) ≡ drop (512 * j) (take (512 * j + 512) xs) =
      λ xs. ap (λ n. take n (drop (512 * j) xs)) size ∙ sym (drop-take (512 * j) 512 xs) in
      here (with_range i bytes left)
      ∙ ap (drop (512 * j)) (take-put_mid_below (512 * i) (512 * i + 512 - 512 * i) bytes left (512 * j + 512) (omega (arith, less)) (omega (arith, inside)))
      ∙ sym (here bytes)
