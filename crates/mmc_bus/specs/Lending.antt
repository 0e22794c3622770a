-- Relation (docs/AUDIT.md, "What to read").
-- What comes of blocks that are lent.
use Rattle.std.specs.Prelude.{◌*◌, ◌+◌, ◌<◌, ◌≡◌, List, length, slice_range, suc, zero, ℕ}

-- Bytes were left in some of the blocks, one after the other, and nothing else has changed.
pub data IsRewritten {S : Type 0} (blocks : S → List (List ℕ)) (leave : S → ℕ → List ℕ → S) (old : S) : S → Type 0 where
  nothing : IsRewritten blocks leave old old
  block : (now : S) (i : ℕ) (left : List ℕ) → IsRewritten blocks leave old now → i < length (blocks now)
      → length left ≡ 512 → IsRewritten blocks leave old (leave now i left)

-- so many blocks of these bytes were left, one after the other, from this block on
abbrev pub left_from : {S : Type 0} → (S → ℕ → List ℕ → S) → S → ℕ → List ℕ → ℕ → S
left_from leave was first bytes zero = was
left_from leave was first bytes (suc done) =
    leave (left_from leave was first bytes done) (first + done) (slice_range bytes (512 * done) (512 * done + 512))
