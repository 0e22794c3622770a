-- The search for the member that has a block.
use Rattle.std.proofs.Common.{◌+◌, ◌-◌, ◌<◌, ◌∙◌, ◌∷◌, ◌≡◌, ◌≤◌, List, None, Option, Some, [], ap, arith, false, length, refl, suc}
use Rattle.std.proofs.Common.{sym, true, zero, ℕ}
use Rattle.std.specs.Prelude.{slice_index_or, slice_set}
use Rattle.mmc_card.specs.Sectors.{Sector}
use Rattle.mmc_bus.specs.Bytes.{blocks_in}
use Rattle.mmc_queue.specs.Lent.{IsFirst, IsPlace, before_rest, block_at, block_of, blocks_from, entry_at, held_by, with_buffer, with_sector}
use Rattle.mmc_queue.specs.LentLaws.{first_block, first_has, first_written, has, in_place, nth_block}
use Rattle.mmc_queue.specs.Requests.{start_of}
use Rattle.mmc_queue.specs.declared.entry.Entry.{Entry}
use Rattle.mmc_queue.specs.declared.held.Held.{Held}
use Rattle.mmc_queue.specs.declared.held.Held.TheVariants.{Room}

-- none of the first k has a block for the sector
abbrev pub NoneBefore : Held → List Entry → ℕ → ℕ → Type 0
NoneBefore held es s zero = Unit {0}
NoneBefore held [] s (suc k) = Unit {0}
NoneBefore held (e ∷ es) s (suc k) = (has held e s ≡ false) × NoneBefore held es s k

pub first_here : (held : Held) (es : List Entry) (s k : ℕ) → NoneBefore held es s k → k < length es → has held (entry_at es k) s ≡ true → IsFirst held es s k
first_here held [] s k none below is = absurd (omega (arith, below))
first_here held (e ∷ es) s zero none below is = is
first_here held (e ∷ es) s (suc k) none below is = (none.0, first_here held es s k none.1 (omega (arith, below)) is)

pub none_more : (held : Held) (es : List Entry) (s k : ℕ) → NoneBefore held es s k → k < length es → has held (entry_at es k) s ≡ false
    → NoneBefore held es s (suc k)
none_more held [] s k none below is = absurd (omega (arith, below))
none_more held (e ∷ es) s zero none below is = (is, tt)
none_more held (e ∷ es) s (suc k) none below is = (none.0, none_more held es s k none.1 (omega (arith, below)) is)

pub none_at_all : (held : Held) (es : List Entry) (s k : ℕ) → NoneBefore held es s k → length es ≤ k → block_at (held_by held) es s ≡ None
none_at_all held [] s k none all = refl
none_at_all held (e ∷ es) s zero none all = absurd (omega (arith, all))
none_at_all held (e ∷ es) s (suc k) none all = rw none.0 (none_at_all held es s k none.1 (omega (arith, all)))

-- A place.

pub place_below : (held : Held) (es : List Entry) (s k j : ℕ) → IsPlace held es s k j → j < length (blocks_in (held_by held (entry_at es k)))
place_below held es s k j p =
    let e : Entry = entry_at es k in
    let h = (in_place (start_of e.request) (length (blocks_in (held_by held e))) s (first_has held es s k p.0)).0 in
    let is = p.1 in omega (arith, h, is)

or_else : Sector → Option Sector → Sector
or_else d None = d
or_else d (Some x) = x

pub same_some : (a b : Sector) → Some a ≡ Some b → a ≡ b
unfolding or_else
same_some a b h = ap (or_else a) h

pub place_gives : (held : Held) (es : List Entry) (s n i k j : ℕ) → i < length (blocks_from (held_by held) es s n) → IsPlace held es (s + i) k j
    → slice_index_or (blocks_in (held_by held (entry_at es k))) j [] ≡ slice_index_or (blocks_from (held_by held) es s n) i []
place_gives held es s n i k j below p =
    ap (λ m. slice_index_or (blocks_in (held_by held (entry_at es k))) m []) p.1
    ∙ same_some (block_of (entry_at es k) (held_by held (entry_at es k)) (s + i)) (slice_index_or (blocks_from (held_by held) es s n) i [])
    (sym (first_block held es (s + i) k p.0) ∙ nth_block held es s n i below)

pub place_written : (es : List Entry) (s k j : ℕ) (left : List ℕ) → IsPlace Room es s k j
    → with_sector es s left ≡ slice_set es k (with_buffer (entry_at es k) j left)
place_written es s k j left p =
    first_written es s k left p.0 ∙ ap (λ m. slice_set es k (with_buffer (entry_at es k) m left)) (sym p.1)

-- How many blocks.

pub one_more : (held : Held) (es : List Entry) (s end : ℕ) (b : Sector) → s < end → block_at (held_by held) es s ≡ Some b
    → length (blocks_from (held_by held) es s (end - s)) ≡ suc (length (blocks_from (held_by held) es (suc s) (end - suc s)))
one_more held es s end b less is =
    let e : end - s ≡ suc (end - suc s) = omega (arith, less) in
    ap (λ n. length (blocks_from (held_by held) es s n)) e
    ∙ ap (λ (o : Option Sector). length (before_rest o (blocks_from (held_by held) es (suc s) (end - suc s)))) is

pub no_more : (held : Held) (es : List Entry) (s end : ℕ) → s < end → block_at (held_by held) es s ≡ None
    → length (blocks_from (held_by held) es s (end - s)) ≡ 0
no_more held es s end less is =
    let e : end - s ≡ suc (end - suc s) = omega (arith, less) in
    ap (λ n. length (blocks_from (held_by held) es s n)) e
    ∙ ap (λ (o : Option Sector). length (before_rest o (blocks_from (held_by held) es (suc s) (end - suc s)))) is

pub at_the_end : (held : Held) (es : List Entry) (s end : ℕ) → end ≤ s → length (blocks_from (held_by held) es s (end - s)) ≡ 0
at_the_end held es s end all =
    let e : end - s ≡ 0 = omega (arith, all) in ap (λ n. length (blocks_from (held_by held) es s n)) e
