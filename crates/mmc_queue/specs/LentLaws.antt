-- What is left in one block of a group changes no other.
use Rattle.std.specs.Prelude.{◌&&◌, ◌+◌, ◌-◌, ◌<◌, ◌≡◌, ◌≤◌, ◌∷◌, Bool, List, None, Option, Some, [], if◌then◌else◌, length}
use Rattle.std.specs.Prelude.{false, nat_le, nat_lt, slice_index_or, slice_set, suc, true, zero, ℕ}
use Rattle.std.proofs.Common.{◌∙◌, ap, arith, refl, subst}
use Rattle.std.proofs.lemmas.Bool.Decides.{nat_tests}
use Rattle.std.proofs.lemmas.Option.{none-some}
use Rattle.std.proofs.lemmas.List.{get_or-set_other, get_or-set_same, length-set}
use Rattle.mmc_card.specs.Sectors.{Sector}
use Rattle.mmc_bus.specs.BlockLaws.{block_left}
use Rattle.mmc_bus.specs.Bytes.{blocks_in, with_block}
use Rattle.mmc_queue.specs.Lent.{IsFirst, before_rest, block_at, block_of, blocks_from, blocks_of, entry_at, has_block, held_by, with_buffer, with_lent, with_sector}
use Rattle.mmc_queue.specs.Requests.{start_of}
use Rattle.mmc_queue.specs.declared.entry.Entry.{Entry}
use Rattle.mmc_queue.specs.declared.group.Group.{Group}
use Rattle.mmc_queue.specs.declared.held.Held.{Held}
use Rattle.mmc_queue.specs.declared.held.Held.TheVariants.{Room}

-- Of one entry.

pub in_place : (start n s : ℕ) → (nat_le start s && nat_lt s (start + n)) ≡ true → (s - start < n) × (start ≤ s)
in_place start n s h = (grind (arith, nat_tests), grind (arith, nat_tests))

left_in : (e : Entry) (s : ℕ) (left : List ℕ) → has_block e e.buffer s ≡ true → length left ≡ 512
    → blocks_in (with_block e.buffer (s - start_of e.request) left)
    ≡ slice_set (blocks_in e.buffer) (s - start_of e.request) left
left_in e s left has long =
    block_left e.buffer (s - start_of e.request) left (in_place (start_of e.request) (length (blocks_in e.buffer)) s has).0
    long

-- it has the same blocks
has_still : (e : Entry) (s t : ℕ) (left : List ℕ) → has_block e e.buffer s ≡ true → length left ≡ 512
    → has_block (with_buffer e (s - start_of e.request) left) (with_buffer e (s - start_of e.request) left).buffer t
    ≡ has_block e e.buffer t
has_still e s t left has long =
    let j : ℕ = s - start_of e.request in
    let same : length (blocks_in (with_block e.buffer j left)) ≡ length (blocks_in e.buffer) =
    ap (λ (bs : List Sector). length bs) (left_in e s left has long) ∙ length-set (blocks_in e.buffer) j left in
    ap (λ n. nat_le (start_of e.request) t && nat_lt t (start_of e.request + n)) same

block_left_there : (e : Entry) (s : ℕ) (left : List ℕ) → has_block e e.buffer s ≡ true → length left ≡ 512
    → block_of (with_buffer e (s - start_of e.request) left) (with_buffer e (s - start_of e.request) left).buffer s ≡ left
block_left_there e s left has long =
    let j : ℕ = s - start_of e.request in
    ap (λ (bs : List Sector). slice_index_or bs j []) (left_in e s left has long)
    ∙ get_or-set_same (blocks_in e.buffer) j left [] (in_place (start_of e.request) (length (blocks_in e.buffer)) s has).0

apart : (start s t : ℕ) → start ≤ s → start ≤ t → (t ≡ s → ⊥) → t - start ≡ s - start → ⊥
apart start s t p q h e = h (omega (arith, p, q, e))

block_left_elsewhere : (e : Entry) (s t : ℕ) (left : List ℕ) → has_block e e.buffer s ≡ true → has_block e e.buffer t ≡ true
    → length left ≡ 512 → (t ≡ s → ⊥)
    → block_of (with_buffer e (s - start_of e.request) left) (with_buffer e (s - start_of e.request) left).buffer t
    ≡ block_of e e.buffer t
block_left_elsewhere e s t left has also long other =
    let j : ℕ = s - start_of e.request in
    let start : ℕ = start_of e.request in
    let n : ℕ = length (blocks_in e.buffer) in
    ap (λ (bs : List Sector). slice_index_or bs (t - start) []) (left_in e s left has long)
    ∙ get_or-set_other (blocks_in e.buffer) j (t - start) left []
    (apart start s t (in_place start n s has).1 (in_place start n t also).1 other)

-- Of a list of entries.

same_by : (e : Entry) (es : List Entry) (s : ℕ) (left : List ℕ) (b : Bool) (found : Sector) → has_block e e.buffer s ≡ b
    → length left ≡ 512
    → (if b then Some (block_of e e.buffer s) else block_at (held_by Room) es s) ≡ Some found
    → (block_at (held_by Room) es s ≡ Some found → block_at (held_by Room) (with_sector es s left) s ≡ Some left)
    → block_at (held_by Room) (if b then (with_buffer e (s - start_of e.request) left ∷ es) else (e ∷ with_sector es s left)) s ≡ Some left
same_by e es s left true found has long is rest =
    rw (has_still e s s left has long, has) (ap Some (block_left_there e s left has long))
same_by e es s left false found has long is rest = rw has (rest is)

-- the block of that sector holds what was left
same_sector : (es : List Entry) (s : ℕ) (left : List ℕ) (found : Sector) → block_at (held_by Room) es s ≡ Some found → length left ≡ 512
    → block_at (held_by Room) (with_sector es s left) s ≡ Some left
same_sector [] s left found is long = absurd (none-some found is)
same_sector (e ∷ es) s left found is long =
    same_by e es s left (has_block e e.buffer s) found refl long is (λ h. same_sector es s left found h long)

kept_by : (e : Entry) (es : List Entry) (s t : ℕ) (left : List ℕ) (c : Bool) → has_block e e.buffer s ≡ true
    → has_block e e.buffer t ≡ c → length left ≡ 512 → (t ≡ s → ⊥)
    → (if c then Some (block_of (with_buffer e (s - start_of e.request) left) (with_buffer e (s - start_of e.request) left).buffer t) else block_at (held_by Room) es t)
    ≡ (if c then Some (block_of e e.buffer t) else block_at (held_by Room) es t)
kept_by e es s t left true has also long other = ap Some (block_left_elsewhere e s t left has also long other)
kept_by e es s t left false has also long other = refl

other_by : (e : Entry) (es : List Entry) (s t : ℕ) (left : List ℕ) (b : Bool) → has_block e e.buffer s ≡ b → length left ≡ 512
    → (t ≡ s → ⊥) → block_at (held_by Room) (with_sector es s left) t ≡ block_at (held_by Room) es t
    → block_at (held_by Room) (if b then (with_buffer e (s - start_of e.request) left ∷ es) else (e ∷ with_sector es s left)) t
    ≡ block_at (held_by Room) (e ∷ es) t
other_by e es s t left true has long other rest =
    rw (has_still e s t left has long) (kept_by e es s t left (has_block e e.buffer t) has refl long other)
other_by e es s t left false has long other rest =
    ap (λ (o : Option Sector). if has_block e e.buffer t then Some (block_of e e.buffer t) else o) rest

-- the others stay
other_sector : (es : List Entry) (s t : ℕ) (left : List ℕ) → length left ≡ 512 → (t ≡ s → ⊥)
    → block_at (held_by Room) (with_sector es s left) t ≡ block_at (held_by Room) es t
other_sector [] s t left long other = refl
other_sector (e ∷ es) s t left long other =
    other_by e es s t left (has_block e e.buffer s) refl long other (other_sector es s t left long other)

-- Of the blocks.

later_kept : (es : List Entry) (s t n : ℕ) (left : List ℕ) → s < t → length left ≡ 512
    → blocks_from (held_by Room) (with_sector es s left) t n ≡ blocks_from (held_by Room) es t n
later_kept es s t zero left less long = refl
later_kept es s t (suc n) left less long =
    rw (other_sector es s t left long (λ e. omega (arith, e, less)), later_kept es s (suc t) n left (omega (arith, less)) long) refl

written_first : (es : List Entry) (s n : ℕ) (left : List ℕ) (b : Sector) → block_at (held_by Room) es s ≡ Some b → length left ≡ 512
    → blocks_from (held_by Room) (with_sector es s left) s (suc n) ≡ left ∷ blocks_from (held_by Room) es (suc s) n
written_first es s n left b is long =
    rw (same_sector es s left b is long, later_kept es s (suc s) n left (omega arith) long) refl

written_next : (es : List Entry) (s n i : ℕ) (left : List ℕ) (b : Sector) → block_at (held_by Room) es s ≡ Some b → length left ≡ 512
    → blocks_from (held_by Room) (with_sector es (suc s + i) left) (suc s) n ≡ slice_set (blocks_from (held_by Room) es (suc s) n) i left
    → blocks_from (held_by Room) (with_sector es (suc s + i) left) s (suc n) ≡ b ∷ slice_set (blocks_from (held_by Room) es (suc s) n) i left
written_next es s n i left b is long rest =
    ap (λ (o : Option Sector). before_rest o (blocks_from (held_by Room) (with_sector es (suc s + i) left) (suc s) n))
    (other_sector es (suc s + i) s left long (λ e. omega (arith, e)) ∙ is)
    ∙ ap (λ (bs : List Sector). b ∷ bs) rest

written_by : (es : List Entry) (s n i : ℕ) (left : List ℕ) (o : Option Sector) → block_at (held_by Room) es s ≡ o
    → i < length (before_rest o (blocks_from (held_by Room) es (suc s) n)) → length left ≡ 512
    → ((j : ℕ) → j < length (blocks_from (held_by Room) es (suc s) n)
    → blocks_from (held_by Room) (with_sector es (suc s + j) left) (suc s) n ≡ slice_set (blocks_from (held_by Room) es (suc s) n) j left)
    → blocks_from (held_by Room) (with_sector es (s + i) left) s (suc n) ≡ slice_set (before_rest o (blocks_from (held_by Room) es (suc s) n)) i left
written_by es s n i left None is below long rest = absurd (omega (arith, below))
written_by es s n zero left (Some b) is below long rest =
    let here : s ≡ s + 0 = omega arith in
    subst (λ t. blocks_from (held_by Room) (with_sector es t left) s (suc n) ≡ left ∷ blocks_from (held_by Room) es (suc s) n) here
    (written_first es s n left b is long)
written_by es s n (suc i) left (Some b) is below long rest =
    let sum : suc s + i ≡ s + suc i = omega arith in
    subst (λ t. blocks_from (held_by Room) (with_sector es t left) s (suc n) ≡ b ∷ slice_set (blocks_from (held_by Room) es (suc s) n) i left) sum
    (written_next es s n i left b is long (rest i (omega (arith, below))))

written : (es : List Entry) (s n i : ℕ) (left : List ℕ) → i < length (blocks_from (held_by Room) es s n) → length left ≡ 512
    → blocks_from (held_by Room) (with_sector es (s + i) left) s n ≡ slice_set (blocks_from (held_by Room) es s n) i left
written es s zero i left below long = absurd (omega (arith, below))
written es s (suc n) i left below long =
    written_by es s n i left (block_at (held_by Room) es s) refl below long (λ j less. written es (suc s) n j left less long)

pub one_written : (g : Group) (i : ℕ) (left : List ℕ) → i < length (blocks_of g) → length left ≡ 512
    → blocks_of (with_lent g i left) ≡ slice_set (blocks_of g) i left
one_written g i left below long = written g.members.items g.extent.start (g.extent.end - g.extent.start) i left below long

-- Where a block is.

abbrev pub has : Held → Entry → ℕ → Bool
has held e s = has_block e (held_by held e) s

pub first_below : (held : Held) (es : List Entry) (s k : ℕ) → IsFirst held es s k → k < length es
first_below held [] s k f = absurd f
first_below held (e ∷ es) s zero f = omega arith
first_below held (e ∷ es) s (suc k) f = let h = first_below held es s k f.1 in omega (arith, h)

pub first_has : (held : Held) (es : List Entry) (s k : ℕ) → IsFirst held es s k → has held (entry_at es k) s ≡ true
first_has held [] s k f = absurd f
first_has held (e ∷ es) s zero f = f
first_has held (e ∷ es) s (suc k) f = first_has held es s k f.1

pub first_block : (held : Held) (es : List Entry) (s k : ℕ) → IsFirst held es s k
    → block_at (held_by held) es s ≡ Some (block_of (entry_at es k) (held_by held (entry_at es k)) s)
first_block held [] s k f = absurd f
first_block held (e ∷ es) s zero f = rw f refl
first_block held (e ∷ es) s (suc k) f = rw f.0 (first_block held es s k f.1)

pub first_written : (es : List Entry) (s k : ℕ) (left : List ℕ) → IsFirst Room es s k
    → with_sector es s left ≡ slice_set es k (with_buffer (entry_at es k) (s - start_of (entry_at es k).request) left)
first_written [] s k left f = absurd f
first_written (e ∷ es) s zero left f = rw f refl
first_written (e ∷ es) s (suc k) left f = rw (f.0, first_written es s k left f.1) refl

nth_by : (held : Held) (es : List Entry) (s : ℕ) (o : Option Sector) (rest : List Sector) (i : ℕ) → block_at (held_by held) es s ≡ o
    → i < length (before_rest o rest)
    → ((j : ℕ) → j < length rest → block_at (held_by held) es (suc s + j) ≡ Some (slice_index_or rest j []))
    → block_at (held_by held) es (s + i) ≡ Some (slice_index_or (before_rest o rest) i [])
nth_by held es s None rest i is below more = absurd (omega (arith, below))
nth_by held es s (Some b) rest zero is below more =
    let here : s + 0 ≡ s = omega arith in ap (block_at (held_by held) es) here ∙ is
nth_by held es s (Some b) rest (suc i) is below more =
    let sum : s + suc i ≡ suc s + i = omega arith in ap (block_at (held_by held) es) sum ∙ more i (omega (arith, below))

-- block i is that of the sector i after the first
pub nth_block : (held : Held) (es : List Entry) (s n i : ℕ) → i < length (blocks_from (held_by held) es s n)
    → block_at (held_by held) es (s + i) ≡ Some (slice_index_or (blocks_from (held_by held) es s n) i [])
nth_block held es s zero i below = absurd (omega (arith, below))
nth_block held es s (suc n) i below =
    nth_by held es s (block_at (held_by held) es s) (blocks_from (held_by held) es (suc s) n) i refl below
    (λ j less. nth_block held es (suc s) n j less)

few_by : (o : Option Sector) (rest : List Sector) (n : ℕ) → length rest ≤ n → length (before_rest o rest) ≤ suc n
few_by None rest n h = omega arith
few_by (Some b) rest n h = omega (arith, h)

pub few_blocks : (held : Held) (es : List Entry) (s n : ℕ) → length (blocks_from (held_by held) es s n) ≤ n
few_blocks held es s zero = omega arith
few_blocks held es s (suc n) =
    few_by (block_at (held_by held) es s) (blocks_from (held_by held) es (suc s) n) n (few_blocks held es (suc s) n)
