-- Bytes as blocks: each block is its bytes, and what is left in one changes no other.
use Rattle.std.specs.Prelude.{◌++◌, ◌*◌, ◌+◌, ◌-◌, ◌/◌, ◌<◌, ◌≡◌, ◌≤◌, List, [], drop, length, slice_index_or}
use Rattle.std.specs.Prelude.{slice_range, slice_set, suc, take, zero, ℕ}
use Rattle.std.proofs.Common.{◌∙◌, ap, arith, refl, sym}
use Rattle.std.proofs.lemmas.List.{drop-append-le, drop-drop, drop-take, drop_at, length-append, length-drop}
use Rattle.std.proofs.lemmas.List.{length-take-le, take-append-le, take-take, take_all, take_at}
use Rattle.mmc_card.specs.Sectors.{pieces}
use Rattle.mmc_bus.specs.Bytes.{blocks_in, with_part}
use Rattle.mmc_bus.specs.Lending.{left_from}

pub length_pieces : (count : ℕ) (bytes : List ℕ) → length (pieces count bytes) ≡ count
length_pieces zero bytes = refl
length_pieces (suc count) bytes = ap suc (length_pieces count (drop 512 bytes))

piece_at : (count : ℕ) (bytes : List ℕ) (i : ℕ) → i < count
    → slice_index_or (pieces count bytes) i [] ≡ take 512 (drop (512 * i) bytes)
piece_at zero bytes i below = absurd (omega (arith, below))
piece_at (suc count) bytes zero below = refl
piece_at (suc count) bytes (suc i) below =
    let sum : 512 + 512 * i ≡ 512 * suc i = omega arith in
    piece_at count (drop 512 bytes) i (omega (arith, below))
    ∙ ap (take 512) (drop-drop (512 * i) 512 bytes ∙ ap (λ k. drop k bytes) sum)

-- a block is the bytes from 512 times its number on
pub piece_is : (count : ℕ) (bytes : List ℕ) (i : ℕ) → i < count
    → slice_range bytes (512 * i) (512 * i + 512) ≡ slice_index_or (pieces count bytes) i []
piece_is count bytes i below =
    let size : 512 ≡ 512 * i + 512 - 512 * i = omega arith in
    sym (piece_at count bytes i below ∙ ap (λ k. take k (drop (512 * i) bytes)) size)

-- the bytes with a block's in their place
abbrev put : List ℕ → ℕ → List ℕ → List ℕ
put bytes start left = take start bytes ++ (left ++ drop (start + 512) bytes)

pieces_put : (count i : ℕ) (bytes left : List ℕ) → i < count → 512 * count ≤ length bytes → length left ≡ 512
    → pieces count (put bytes (512 * i) left) ≡ slice_set (pieces count bytes) i left
pieces_put zero i bytes left below room long = absurd (omega (arith, below))
pieces_put (suc count) zero bytes left below room long =
    rw (take_at left (drop 512 bytes) 512 long, drop_at left (drop 512 bytes) 512 long) refl
pieces_put (suc count) (suc i) bytes left below room long =
    let start : ℕ = 512 * suc i in
    let rest : List ℕ = left ++ drop (start + 512) bytes in
    let same : start ≡ 512 + 512 * i = omega arith in
    let cut : length (take start bytes) ≡ start = length-take-le start bytes (omega (arith, below, room)) in
    let some : 512 ≤ length (take start bytes) = omega (arith, cut) in
    let head : take 512 (take start bytes ++ rest) ≡ take 512 bytes =
    take-append-le 512 (take start bytes) rest some ∙ take-take 512 start bytes (omega arith) in
    let front : drop 512 (take start bytes) ≡ take (512 * i) (drop 512 bytes) =
    ap (λ k. drop 512 (take k bytes)) same ∙ drop-take 512 (512 * i) bytes in
    let sum : start + 512 ≡ 512 + (512 * i + 512) = omega arith in
    let back : drop (start + 512) bytes ≡ drop (512 * i + 512) (drop 512 bytes) =
    ap (λ k. drop k bytes) sum ∙ sym (drop-drop (512 * i + 512) 512 bytes) in
    let tail : drop 512 (take start bytes ++ rest) ≡ put (drop 512 bytes) (512 * i) left =
    drop-append-le 512 (take start bytes) rest some ∙ ap (λ xs. xs ++ rest) front
    ∙ ap (λ xs. take (512 * i) (drop 512 bytes) ++ (left ++ xs)) back in
    let some_left : 512 * count ≤ length (drop 512 bytes) = omega (arith, length-drop 512 bytes, room) in
    rw (head, tail, pieces_put count i (drop 512 bytes) left (omega (arith, below)) some_left long) refl

with_is_put : (bytes : List ℕ) (i : ℕ) (left : List ℕ) → i < length bytes / 512 → length left ≡ 512
    → (with_part bytes (512 * i) left ≡ put bytes (512 * i) left)
    × (length (put bytes (512 * i) left) ≡ length bytes)
with_is_put bytes i left below long =
    let start : ℕ = 512 * i in
    let room : start + 512 ≤ length bytes = omega (arith, below) in
    let same : put bytes start left ≡ take start bytes ++ (left ++ drop (start + length left) bytes) = rw long refl in
    let cut = length-take-le start bytes (omega (arith, room)) in
    let both = length-append (take start bytes) (left ++ drop (start + 512) bytes) in
    let more = length-append left (drop (start + 512) bytes) in
    let end = length-drop (start + 512) bytes in
    let all : length (put bytes start left) ≡ length bytes = omega (arith, room, cut, both, more, end, long) in
    let small : length (put bytes start left) ≤ length bytes = omega (arith, all) in
    (ap (take (length bytes)) (sym same) ∙ take_all (length bytes) (put bytes start left) small, all)

-- what is left in a block changes that block and no other
pub block_left : (bytes : List ℕ) (i : ℕ) (left : List ℕ) → i < length (blocks_in bytes) → length left ≡ 512
    → blocks_in (with_part bytes (512 * i) left) ≡ slice_set (blocks_in bytes) i left
block_left bytes i left below long =
    let less : i < length bytes / 512 = omega (arith, below, length_pieces (length bytes / 512) bytes) in
    let both = with_is_put bytes i left less long in
    let room : 512 * (length bytes / 512) ≤ length bytes = omega arith in
    let count : length (put bytes (512 * i) left) / 512 ≡ length bytes / 512 = ap (λ k. k / 512) both.1 in
    rw (both.0, count) (pieces_put (length bytes / 512) i bytes left less room long)

-- nor their length
pub length_left : (bytes : List ℕ) (i : ℕ) (left : List ℕ) → i < length (blocks_in bytes) → length left ≡ 512
    → length (with_part bytes (512 * i) left) ≡ length bytes
length_left bytes i left below long =
    let less : i < length bytes / 512 = omega (arith, below, length_pieces (length bytes / 512) bytes) in
    let both = with_is_put bytes i left less long in
    ap length both.0 ∙ both.1

-- what is left in one block is left in each of one
pub one_left : {S : Type 0} (leave : S → ℕ → List ℕ → S) (was : S) (first : ℕ) (left : List ℕ) → length left ≡ 512
    → leave was first left ≡ left_from leave was first left 1
one_left leave was first left long =
    let start : first + 0 ≡ first = omega arith in
    sym (ap (λ i. leave was i (take 512 left)) start ∙ ap (leave was first) (take_all 512 left (omega (arith, long))))

-- one block is some of them
pub some_one : (most : ℕ) → 0 < most → (0 < 1) × (1 ≤ most)
some_one most some = (omega arith, omega (arith, some))
