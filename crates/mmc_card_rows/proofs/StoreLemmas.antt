-- Partitions that stand one after the other, and blocks that land in one of them.
use Rattle.std.proofs.Common.{◌*◌, ◌+◌, ◌++◌, ◌-◌, ◌/◌, ◌<◌, ◌∙◌, ◌∷◌, ◌≡◌, ◌≤◌, List, [], ap, arith, drop, false, length}
use Rattle.std.proofs.Common.{ap₂, append_assoc, min, refl, rules, suc, sym, take, true, zero, ℕ}
use Rattle.std.proofs.Math.Seq.{drop-append-add, take-length}
use Rattle.std.proofs.lemmas.List.{drop-drop, get_or-drop, get_or-take, length-append, length-drop, length-replicate}
use Rattle.std.proofs.lemmas.List.{length-take, length-take-le}
use Rattle.std.proofs.lemmas.List.{places, same_lists, take-replicate, take-take, take_at}
use Rattle.std.proofs.lemmas.Slice.{drop-put_mid, take-put_mid_below}
use Rattle.std.specs.Prelude.{IfSome, None, Option, Some, replicate, slice_index_or, slice_set}
use borrow.Rule.Slice.PartMut.{put_mid}
use Rattle.mmc_bus.specs.BlockLaws.{length_pieces}
use Rattle.mmc_bus.specs.Bytes.{blocks_in}
use Rattle.mmc_frame.specs.Flips.{AreBytes}
use Rattle.mmc_card.proofs.ByteLemmas.{block_of}
use Rattle.mmc_card.proofs.Cards.{blocks_replicate}
use Rattle.mmc_card.specs.Card.{AreBlocks, landed_in}
use Rattle.mmc_card.specs.Sectors.{Sector, part_number, pieces}
use Rattle.mmc_card.specs.declared.part.Part.{Part}
use Rattle.mmc_card.specs.declared.part.Part.TheVariants.{Boot1, Boot2, Gp1, Gp2, Gp3, Gp4, User}
use Rattle.mmc_card_rows.specs.SectorLists.{first_sectors}
use Rattle.mmc_card_rows.specs.Sizes.{total}
use Rattle.mmc_card_rows.specs.Store.{split}
use Rattle.sparse_sectors.specs.SectorLists.{with_values}

-- Where a partition stands.

pub number_below : (part : Part) → part_number part < 7
number_below User = omega arith
number_below Boot1 = omega arith
number_below Boot2 = omega arith
number_below Gp1 = omega arith
number_below Gp2 = omega arith
number_below Gp3 = omega arith
number_below Gp4 = omega arith

pub length_split : (sizes : List ℕ) (xs : List Sector) → length (split sizes xs) ≡ length sizes
length_split [] xs = refl
length_split (n ∷ sizes) xs = ap suc (length_split sizes (drop n xs))

pub split_part : (sizes : List ℕ) (xs : List Sector) (p : ℕ) → p < length sizes
    → slice_index_or (split sizes xs) p [] ≡ take (slice_index_or sizes p 0) (drop (total (take p sizes)) xs)
split_part [] xs p h = absurd (omega (arith, h))
split_part (n ∷ sizes) xs zero h = refl
split_part (n ∷ sizes) xs (suc p) h =
    split_part sizes (drop n xs) p (omega (arith, h))
    ∙ ap (take (slice_index_or sizes p 0)) (drop-drop (total (take p sizes)) n xs)

-- it ends within the whole
pub place_within : (sizes : List ℕ) (p : ℕ) → total (take p sizes) + slice_index_or sizes p 0 ≤ total sizes
place_within [] zero = omega arith
place_within [] (suc p) = omega arith
place_within (n ∷ sizes) zero = omega arith
place_within (n ∷ sizes) (suc p) = let h = place_within sizes p in omega (arith, h)

pub split_part_length : (sizes : List ℕ) (xs : List Sector) (p : ℕ) → p < length sizes → total sizes ≡ length xs
    → length (slice_index_or (split sizes xs) p []) ≡ slice_index_or sizes p 0
split_part_length sizes xs p h all =
    let within = place_within sizes p in
    let left = length-drop (total (take p sizes)) xs in
    ap length (split_part sizes xs p h)
    ∙ length-take-le (slice_index_or sizes p 0) (drop (total (take p sizes)) xs) (omega (arith, within, left, all))

pub part_within : (sizes : List ℕ) (xs : List Sector) (p : ℕ)
    → length (slice_index_or (split sizes xs) p []) ≤ length xs
part_within [] xs p = omega arith
part_within (n ∷ sizes) xs zero = omega (arith, length-take n xs)
part_within (n ∷ sizes) xs (suc p) =
    let h = part_within sizes (drop n xs) p in
    let left = length-drop n xs in
    omega (arith, h, left)

pub part_fits : (sizes : List ℕ) (xs : List Sector) (p : ℕ) → length xs ≡ total sizes
    → length (slice_index_or (split sizes xs) p []) ≤ total sizes
part_fits sizes xs p whole = omega (arith, part_within sizes xs p, whole)

-- a sector of the whole is one of a partition
pub part_at : (sizes : List ℕ) (xs : List Sector) (p i : ℕ) → p < length sizes → i < slice_index_or sizes p 0
    → slice_index_or xs (total (take p sizes) + i) [] ≡ slice_index_or (slice_index_or (split sizes xs) p []) i []
part_at sizes xs p i h less =
    let at = total (take p sizes) in
    let size = slice_index_or sizes p 0 in
    sym (ap (λ ys. slice_index_or ys i []) (split_part sizes xs p h)
    ∙ get_or-take size (drop at xs) i [] less ∙ get_or-drop at xs i [])

put_within : (n s k : ℕ) (xs ys : List Sector) → s + k ≤ n → n ≤ length xs → length ys ≡ k
    → take n (put_mid s k xs ys) ≡ put_mid s k (take n xs) ys
put_within n s k xs ys fits all len =
    same_lists _ _ (search (rules, places)) (λ j d h. grind (arith, places))

put_after : (n s at k : ℕ) (xs ys : List Sector) → at ≡ n + s → at ≤ length xs
    → drop n (put_mid at k xs ys) ≡ put_mid s k (drop n xs) ys
put_after n s at k xs ys e within =
    same_lists _ _ (search (rules, places)) (λ j d h. grind (arith, places))

-- the whole, with other values from the sector `s` of a partition on
split_put : (sizes : List ℕ) (xs ys : List Sector) (p s k at : ℕ) → p < length sizes → total sizes ≤ length xs
    → s + k ≤ slice_index_or sizes p 0 → length ys ≡ k → at ≡ total (take p sizes) + s
    → split sizes (put_mid at k xs ys)
    ≡ slice_set (split sizes xs) p (put_mid s k (slice_index_or (split sizes xs) p []) ys)
split_put [] xs ys p s k at h all fits len e = absurd (omega (arith, h))
split_put (n ∷ sizes) xs ys zero s k at h all fits len e =
    let same : at ≡ s = omega (arith, e) in
    rw same (ap₂ (λ zs rest. zs ∷ split sizes rest) (put_within n s k xs ys fits (omega (arith, all)) len)
    (drop-put_mid s k xs ys n fits (omega (arith, all, fits)) len))
split_put (n ∷ sizes) xs ys (suc p) s k at h all fits len e =
    let within = place_within sizes p in
    let left = length-drop n xs in
    let after : at - n ≡ total (take p sizes) + s = omega (arith, e) in
    let place : at ≡ n + (at - n) = omega (arith, e) in
    let inside : at ≤ length xs = omega (arith, e, all, within, fits) in
    ap₂ (λ zs rest. zs ∷ rest) (take-put_mid_below at k xs ys n (omega (arith, e)) inside)
    (ap (split sizes) (put_after n (at - n) at k xs ys place inside)
    ∙ split_put sizes (drop n xs) ys p s k (at - n) (omega (arith, h)) (omega (arith, all, left)) fits len after)

-- What is known of each partition.

blocks_take : (n : ℕ) (xs : List Sector) → AreBlocks xs → AreBlocks (take n xs)
blocks_take zero xs h = tt
blocks_take (suc n) [] h = tt
blocks_take (suc n) (x ∷ xs) h = (h.0, blocks_take n xs h.1)

blocks_drop : (n : ℕ) (xs : List Sector) → AreBlocks xs → AreBlocks (drop n xs)
blocks_drop zero xs h = h
blocks_drop (suc n) [] h = tt
blocks_drop (suc n) (x ∷ xs) h = blocks_drop n xs h.1

pub split_blocks : (sizes : List ℕ) (xs : List Sector) → AreBlocks xs → (p : ℕ)
    → AreBlocks (slice_index_or (split sizes xs) p [])
split_blocks [] xs h p = tt
split_blocks (n ∷ sizes) xs h zero = blocks_take n xs h
split_blocks (n ∷ sizes) xs h (suc p) = split_blocks sizes (drop n xs) (blocks_drop n xs h) p

-- The sectors of a new card.

bytes_take : (n : ℕ) (xs : List ℕ) → AreBytes xs → AreBytes (take n xs)
bytes_take zero xs h = tt
bytes_take (suc n) [] h = tt
bytes_take (suc n) (x ∷ xs) h = (h.0, bytes_take n xs h.1)

bytes_drop : (n : ℕ) (xs : List ℕ) → AreBytes xs → AreBytes (drop n xs)
bytes_drop zero xs h = h
bytes_drop (suc n) [] h = tt
bytes_drop (suc n) (x ∷ xs) h = bytes_drop n xs h.1

pieces_blocks : (count : ℕ) (bytes : List ℕ) → AreBytes bytes → length bytes ≡ 512 * count
    → AreBlocks (pieces count bytes)
pieces_blocks zero bytes h len = tt
pieces_blocks (suc count) bytes h len =
    let left = length-drop 512 bytes in (
      record { len = length-take-le 512 bytes (omega (arith, len)); bytes = bytes_take 512 bytes h },
      pieces_blocks count (drop 512 bytes) (bytes_drop 512 bytes h) (omega (arith, left, len)),
    )

pub first_blocks : (image : Option (List ℕ)) (count erased : ℕ) → IfSome image AreBytes
    → IfSome image (λ bytes. length bytes ≡ 512 * count) → erased < 256 → AreBlocks (first_sectors image count erased)
first_blocks (Some image) count erased bytes len below = pieces_blocks count image bytes len
first_blocks None count erased bytes len below =
    blocks_replicate count (replicate 512 erased) (block_of erased below)

pub first_length : (image : Option (List ℕ)) (count erased : ℕ) → length (first_sectors image count erased) ≡ count
first_length (Some image) count erased = length_pieces count image
first_length None count erased = length-replicate count (replicate 512 erased)

-- all bytes of an image
pub of_image : (image : Option (List ℕ)) (bytes : List ℕ) (count erased : ℕ) → image ≡ Some bytes
    → IfSome image (λ xs. length xs ≡ 512 * count) → blocks_in bytes ≡ first_sectors image count erased
of_image image bytes count erased is whole =
    let long : length bytes ≡ 512 * count = rw is at whole in
    let size : length bytes / 512 ≡ count = omega (arith, long) in
    ap (λ n. pieces n bytes) size ∙ sym (ap (λ x. first_sectors x count erased) is)

-- a card with one partition only
pub alone : (n : ℕ) (v : Sector)
    → split (n ∷ 0 ∷ 0 ∷ 0 ∷ 0 ∷ 0 ∷ 0 ∷ []) (replicate n v) ≡ replicate n v ∷ [] ∷ [] ∷ [] ∷ [] ∷ [] ∷ [] ∷ []
alone n v = ap (λ xs. xs ∷ [] ∷ [] ∷ [] ∷ [] ∷ [] ∷ [] ∷ []) (take-replicate n n v (omega arith))

-- Blocks that land.

-- all of them, as far as the sectors go
landed_put : (start : ℕ) (vs xs : List Sector) (s k : ℕ) → s ≡ min start (length xs)
    → k ≡ min (length vs) (length xs - s) → landed_in (λ i. true) start vs xs ≡ put_mid s k xs (take k vs)
landed_put start vs [] s k hs hk =
    let no_place : s ≡ 0 = omega (arith, hs) in
    let none : k ≡ 0 = omega (arith, hk) in
    rw (none, no_place) refl
landed_put zero [] (x ∷ xs) s k hs hk =
    let no_place : s ≡ 0 = omega (arith, hs) in
    let none : k ≡ 0 = omega (arith, hk) in
    rw (none, no_place) refl
landed_put zero (v ∷ vs) (x ∷ xs) s k hs hk =
    let no_place : s ≡ 0 = omega (arith, hs) in
    let more : k ≡ suc (min (length vs) (length xs)) = omega (arith, hk, no_place) in
    rw (more, no_place) (ap (λ ys. v ∷ ys)
    (landed_put zero vs xs 0 (min (length vs) (length xs)) (omega arith) (omega arith)))
landed_put (suc start) vs (x ∷ xs) s k hs hk =
    let next : s ≡ suc (min start (length xs)) = omega (arith, hs) in
    rw next (ap (λ ys. x ∷ ys)
    (landed_put start vs xs (min start (length xs)) k refl (omega (arith, hk, next))))

-- all that is unfinished lands in a partition
pub split_land : (sizes : List ℕ) (xs vs : List Sector) (p start count s k at : ℕ) → p < length sizes
    → total sizes ≡ length xs → count ≤ length vs → s ≡ min start (length (slice_index_or (split sizes xs) p []))
    → k ≡ min count (length (slice_index_or (split sizes xs) p []) - s) → at ≡ total (take p sizes) + s
    → split sizes (put_mid at k xs (take k vs))
    ≡ slice_set (split sizes xs) p
    (landed_in (λ i. true) start (take count vs) (slice_index_or (split sizes xs) p []))
split_land sizes xs vs p start count s k at h all room hs hk e =
    let part = slice_index_or (split sizes xs) p [] in
    let size = split_part_length sizes xs p h all in
    let fewer : k ≤ count = omega (arith, hk) in
    let fits : s + k ≤ slice_index_or sizes p 0 = omega (arith, hs, hk, size) in
    let len : length (take k vs) ≡ k = length-take-le k vs (omega (arith, fewer, room)) in
    let values = length-take-le count vs room in
    let landing : k ≡ min (length (take count vs)) (length part - s) = omega (arith, hk, values) in
    split_put sizes xs (take k vs) p s k at h (omega (arith, all)) fits len e
    ∙ ap (slice_set (split sizes xs) p)
    (sym (landed_put start (take count vs) part s k hs landing ∙ ap (put_mid s k part) (take-take k count vs fewer)))

-- the first values of an erase and of the blocks after it
take_values : (n k e j : ℕ) (v : Sector) (blocks : List Sector) → e ≡ min n k → j ≡ k - e
    → take k (replicate n v ++ blocks) ≡ replicate e v ++ take j blocks
take_values zero k e j v blocks he hj =
    let none : e ≡ 0 = omega (arith, he) in
    let all : j ≡ k = omega (arith, hj, none) in
    rw (none, all) refl
take_values (suc n) zero e j v blocks he hj =
    let none : e ≡ 0 = omega (arith, he) in
    let no_more : j ≡ 0 = omega (arith, hj) in
    rw (none, no_more) refl
take_values (suc n) (suc k) e j v blocks he hj =
    let one : e ≡ suc (min n k) = omega (arith, he) in
    rw one (ap (λ xs. v ∷ xs) (take_values n k (min n k) j v blocks refl (omega (arith, hj, one))))

-- values after others are one change
with_two : (xs ys zs : List Sector) (at e : ℕ) → length ys ≡ e → at + e + length zs ≤ length xs
    → with_values (with_values xs at ys) (at + e) zs ≡ with_values xs at (ys ++ zs)
with_two xs ys zs at e len within =
    let front : List Sector = take at xs in
    let back : List Sector = drop (at + length ys) xs in
    let start : length front ≡ at = length-take-le at xs (omega (arith, within)) in
    let end : length (front ++ ys) ≡ at + e = omega (arith, length-append front ys, start, len) in
    let sum : at + e + length zs ≡ length (front ++ ys) + length zs = omega (arith, end) in
    let all : at + length ys + length zs ≡ at + length (ys ++ zs) = omega (arith, length-append ys zs) in
    let tail : drop (at + e + length zs) ((front ++ ys) ++ back) ≡ drop (at + length (ys ++ zs)) xs =
    ap (λ n. drop n ((front ++ ys) ++ back)) sum ∙ drop-append-add (front ++ ys) back (length zs)
    ∙ drop-drop (length zs) (at + length ys) xs ∙ ap (λ n. drop n xs) all in
    ap (λ ws. with_values ws (at + e) zs) (sym (append_assoc front ys back))
    ∙ ap₂ (λ us ws. us ++ (zs ++ ws)) (take_at (front ++ ys) back (at + e) end) tail
    ∙ append_assoc front ys (zs ++ drop (at + length (ys ++ zs)) xs)
    ∙ ap (λ ws. front ++ ws) (sym (append_assoc ys zs (drop (at + length (ys ++ zs)) xs)))

with_is_put : (at k : ℕ) (xs ys : List Sector) → length ys ≡ k → with_values xs at ys ≡ put_mid at k xs ys
with_is_put at k xs ys len =
    ap (λ zs. take at xs ++ (ys ++ zs)) (ap (λ n. drop (at + n) xs) len ∙ sym (drop-drop k at xs))

-- an erase and the blocks after it land in a partition
pub split_values : (sizes : List ℕ) (xs blocks : List Sector) (v : Sector) (n p start s k e at : ℕ) → p < length sizes
    → total sizes ≡ length xs → s ≡ min start (length (slice_index_or (split sizes xs) p []))
    → k ≡ min (length (replicate n v ++ blocks)) (length (slice_index_or (split sizes xs) p []) - s)
    → e ≡ min n k → at ≡ total (take p sizes) + s
    → split sizes (with_values (with_values xs at (replicate e v)) (at + e) (take (k - e) blocks))
    ≡ slice_set (split sizes xs) p
    (landed_in (λ i. true) start (replicate n v ++ blocks) (slice_index_or (split sizes xs) p []))
split_values sizes xs blocks v n p start s k e at h all hs hk he hat =
    let values : List Sector = replicate n v ++ blocks in
    let size = split_part_length sizes xs p h all in
    let place = place_within sizes p in
    let some : k ≤ length values = omega (arith, hk) in
    let len : length (take k values) ≡ k = length-take-le k values some in
    let new : replicate e v ++ take (k - e) blocks ≡ take k values = sym (take_values n k e (k - e) v blocks he refl) in
    let first : length (replicate e v) ≡ e = length-replicate e v in
    let both : e + length (take (k - e) blocks) ≡ k =
    omega (arith, length-append (replicate e v) (take (k - e) blocks), first, ap length new, len) in
    let within : at + e + length (take (k - e) blocks) ≤ length xs =
    omega (arith, both, hat, hs, hk, size, place, all) in
    ap (split sizes) (with_two xs (replicate e v) (take (k - e) blocks) at e first within
    ∙ ap (with_values xs at) new ∙ with_is_put at k xs (take k values) len)
    ∙ split_land sizes xs values p start (length values) s k at h all (omega arith) hs hk hat
    ∙ ap (λ vs. slice_set (split sizes xs) p (landed_in (λ i. true) start vs (slice_index_or (split sizes xs) p [])))
    (take-length values)

-- where nothing lands every sector stays
pub none_lands : (start : ℕ) (values xs : List Sector) → landed_in (λ i. false) start values xs ≡ xs
none_lands start values [] = refl
none_lands zero [] (x ∷ xs) = refl
none_lands zero (v ∷ values) (x ∷ xs) = ap (λ ys. x ∷ ys) (none_lands zero values xs)
none_lands (suc start) values (x ∷ xs) = ap (λ ys. x ∷ ys) (none_lands start values xs)
