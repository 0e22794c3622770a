-- Sectors in chunks.
use Rattle.std.proofs.Common.{◌*◌, ◌+◌, ◌++◌, ◌-◌, ◌<◌, ◌∙◌, ◌∷◌, ◌≡◌, ◌≤◌, List, [], ap, arith, append_assoc}
use Rattle.std.proofs.Common.{length, refl, suc, sym, zero, ℕ}
use Rattle.std.proofs.lemmas.List.{get_or-append_right, get_or-replicate, get_or_append_left, length-append}
use Rattle.std.proofs.lemmas.List.{length-replicate, length-set, replicate-append-replicate, set-append_left}
use Rattle.std.proofs.lemmas.List.{set-append_right, set-get_or}
use Rattle.std.specs.Prelude.{replicate, slice_index_or, slice_set}
use Rattle.sparse_sectors.specs.Chunks.{AreChunks, filled, joined}

-- One chunk.

-- a sector that is there gets another value
pub filled_set : (blank sector : List ℕ) (front : List (List ℕ)) (i : ℕ) → i < length front
    → filled blank (slice_set front i sector) ≡ slice_set (filled blank front) i sector
filled_set blank sector front i there =
    ap (λ n. slice_set front i sector ++ replicate (2048 - n) blank) (length-set front i sector)
    ∙ sym (set-append_left front (replicate (2048 - length front) blank) i sector there)

set_blank : (blank sector : List ℕ) (m k : ℕ) → k < m
    → slice_set (replicate m blank) k sector ≡ replicate k blank ++ sector ∷ replicate (m - suc k) blank
set_blank blank sector zero k less = absurd (omega (arith, less))
set_blank blank sector (suc m) zero less =
    let rest : m ≡ suc m - suc zero = omega arith in
    ap (λ n. sector ∷ replicate n blank) rest
set_blank blank sector (suc m) (suc k) less =
    let rest : m - suc k ≡ suc m - suc (suc k) = omega arith in
    ap (λ xs. blank ∷ xs) (set_blank blank sector m k (omega (arith, less))
    ∙ ap (λ n. replicate k blank ++ sector ∷ replicate n blank) rest)

-- there are more, by blank ones and this one
pub filled_grown : (blank sector : List ℕ) (front : List (List ℕ)) (i : ℕ) → length front ≤ i → i < 2048
    → filled blank ((front ++ replicate (i - length front) blank) ++ sector ∷ [])
    ≡ slice_set (filled blank front) i sector
filled_grown blank sector front i after small =
    let n = length front in
    let gap : List (List ℕ) = replicate (i - n) blank in
    let more = length-append (front ++ gap) (sector ∷ []) in
    let both = length-append front gap in
    let rest : 2048 - length ((front ++ gap) ++ sector ∷ []) ≡ (2048 - n) - suc (i - n) =
    omega (arith, after, small, more, both, length-replicate (i - n) blank) in
    ap (λ k. ((front ++ gap) ++ sector ∷ []) ++ replicate k blank) rest
    ∙ append_assoc (front ++ gap) (sector ∷ []) (replicate ((2048 - n) - suc (i - n)) blank)
    ∙ append_assoc front gap (sector ∷ replicate ((2048 - n) - suc (i - n)) blank)
    ∙ ap (λ xs. front ++ xs) (sym (set_blank blank sector (2048 - n) (i - n) (omega (arith, after, small))))
    ∙ sym (set-append_right front (replicate (2048 - n) blank) n i sector refl after)

-- more blank ones are there
pub filled_more : (blank : List ℕ) (front : List (List ℕ)) (count : ℕ) → length front ≤ count → count ≤ 2048
    → filled blank (front ++ replicate (count - length front) blank) ≡ filled blank front
filled_more blank front count after few =
    let n = length front in
    let gap : List (List ℕ) = replicate (count - n) blank in
    let rest : 2048 - length (front ++ gap) ≡ 2048 - count =
    omega (arith, after, length-append front gap, length-replicate (count - n) blank) in
    let sum : (count - n) + (2048 - count) ≡ 2048 - n = omega (arith, after, few) in
    ap (λ k. (front ++ gap) ++ replicate k blank) rest ∙ append_assoc front gap (replicate (2048 - count) blank)
    ∙ ap (λ xs. front ++ xs) (replicate-append-replicate (count - n) (2048 - count) blank
    ∙ ap (λ k. replicate k blank) sum)

-- a sector after those that are there stays blank
pub filled_blank : (blank sector : List ℕ) (front : List (List ℕ)) (i : ℕ) → length front ≤ i → i < 2048
    → sector ≡ blank → filled blank front ≡ slice_set (filled blank front) i sector
filled_blank blank sector front i after small same =
    let n = length front in
    let there : slice_index_or (filled blank front) i [] ≡ sector =
    get_or-append_right front (replicate (2048 - n) blank) n i [] refl after
    ∙ get_or-replicate (2048 - n) (i - n) blank [] (omega (arith, after, small)) ∙ sym same in
    sym (ap (slice_set (filled blank front) i) (sym there) ∙ set-get_or (filled blank front) i [])

-- All chunks.

pub length_joined : (chunks : List (List (List ℕ))) → AreChunks chunks
    → length (joined chunks) ≡ 2048 * length chunks
length_joined [] are = refl
length_joined (c ∷ cs) are = omega (arith, length_joined cs are.1, length-append c (joined cs), are.0)

-- a sector of all is one of a chunk
pub joined_at : (chunks : List (List (List ℕ))) (q r : ℕ) → AreChunks chunks → r < 2048
    → slice_index_or (joined chunks) (2048 * q + r) [] ≡ slice_index_or (slice_index_or chunks q []) r []
joined_at [] q r are small = refl
joined_at (c ∷ cs) zero r are small =
    let first : 2048 * zero + r ≡ r = omega arith in
    ap (λ n. slice_index_or (c ++ joined cs) n []) first
    ∙ get_or_append_left c (joined cs) [] r (omega (arith, are.0, small))
joined_at (c ∷ cs) (suc q) r are small =
    let at : 2048 * suc q + r - 2048 ≡ 2048 * q + r = omega arith in
    get_or-append_right c (joined cs) 2048 (2048 * suc q + r) [] are.0 (omega arith)
    ∙ ap (λ n. slice_index_or (joined cs) n []) at ∙ joined_at cs q r are.1 small

pub joined_set : (chunks : List (List (List ℕ))) (q r : ℕ) (sector : List ℕ) → AreChunks chunks → r < 2048
    → joined (slice_set chunks q (slice_set (slice_index_or chunks q []) r sector))
    ≡ slice_set (joined chunks) (2048 * q + r) sector
joined_set [] q r sector are small = refl
joined_set (c ∷ cs) zero r sector are small =
    let first : r ≡ 2048 * zero + r = omega arith in
    sym (set-append_left c (joined cs) r sector (omega (arith, are.0, small)))
    ∙ ap (λ n. slice_set (c ++ joined cs) n sector) first
joined_set (c ∷ cs) (suc q) r sector are small =
    let at : 2048 * suc q + r - 2048 ≡ 2048 * q + r = omega arith in
    ap (λ xs. c ++ xs) (joined_set cs q r sector are.1 small ∙ ap (λ n. slice_set (joined cs) n sector) (sym at))
    ∙ sym (set-append_right c (joined cs) 2048 (2048 * suc q + r) sector are.0 (omega arith))

pub joined_blank : (n : ℕ) (blank : List ℕ)
    → joined (replicate n (replicate 2048 blank)) ≡ replicate (2048 * n) blank
joined_blank zero blank = refl
joined_blank (suc n) blank =
    let sum : 2048 + 2048 * n ≡ 2048 * suc n = omega arith in
    ap (λ xs. replicate 2048 blank ++ xs) (joined_blank n blank)
    ∙ replicate-append-replicate 2048 (2048 * n) blank ∙ ap (λ k. replicate k blank) sum

-- each has its size

pub all_set : (chunks : List (List (List ℕ))) (q : ℕ) (chunk : List (List ℕ)) → AreChunks chunks
    → length chunk ≡ 2048 → AreChunks (slice_set chunks q chunk)
all_set [] q chunk are size = tt
all_set (c ∷ cs) zero chunk are size = (size, are.1)
all_set (c ∷ cs) (suc q) chunk are size = (are.0, all_set cs q chunk are.1 size)

pub chunk_at : (chunks : List (List (List ℕ))) (q : ℕ) → AreChunks chunks → q < length chunks
    → length (slice_index_or chunks q []) ≡ 2048
chunk_at [] q are less = absurd (omega (arith, less))
chunk_at (c ∷ cs) zero are less = are.0
chunk_at (c ∷ cs) (suc q) are less = chunk_at cs q are.1 (omega (arith, less))

pub all_blank : (n : ℕ) (blank : List ℕ) → AreChunks (replicate n (replicate 2048 blank))
all_blank zero blank = tt
all_blank (suc n) blank = (length-replicate 2048 blank, all_blank n blank)
