-- Tickets that ascend.
use Rattle.std.proofs.Common.{◌++◌, ◌+◌, ◌<◌, ◌≤◌, ◌∷◌, List, [], arith, ℕ}
use Rattle.std.specs.List.{AllByRecursion}
use Rattle.mmc_slots.specs.Slots.{AscendWithin}

pub from_lower : (low high next : ℕ) (ts : List ℕ) → low ≤ high → AscendWithin high next ts → AscendWithin low next ts
from_lower low high next [] h up = omega (arith, h, up)
from_lower low high next (t ∷ ts) h up = let g = up.0 in (omega (arith, g, h), up.1)

-- one less
pub without_one : (low next : ℕ) (xs : List ℕ) (t : ℕ) (ys : List ℕ) → AscendWithin low next (xs ++ t ∷ ys)
    → AscendWithin low next (xs ++ ys)
without_one low next [] t ys up = let g = up.0 in from_lower low (t + 1) next ys (omega (arith, g)) up.1
without_one low next (x ∷ xs) t ys up = (up.0, without_one (x + 1) next xs t ys up.1)

-- the next one comes last
pub with_next : (low next : ℕ) (ts : List ℕ) → AscendWithin low next ts → AscendWithin low (next + 1) (ts ++ next ∷ [])
with_next low next [] up = (up, omega arith)
with_next low next (t ∷ ts) up = (up.0, with_next (t + 1) next ts up.1)

from_lowest : (low next : ℕ) (xs : List ℕ) (t : ℕ) (ys : List ℕ) → AscendWithin low next (xs ++ t ∷ ys) → low ≤ t
from_lowest low next [] t ys up = up.0
from_lowest low next (x ∷ xs) t ys up =
    let g = up.0 in let h = from_lowest (x + 1) next xs t ys up.1 in omega (arith, g, h)

-- those before one are below it
pub before_one : (low next : ℕ) (xs : List ℕ) (t : ℕ) (ys : List ℕ) → AscendWithin low next (xs ++ t ∷ ys)
    → AllByRecursion (λ u. u < t) xs
before_one low next [] t ys up = tt
before_one low next (x ∷ xs) t ys up =
    let h = from_lowest (x + 1) next xs t ys up.1 in (omega (arith, h), before_one (x + 1) next xs t ys up.1)

all_above : (t low next : ℕ) (ts : List ℕ) → t < low → AscendWithin low next ts → AllByRecursion (λ u. t < u) ts
all_above t low next [] h up = tt
all_above t low next (x ∷ xs) h up =
    let g = up.0 in (omega (arith, g, h), all_above t (x + 1) next xs (omega (arith, g, h)) up.1)

-- those after it are above it
pub after_one : (low next : ℕ) (xs : List ℕ) (t : ℕ) (ys : List ℕ) → AscendWithin low next (xs ++ t ∷ ys)
    → AllByRecursion (λ u. t < u) ys
after_one low next [] t ys up = all_above t (t + 1) next ys (omega arith) up.1
after_one low next (x ∷ xs) t ys up = after_one (x + 1) next xs t ys up.1
