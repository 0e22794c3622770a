-- The order of entries by ticket.
use Rattle.std.proofs.Common.{◌++◌, ◌+◌, ◌<◌, ◌∷◌, ◌≡◌, ◌≤◌, List, Some, [], ap, arith, drop, false, length, refl, subst, suc}
use Rattle.std.proofs.Common.{take, true, zero, ℕ}
use Rattle.std.specs.Prelude.{◌==◌, nat_lt, slice_index_or}
use Rattle.std.specs.List.{AllByRecursion}
use Rattle.std.specs.List.Sorted.{IsStrictlySortedBy}
use Rattle.std.specs.Map.{keys_of, values_of}
use Rattle.std.specs.Ordering.{nat_cmp}
use Rattle.std.specs.declared.cmp.Ordering.TheVariants.{Less}
use Rattle.std.proofs.lemmas.Bool.Decides.{nat_tests}
use Rattle.mmc_queue.specs.Mirror.{AreKeyed}
use Rattle.mmc_queue.specs.Rule.{with_member}
use Rattle.mmc_queue.specs.Waiting.{AreBelow, Ascend, at_ticket}
use Rattle.mmc_queue.specs.declared.entry.Entry.{Entry}

less_is : (a b : ℕ) → nat_cmp a b ≡ Less → a < b
less_is a b h = grind (arith, nat_tests)

ascend_rest : (es : List (ℕ × Entry)) (low : ℕ) → AreKeyed es → AllByRecursion (λ k. nat_cmp low k ≡ Less) (keys_of es)
    → IsStrictlySortedBy nat_cmp (keys_of es)
    → Ascend (low + 1) (values_of es)
unfolding IsStrictlySortedBy
ascend_rest [] low keyed above sorted = tt
ascend_rest (e ∷ es) low keyed above sorted =
    let less = less_is low e.0 above.0 in (
      omega (arith, less, keyed.0),
      subst (λ k. Ascend (k + 1) (values_of es)) keyed.0 (ascend_rest es e.0 keyed.2 sorted.0 sorted.1),
    )

pub ascend_from : (es : List (ℕ × Entry)) → AreKeyed es → IsStrictlySortedBy nat_cmp (keys_of es) → Ascend 0 (values_of es)
unfolding IsStrictlySortedBy
ascend_from [] keyed sorted = tt
ascend_from (e ∷ es) keyed sorted = (
  omega arith,
  subst (λ k. Ascend (k + 1) (values_of es)) keyed.0 (ascend_rest es e.0 keyed.2 sorted.0 sorted.1),
)

pub ascend_after : (low : ℕ) (before : List Entry) (e : Entry) (after : List Entry) → Ascend low (before ++ e ∷ after)
    → low ≤ e.ticket
ascend_after low [] e after up = up.0
ascend_after low (b ∷ before) e after up =
    let h = ascend_after (b.ticket + 1) before e after up.1 in let g = up.0 in omega (arith, h, g)

-- each is found under its ticket
pub at_own_ticket : (low : ℕ) (before : List Entry) (e : Entry) (after : List Entry) → Ascend low (before ++ e ∷ after)
    → at_ticket e.ticket (before ++ e ∷ after) ≡ Some e
at_own_ticket low [] e after up = let yes : (e.ticket == e.ticket) ≡ true = grind (arith, nat_tests) in rw yes refl
at_own_ticket low (b ∷ before) e after up =
    let h = ascend_after (b.ticket + 1) before e after up.1 in
    let no : (e.ticket == b.ticket) ≡ false = grind (arith, nat_tests) in
    rw no (at_own_ticket (b.ticket + 1) before e after up.1)

-- Where a member goes.

pub goes_before : (ms : List Entry) (k : ℕ) (e d : Entry) → k < length ms → e.ticket < (slice_index_or ms k d).ticket
    → with_member (drop k ms) e ≡ e ∷ drop k ms
goes_before [] k e d below less = absurd (omega (arith, below))
goes_before (m ∷ ms) zero e d below less = let yes : nat_lt e.ticket m.ticket ≡ true = grind (arith, nat_tests, less) in rw yes refl
goes_before (m ∷ ms) (suc k) e d below less = goes_before ms k e d (omega (arith, below)) less

pub goes_after : (ms : List Entry) (k : ℕ) (e d : Entry) → k < length ms → (slice_index_or ms k d).ticket ≤ e.ticket
    → take k ms ++ with_member (drop k ms) e ≡ take (suc k) ms ++ with_member (drop (suc k) ms) e
goes_after [] k e d below less = absurd (omega (arith, below))
goes_after (m ∷ ms) zero e d below less = let no : nat_lt e.ticket m.ticket ≡ false = grind (arith, nat_tests, less) in rw no refl
goes_after (m ∷ ms) (suc k) e d below less = ap (λ xs. m ∷ xs) (goes_after ms k e d (omega (arith, below)) less)

pub below_push : (t : ℕ) (es : List Entry) (e : Entry) → AreBelow t es → e.ticket < t + 1 → AreBelow (t + 1) (es ++ e ∷ [])
below_push t [] e below less = (less, tt)
below_push t (x ∷ es) e below less = let h = below.0 in (omega (arith, h), below_push t es e below.1 less)
