-- When requests conflict.
use Rattle.std.proofs.Common.{◌&&◌, ◌+◌, ◌<◌, ◌∙◌, ◌≡◌, ◌⊎◌, ◌↔◌, Bool, ap, arith, false, inl, inr, not, refl, sym}
use Rattle.std.proofs.Common.{true, ℕ}
use Rattle.std.specs.Prelude.{◌==◌, nat_lt}
use Rattle.std.proofs.Math.Bool.{and_comm}
use Rattle.std.proofs.lemmas.Bool.{and_cases, and_from, and_left, and_parts, and_right, cases_lt, not-true}
use Rattle.std.proofs.lemmas.Bool.{not_from_false}
use Rattle.std.proofs.lemmas.Bool.Decides.{nat_tests}
use Rattle.mmc_card.specs.declared.part.Part.{Part}
use Rattle.mmc_card.specs.Sectors.{part_number}
use Rattle.mmc_card.proofs.SectorLemmas.{same_part}
use Rattle.mmc_queue.specs.declared.request.Request.{Request}
use Rattle.mmc_queue.specs.Requests.{Names, ShareSector, conflicts, count_of, end_of, is_read, overlap, part_of, start_of}

-- Either way.

equal_either_way : (a b : ℕ) → (a == b) ≡ (b == a)
equal_either_way a b = grind (arith, nat_tests)

tests_either_way : (p q : ℕ) (a b c d e f : Bool)
    → (((p == q) && (a && b) && (c && d)) && not (e && f)) ≡ (((q == p) && (b && a) && (d && c)) && not (f && e))
tests_either_way p q a b c d e f = rw (equal_either_way p q, and_comm a b, and_comm c d, and_comm e f) refl

pub conflict_either_way : (a b : Request) → conflicts a b ≡ conflicts b a
conflict_either_way a b =
    tests_either_way (part_number (part_of a)) (part_number (part_of b)) (nat_lt 0 (count_of a)) (nat_lt 0 (count_of b))
    (nat_lt (start_of a) (end_of b)) (nat_lt (start_of b) (end_of a)) (is_read a)
    (is_read b)

-- A common sector.

they_overlap : (p q s m t n : ℕ) → p ≡ q → 0 < m → 0 < n → s < t + n → t < s + m
    → ((p == q) && (nat_lt 0 m && nat_lt 0 n) && (nat_lt s (t + n) && nat_lt t (s + m))) ≡ true
they_overlap p q s m t n same some more before after = grind (arith, nat_tests)

by_overlap : (p q s m t n : ℕ) → ((p == q) && (nat_lt 0 m && nat_lt 0 n) && (nat_lt s (t + n) && nat_lt t (s + m)))
    ≡ true
    → (p ≡ q) × (0 < m) × (0 < n) × (s < t + n) × (t < s + m)
by_overlap p q s m t n h = (
  grind (arith, nat_tests),
  grind (arith, nat_tests),
  grind (arith, nat_tests),
  grind (arith, nat_tests),
  grind (arith, nat_tests),
)

not_both : (r s : Bool) → (r ≡ false) ⊎ (s ≡ false) → not (r && s) ≡ true
not_both r s (inl e) = not_from_false (r && s) (and_left r s e)
not_both r s (inr e) = not_from_false (r && s) (and_right r s e)

pub conflict_at : (a b : Request) (part : Part) (sector : ℕ) → Names a part sector → Names b part sector
    → (is_read a ≡ false) ⊎ (is_read b ≡ false)
    → conflicts a b ≡ true
conflict_at a b part sector m n w =
    and_from (overlap a b) (not (is_read a && is_read b))
    (they_overlap (part_number (part_of a)) (part_number (part_of b)) (start_of a) (count_of a) (start_of b)
    (count_of b)
    (ap part_number (m.part_is ∙ sym n.part_is)) (omega (arith, m.from, m.to)) (omega (arith, n.from, n.to))
    (omega (arith, m.from, n.to)) (omega (arith, n.from, m.to)))
    (not_both (is_read a) (is_read b) w)

-- the later of the two starts lies in both
overlap_shares : (a b : Request) → overlap a b ≡ true → ShareSector a b
overlap_shares a b h =
    let o = by_overlap (part_number (part_of a)) (part_number (part_of b)) (start_of a) (count_of a) (start_of b)
    (count_of b) h in
    let same = same_part (part_of a) (part_of b) o.0 in
    elim (cases_lt (start_of a) (start_of b)) [
      | inl l ↦ (
        part_of b,
        start_of b,
        record { part_is = same; from = omega (arith, l); to = o.4 },
        record { part_is = refl; from = omega arith; to = omega (arith, o.2) },
      )
      | inr l ↦ (
        part_of a,
        start_of a,
        record { part_is = refl; from = omega arith; to = omega (arith, o.1) },
        record { part_is = sym same; from = l; to = o.3 },
      )
    ]

pub conflict_is_common_sector : (a b : Request)
    → (conflicts a b ≡ true) ↔ (ShareSector a b × ((is_read a ≡ false) ⊎ (is_read b ≡ false)))
conflict_is_common_sector a b = (
  (λ h. (let k = and_parts (overlap a b) (not (is_read a && is_read b)) h in
      (overlap_shares a b k.0, and_cases (is_read a) (is_read b) (not-true (is_read a && is_read b) k.1)))),
  (λ h. conflict_at a b h.0.0 h.0.1 h.0.2 h.0.3 h.1),
)
