-- Planning faults one by one.
use Rattle.std.proofs.Common.{◌≡◌, ◌∙◌, ◌+◌, ◌-◌, ◌^◌, ◌<◌, ◌≤◌, ◌⊎◌, ℕ, List, [], ◌∷◌, Bool, false, true, Some, None, Ok, Err, Result}
use Rattle.std.proofs.Common.{length, suc, zero, arith, ap, cond, refl, sym, subst, inl, inr}
use Rattle.std.specs.Prelude.{◌==◌, IfErr, IsOk, Option, if◌then◌else◌, map, slice_index_or}
use Rattle.std.specs.List.{AllByRecursion, IsDistinct}
use Rattle.std.proofs.lemmas.Bool.{eq-eqb, lt-leb}
use Rattle.std.proofs.lemmas.Bool.Decides.{nat_tests}
use Rattle.mmc_card_sim.specs.declared.fault.Fault.{Fault}
use Rattle.mmc_card_sim.specs.Plan.{fault_at, is_full, is_past, refusal_of}
use Rattle.mmc_card_sim.specs.SimView.{SimView}
use Rattle.mmc_card_sim.specs.declared.plan.PlanFault.{PlanFault}
use Rattle.mmc_card_sim.specs.declared.plan.PlanFault.TheVariants.{InThePast, PlanFull}
use Rattle.mmc_card_sim.specs.declared.plan.Planned.{Planned}
use Rattle.mmc_card_sim.specs.declared.plan.TheConstants.{MAX_PLANNED}
use Rattle.card_text.specs.Planning.{CanBePlanned, PlannedFault}

each_apart : (e : ℕ) (xs : List PlannedFault) (i : ℕ) (d : PlannedFault)
    → AllByRecursion (λ y. (e == y) ≡ false) (map (λ p. p.0) xs) → i < length xs
    → (e == (slice_index_or xs i d).0) ≡ false
each_apart e [] i d apart less = absurd (omega (arith, less))
each_apart e (x ∷ xs) zero d apart less = apart.0
each_apart e (x ∷ xs) (suc i) d apart less = each_apart e xs i d apart.1 (omega (arith, less))

-- two of them are for different exchanges
pub two_apart : (xs : List PlannedFault) (k i : ℕ) (d : PlannedFault)
    → IsDistinct (λ e e'. e == e') (map (λ p. p.0) xs) → k < i → i < length xs
    → ((slice_index_or xs k d).0 == (slice_index_or xs i d).0) ≡ false
unfolding IsDistinct
two_apart [] k i d distinct before less = absurd (omega (arith, less))
two_apart (x ∷ xs) k zero d distinct before less = absurd (omega (arith, before))
two_apart (x ∷ xs) zero (suc i) d distinct before less = each_apart x.0 xs i d distinct.0 (omega (arith, less))
two_apart (x ∷ xs) (suc k) (suc i) d distinct before less =
    two_apart xs k i d distinct.1 (omega (arith, before)) (omega (arith, less))

-- A card in memory that has made no exchange refuses no fault while it has room.

early_is_taken : (full past : Bool) → full ≡ false → past ≡ false
    → cond full (Some PlanFull) (cond past (Some InThePast) None) ≡ None
early_is_taken true past h h' = absurd cc
early_is_taken false true h h' = absurd cc
early_is_taken false false h h' = refl

has_room : (xs : List Planned) (found : Option Fault) → length xs < MAX_PLANNED → is_full xs found ≡ false
has_room xs None room = lt-leb MAX_PLANNED (length xs) room
has_room xs (Some fault) room = refl

not_past : (exchange made : ℕ) → made ≡ 0 → exchange < 2 ^ 64 - 1 → is_past exchange made ≡ false
not_past exchange made none early = grind (arith, nat_tests, none, early)

taken : (xs : List Planned) (exchange made : ℕ) → length xs < MAX_PLANNED → made ≡ 0 → exchange < 2 ^ 64 - 1
    → refusal_of xs exchange made ≡ None
taken xs exchange made room none early =
    early_is_taken (is_full xs (fault_at xs exchange)) (is_past exchange made) (has_room xs (fault_at xs exchange) room)
    (not_past exchange made none early)

-- the first `i` of these faults are planned, and no more
pub record PlannedSoFar (start : SimView) (plan : List PlannedFault) (i : ℕ) (now : SimView) : Type 0 where
  pub planned : (k : ℕ) (d : PlannedFault) → k < i
      → fault_at now.plan (slice_index_or plan k d).0 ≡ Some (slice_index_or plan k d).1
  pub few : length now.plan ≤ i
  pub stays : now ≡ record start { plan = now.plan }

pub planned_none : (start : SimView) (plan : List PlannedFault) → start.plan ≡ [] → PlannedSoFar start plan 0 start
planned_none start plan none = record {
  planned = λ k d less. absurd (omega (arith, less));
  few = omega (arith, ap length none);
  stays = refl;
}

-- what planning one more does
pub record Plans (p : PlannedFault) (old : SimView) (result : Result Unit PlanFault) (new : SimView) : Type 0 where
  pub refused : IfErr result (λ why. refusal_of old.plan p.0 old.wire.exchanges ≡ Some why)
  pub replaced : IsOk result → (e : ℕ) → fault_at new.plan e ≡ (if p.0 == e then Some p.1 else fault_at old.plan e)
  pub grows : length new.plan ≤ length old.plan + 1
  pub stays : new ≡ record old { plan = new.plan }

is_taken : (why : Option PlanFault) (result : Result Unit PlanFault) → why ≡ None
    → IfErr result (λ fault. why ≡ Some fault) → IsOk result
is_taken why (Ok done) none refused = refl
is_taken why (Err fault) none refused = absurd (cc (none, refused))

by_true : {X : Type 0} (b : Bool) (x y : X) → b ≡ true → cond b x y ≡ x
by_true true x y h = refl
by_true false x y h = absurd cc

by_false : {X : Type 0} (b : Bool) (x y : X) → b ≡ false → cond b x y ≡ y
by_false true x y h = absurd cc
by_false false x y h = refl

other_way : (a b : ℕ) → (a == b) ≡ false → (b == a) ≡ false
other_way a b apart = grind (arith, nat_tests, apart)

-- an earlier one, or this one
by_place : (plan : List PlannedFault) (i k : ℕ) (d : PlannedFault) (new : SimView) (old : SimView)
    → IsDistinct (λ e e'. e == e') (map (λ p. p.0) plan) → i < length plan → (k < i) ⊎ (k ≡ i)
    → ((e : ℕ) → fault_at new.plan e ≡ cond ((slice_index_or plan i d).0 == e) (Some (slice_index_or plan i d).1) (fault_at old.plan e))
    → ((k : ℕ) (d : PlannedFault) → k < i → fault_at old.plan (slice_index_or plan k d).0 ≡ Some (slice_index_or plan k d).1)
    → fault_at new.plan (slice_index_or plan k d).0 ≡ Some (slice_index_or plan k d).1
by_place plan i k d new old distinct here (inl less) replaced before =
    let one = slice_index_or plan k d in
    let this = slice_index_or plan i d in
    replaced one.0
    ∙ by_false (this.0 == one.0) (Some this.1) (fault_at old.plan one.0)
    (other_way one.0 this.0 (two_apart plan k i d distinct less here))
    ∙ before k d less
by_place plan i k d new old distinct here (inr same) replaced before =
    let this = slice_index_or plan i d in
    subst (λ j. fault_at new.plan (slice_index_or plan j d).0 ≡ Some (slice_index_or plan j d).1) (sym same)
    (replaced this.0 ∙ by_true (this.0 == this.0) (Some this.1) (fault_at old.plan this.0) (eq-eqb this.0 this.0 refl))

below_next : (k i : ℕ) → k < i + 1 → (k < i) ⊎ (k ≡ i)
below_next k i less = grind (arith, less)

-- the default of an index that is in range says nothing
any_default : (xs : List PlannedFault) (i : ℕ) (d e : PlannedFault) → i < length xs
    → slice_index_or xs i d ≡ slice_index_or xs i e
any_default [] i d e less = absurd (omega (arith, less))
any_default (x ∷ xs) zero d e less = refl
any_default (x ∷ xs) (suc i) d e less = any_default xs i d e (omega (arith, less))

module _ (start : SimView) (plan : List PlannedFault) (i : ℕ) (now new : SimView) (result : Result Unit PlanFault)
    (can : CanBePlanned plan) (unused : start.wire.exchanges ≡ 0) (here : i < length plan)
    (before : PlannedSoFar start plan i now)
    (default : PlannedFault) (plans_one : Plans (slice_index_or plan i default) now result new) where
  plans : (d : PlannedFault) → Plans (slice_index_or plan i d) now result new
  plans d = subst (λ p. Plans p now result new) (any_default plan i default d here) plans_one

  pub planned_more : PlannedSoFar start plan (i + 1) new
  planned_more = record {
    planned = λ k d less.
        by_place plan i k d new now can.different here (below_next k i less)
        ((plans d).replaced (is_taken _ result (taken now.plan (slice_index_or plan i d).0 now.wire.exchanges
        (omega (arith, before.few, here, can.few)) (ap (λ s. s.wire.exchanges) before.stays ∙ unused)
        (can.early i d here)) (plans d).refused)) before.planned;
    few = omega (arith, before.few, plans_one.grows);
    stays = plans_one.stays ∙ ap (λ (s : SimView). record s { plan = new.plan }) before.stays;
  }
