-- Looking a fault up in a plan, and planning one.
use Rattle.std.proofs.Common.{◌++◌, ◌<◌, ◌∷◌, ◌∙◌, ◌≡◌, ◌≤◌, ◌+◌, Bool, List, None, Some, [], ap, arith, cond, false}
use Rattle.std.proofs.Common.{length}
use Rattle.std.proofs.Common.{refl, suc, sym, take, true, zero, ℕ}
use Rattle.std.specs.Prelude.{◌-◌, ◌==◌, ◌^◌, ◌||◌, Err, IsOk, Ok, OnErr, Option, Result, if◌then◌else◌, min, nat_le}
use Rattle.std.specs.Prelude.{filter, nat_lt, slice_index_or, slice_set}
use Rattle.std.proofs.lemmas.Bool.{eq-eqb, eqb-true}
use Rattle.std.proofs.lemmas.Bool.Decides.{nat_tests}
use Rattle.mmc_card_sim.specs.declared.fault.Fault.{Fault}
use Rattle.mmc_card_sim.specs.declared.plan.Planned.{Planned}
use Rattle.mmc_card_sim.specs.Plan.{fault_at, is_full, refusal_of, to_come}
use Rattle.mmc_card_sim.specs.declared.plan.PlanFault.{PlanFault}
use Rattle.mmc_card_sim.specs.declared.plan.PlanFault.TheVariants.{InThePast, PlanFull}

-- where nothing is planned for an exchange at the front or after it
not_here : (b : Bool) (f : Fault) (rest : Option Fault) → cond b (Some f) rest ≡ None → (b ≡ false) × (rest ≡ None)
not_here true f rest h = absurd cc
not_here false f rest h = (refl, h)

by_false : {X : Type 0} (b : Bool) (x y : X) → b ≡ false → cond b x y ≡ y
by_false true x y h = absurd cc
by_false false x y h = refl

-- the first entry for an exchange is the one that counts
pub found : (xs : List Planned) (i : ℕ) (d : Planned) (e : ℕ) → i < length xs → fault_at (take i xs) e ≡ None
    → (slice_index_or xs i d).exchange ≡ e → fault_at xs e ≡ Some (slice_index_or xs i d).fault
found [] i d e less none same = absurd (omega (arith, less))
found (x ∷ xs) zero d e less none same =
    ap (λ b. cond b (Some x.fault) (fault_at xs e)) (eq-eqb x.exchange e same)
found (x ∷ xs) (suc i) d e less none same =
    let apart = not_here (x.exchange == e) x.fault (fault_at (take i xs) e) none in
    by_false (x.exchange == e) (Some x.fault) (fault_at xs e) apart.0
    ∙ found xs i d e (omega (arith, less)) apart.1 same

-- one entry more that is for another exchange
pub none_more : (xs : List Planned) (p : Planned) (e : ℕ) → fault_at xs e ≡ None → (p.exchange == e) ≡ false
    → fault_at (xs ++ p ∷ []) e ≡ None
none_more [] p e none other = by_false (p.exchange == e) (Some p.fault) None other
none_more (x ∷ xs) p e none other =
    let apart = not_here (x.exchange == e) x.fault (fault_at xs e) none in
    by_false (x.exchange == e) (Some x.fault) (fault_at (xs ++ p ∷ []) e) apart.0 ∙ none_more xs p e apart.1 other

either_way : (b c : Bool) (f g : Fault) (rest : Option Fault) → (b ≡ true → c ≡ true → ⊥)
    → cond b (Some f) (cond c (Some g) rest) ≡ cond c (Some g) (cond b (Some f) rest)
either_way true true f g rest never = absurd (never refl refl)
either_way true false f g rest never = refl
either_way false c f g rest never = refl

-- two entries aren't for one exchange
apart_from : (e a b : ℕ) → (a == b) ≡ false → (a == e) ≡ true → (b == e) ≡ true → ⊥
apart_from e a b apart is_a is_b =
    let same : a ≡ b = eqb-true a e is_a ∙ sym (eqb-true b e is_b) in
    cc (eq-eqb a b same, apart)

-- an entry for a new exchange
pub added : (xs : List Planned) (p : Planned) (e : ℕ) → fault_at xs p.exchange ≡ None
    → fault_at (xs ++ p ∷ []) e ≡ cond (p.exchange == e) (Some p.fault) (fault_at xs e)
added [] p e none = refl
added (x ∷ xs) p e none =
    let apart = not_here (x.exchange == p.exchange) x.fault (fault_at xs p.exchange) none in
    ap (λ rest. cond (x.exchange == e) (Some x.fault) rest) (added xs p e apart.1)
    ∙ either_way (x.exchange == e) (p.exchange == e) x.fault p.fault (fault_at xs e)
    (apart_from e x.exchange p.exchange apart.0)

same_test : (b : Bool) (f g : Fault) (rest : Option Fault) → cond b (Some f) rest
    ≡ cond b (Some f) (cond b (Some g) rest)
same_test true f g rest = refl
same_test false f g rest = refl

-- an entry in the place of the one for the same exchange
pub replaced : (xs : List Planned) (i : ℕ) (d p : Planned) (e : ℕ) → i < length xs → fault_at (take i xs) p.exchange
    ≡ None
    → (slice_index_or xs i d).exchange ≡ p.exchange
    → fault_at (slice_set xs i p) e ≡ cond (p.exchange == e) (Some p.fault) (fault_at xs e)
replaced [] i d p e less none same = absurd (omega (arith, less))
replaced (x ∷ xs) zero d p e less none same =
    same_test (p.exchange == e) p.fault x.fault (fault_at xs e)
    ∙ ap (λ n. cond (p.exchange == e) (Some p.fault) (cond (n == e) (Some x.fault) (fault_at xs e))) (sym same)
replaced (x ∷ xs) (suc i) d p e less none same =
    let apart = not_here (x.exchange == p.exchange) x.fault (fault_at (take i xs) p.exchange) none in
    ap (λ rest. cond (x.exchange == e) (Some x.fault) rest) (replaced xs i d p e (omega (arith, less)) apart.1 same)
    ∙ either_way (x.exchange == e) (p.exchange == e) x.fault p.fault (fault_at xs e)
    (apart_from e x.exchange p.exchange apart.0)

-- Nothing is planned for the number at which the count of exchanges stays, whatever is planned besides.

not_full : (full past late : Bool)
    → (if full then Some PlanFull else if past || late then Some InThePast else None) ≡ None
    → late ≡ false
not_full true past late h = absurd cc
not_full false true late h = absurd cc
not_full false false true h = absurd cc
not_full false false false h = refl

pub never_planned : (was now : List Planned) (exchange made : ℕ) (fault : Fault) (result : Result Unit PlanFault)
    → (OnErr result (now ≡ was)) → (IsOk result → refusal_of was exchange made ≡ None)
    → (IsOk result → (e : ℕ) → fault_at now e ≡ (if exchange == e then Some fault else fault_at was e))
    → fault_at was (2 ^ 64 - 1) ≡ None → fault_at now (2 ^ 64 - 1) ≡ None
never_planned was now exchange made fault (Ok done) same planned replaced never =
    let late = not_full (is_full was (fault_at was exchange)) (nat_lt exchange made) (exchange == 2 ^ 64 - 1)
    (planned refl) in
    replaced refl (2 ^ 64 - 1)
    ∙ by_false (exchange == 2 ^ 64 - 1) (Some fault) (fault_at was (2 ^ 64 - 1)) late ∙ never
never_planned was now exchange made fault (Err why) same planned replaced never =
    ap (λ plan. fault_at plan (2 ^ 64 - 1)) same ∙ never

-- Exchanges that are still to come.

is_later : (exchange made later : ℕ) → made ≤ later
    → (if nat_le later exchange then 1 else 0) ≤ (if nat_le made exchange then 1 else 0)
is_later exchange made later more = grind (arith, nat_tests, more)

-- no more of them are to come later
fewer_later : (plan : List Planned) (made later : ℕ) → made ≤ later → to_come plan later ≤ to_come plan made
fewer_later [] made later more = omega arith
fewer_later (p ∷ plan) made later more =
    omega (arith, is_later p.exchange made later more, fewer_later plan made later more)

is_now : (exchange made : ℕ) → exchange ≡ made
    → (if nat_le (made + 1) exchange then 1 else 0) + 1 ≤ (if nat_le made exchange then 1 else 0)
is_now exchange made same = grind (arith, nat_tests, same)

by_first : (b : Bool) (p : Planned) (plan : List Planned) (made : ℕ) (fault : Fault) → (p.exchange == made) ≡ b
    → cond b (Some p.fault) (fault_at plan made) ≡ Some fault
    → (fault_at plan made ≡ Some fault → to_come plan (made + 1) + 1 ≤ to_come plan made)
    → to_come (p ∷ plan) (made + 1) + 1 ≤ to_come (p ∷ plan) made
by_first true p plan made fault here found between =
    omega (
      arith,
      is_now p.exchange made (eqb-true p.exchange made here),
      fewer_later plan made (made + 1) (omega arith),
    )
by_first false p plan made fault other found between =
    omega (arith, is_later p.exchange made (made + 1) (omega arith), between found)

-- one that is planned for now is to come no more
one_less : (plan : List Planned) (made : ℕ) (fault : Fault) → fault_at plan made ≡ Some fault
    → to_come plan (made + 1) + 1 ≤ to_come plan made
one_less [] made fault found = absurd cc
one_less (p ∷ plan) made fault found =
    by_first (p.exchange == made) p plan made fault refl found (one_less plan made fault)

-- no more are to come than are planned
pub all_to_come : (plan : List Planned) (made : ℕ) → to_come plan made ≤ length plan
all_to_come [] made = omega arith
all_to_come (p ∷ plan) made = omega (arith, one_at_most (nat_le made p.exchange), all_to_come plan made)
  where
    one_at_most : (b : Bool) → (if b then 1 else 0) ≤ 1
    one_at_most true = omega arith
    one_at_most false = omega arith

unfallen : (plan : List Planned) (exchanges made : ℕ) → exchanges ≤ 2 ^ 64 - 1
    → made ≡ min (exchanges + 1) (2 ^ 64 - 1) → to_come plan made ≤ to_come plan exchanges
unfallen plan exchanges made small is = fewer_later plan exchanges made (omega (arith, small, is))

-- Where a fault fell, it was planned for this exchange; so those that fell and those to come are no more than before.
pub spent : (plan : List Planned) (fault : Option Fault) (fell : Bool) (faults later exchanges made : ℕ)
    → fault ≡ fault_at plan exchanges → (fault ≡ None → fell ≡ false) → fault_at plan (2 ^ 64 - 1) ≡ None
    → exchanges ≤ 2 ^ 64 - 1 → later ≡ (if fell then faults + 1 else faults)
    → made ≡ min (exchanges + 1) (2 ^ 64 - 1) → later + to_come plan made ≤ faults + to_come plan exchanges
spent plan fault false faults later exchanges made is unplanned never small counts next =
    omega (arith, unfallen plan exchanges made small next, counts)
spent plan None true faults later exchanges made is unplanned never small counts next = absurd (cc (unplanned refl))
spent plan (Some fault) true faults later exchanges made is unplanned never small counts next =
    let last : exchanges ≡ 2 ^ 64 - 1 → ⊥ = λ e. cc (is, ap (fault_at plan) e, never) in
    let is_next : made ≡ exchanges + 1 = omega (arith, small, next, last) in
    let less = one_less plan exchanges fault (sym is) in
    let same : to_come plan made ≡ to_come plan (exchanges + 1) = ap (to_come plan) is_next in
    omega (arith, less, same, counts)

-- What is still to come, without what is past.

still_found : (b : Bool) (x : Planned) (rest xs : List Planned) (e : ℕ) → (b ≡ false → (x.exchange == e) ≡ false)
    → fault_at rest e ≡ fault_at xs e → fault_at (cond b (x ∷ rest) rest) e ≡ fault_at (x ∷ xs) e
still_found true x rest xs e apart same = ap (λ r. cond (x.exchange == e) (Some x.fault) r) same
still_found false x rest xs e apart same =
    same ∙ sym (by_false (x.exchange == e) (Some x.fault) (fault_at xs e) (apart refl))

is_apart : (exchange made e : ℕ) → made ≤ e → nat_le made exchange ≡ false → (exchange == e) ≡ false
is_apart exchange made e later past = grind (arith, nat_tests, later, past)

-- a fault for an exchange that is still to come is planned as before
pub later_same : (made : ℕ) (xs : List Planned) (e : ℕ) → made ≤ e
    → fault_at (filter (λ p. nat_le made p.exchange) xs) e ≡ fault_at xs e
later_same made [] e later = refl
later_same made (x ∷ xs) e later =
    still_found (nat_le made x.exchange) x (filter (λ p. nat_le made p.exchange) xs) xs e
    (is_apart x.exchange made e later) (later_same made xs e later)

counted_first : (b : Bool) (x : Planned) (rest : List Planned) (n : ℕ) → length rest ≡ n
    → length (cond b (x ∷ rest) rest) ≡ (if b then 1 else 0) + n
counted_first true x rest n is = omega (arith, is)
counted_first false x rest n is = omega (arith, is)

-- and there are as many
pub later_counted : (made : ℕ) (xs : List Planned) → length (filter (λ p. nat_le made p.exchange) xs) ≡ to_come xs made
later_counted made [] = refl
later_counted made (x ∷ xs) =
    counted_first (nat_le made x.exchange) x (filter (λ p. nat_le made p.exchange) xs) (to_come xs made)
    (later_counted made xs)
