-- Waiting for what settles, and where nothing does.
use Rattle.std.proofs.Common.{◌*◌, ◌+◌, ◌/◌, ◌<◌, ◌∙◌, ◌≡◌, ◌≤◌, Bool, None, Option, Some, ap, arith, false, refl, subst, sym, true, ℕ}
use Rattle.std.specs.Prelude.{◌==◌, if◌then◌else◌, is_none}
use Rattle.std.proofs.lemmas.Bool.{eq-eqb, eqb-true, false≢true, le-leb}
use Rattle.std.proofs.Math.Nat.{lt-div-mul-add}
use Rattle.mmc_frame.specs.Field.{field}
use Rattle.mmc_sdhci.specs.Controller.{ControllerView, Settled, base_clock, clock_runs, divider_in, divisor, is_enough, is_settled, is_still}
use Rattle.mmc_sdhci.specs.Driver.{IsBaseClock}
use Rattle.mmc_sdhci.specs.Accesses.{ClockSeen, ClockShown, IsStill, Passes, Reads8, ResetSeen, ResetShown, Stays, passed, passed_for, starting_after, starting_for}
use Rattle.mmc_sdhci.specs.Settling.{IsClocked, IsResetting, IsStabilizing, PowersUp, ResetEnds, Stabilizes}
use Rattle.mmc_sdhci.proofs.Blocks.{both, no_time}

-- Nothing settles.

abbrev with_start : ControllerView → Option ℕ → ControllerView
with_start view starting = record view { settings = record view.settings { starting = starting } }

settled_passed : (view : ControllerView) (micros : ℕ) → is_settled view ≡ true
    → passed view micros ≡ with_start view (starting_after view view.settings.starting micros)
settled_passed view micros settled =
    let b = both (is_none view.resetting) (is_none view.settings.stabilizing) settled in
    ap (λ (o : Option ℕ). passed_for view o view.settings.stabilizing micros) (no_time view.resetting b.0)
    ∙ ap (λ (o : Option ℕ). passed_for view None o micros) (no_time view.settings.stabilizing b.1)

still_passed : (view : ControllerView) (micros : ℕ) → is_still view ≡ true → passed view micros ≡ view
still_passed view micros still =
    let b = both (is_settled view) (is_none view.settings.starting) still in
    let none = no_time view.settings.starting b.1 in
    settled_passed view micros b.0
    ∙ (ap (λ (o : Option ℕ). with_start view (starting_after view o micros)) none
    ∙ ap (λ (o : Option ℕ). with_start view o) (sym none))

pub still_stays : (v0 v1 : ControllerView) (micros : ℕ) → IsStill v0 → Passes v0 micros v1 → Stays v0 v1
still_stays v0 v1 micros still passes kept =
    let p = passes kept in
    (p.0, p.1 ∙ still_passed v0 micros (still p.0))

-- A reset: so much time has passed at least.
pub record IsWaiting (old : ControllerView) (least : ℕ) (new : ControllerView) : Type 0 where
  pub same : new ≡ record old { resetting = new.resetting }
  pub waited : ℕ
  pub is : new.resetting ≡ Some waited
  pub long : least ≤ waited

pub begins_to_wait : (v0 : ControllerView) → IsResetting v0 → Settled v0 (IsWaiting v0 0 v0) v0
begins_to_wait v0 resetting kept =
    let r = resetting kept in
    (kept, record { same = refl; waited = r.0; is = r.1; long = omega arith })

reset_over : (v0 v1 v2 : ControllerView) (least : ℕ) (value : ℕ) (shown : Bool) → (value == 0) ≡ shown → shown ≡ true
    → IsWaiting v0 least v1 → ResetSeen v1 v1.resetting value v2 → v2 ≡ record v0 { resetting = None }
reset_over v0 v1 v2 least value false says is waits seen = absurd (false≢true is)
reset_over v0 v1 v2 least value true says is waits seen =
    let s : ResetShown v1 waits.waited (value == 0) v2 = subst (λ (o : Option ℕ). ResetSeen v1 o value v2) waits.is seen in
    let t : v2 ≡ record v1 { resetting = None } = subst (λ (b : Bool). ResetShown v1 waits.waited b v2) says s in
    t ∙ ap (λ (v : ControllerView). record v { resetting = None }) waits.same

pub reset_seen : (v0 v1 v2 : ControllerView) (least value : ℕ) → value ≡ 0 → Settled v0 (IsWaiting v0 least v1) v1
    → Reads8 v1 0x2f value v2 → ResetEnds v0 v2
reset_seen v0 v1 v2 least value zero waits reads kept =
    let r = reads kept in
    let w = waits r.0 in
    (w.0, reset_over v0 v1 v2 least value true (eq-eqb value 0 zero) refl w.1 (r.1.reset refl))

-- it is over in time
in_time : (v0 v1 v2 : ControllerView) (value : ℕ) (shown : Bool) → (value == 0) ≡ shown
    → IsWaiting v0 100000 v1 → ResetSeen v1 v1.resetting value v2 → v2 ≡ record v0 { resetting = None }
in_time v0 v1 v2 value true says waits seen = reset_over v0 v1 v2 100000 value true says refl waits seen
in_time v0 v1 v2 value false says waits seen =
    let s : ResetShown v1 waits.waited (value == 0) v2 = subst (λ (o : Option ℕ). ResetSeen v1 o value v2) waits.is seen in
    let t : (waits.waited < 100000) × (v2 ≡ v1) = subst (λ (b : Bool). ResetShown v1 waits.waited b v2) says s in
    absurd (omega (arith, t.0, waits.long))

pub reset_in_time : (v0 v1 v2 : ControllerView) (least value : ℕ) → 100000 ≤ least → Settled v0 (IsWaiting v0 least v1) v1
    → Reads8 v1 0x2f value v2 → ResetEnds v0 v2
reset_in_time v0 v1 v2 least value long waits reads kept =
    let r = reads kept in
    let w = waits r.0 in (
      w.0,
      in_time v0 v1 v2 value (value == 0) refl
          (record { same = w.1.same; waited = w.1.waited; is = w.1.is; long = omega (arith, long, w.1.long) }) (r.1.reset refl),
    )

-- it isn't over yet
not_yet : (v0 v1 v2 : ControllerView) (least value : ℕ) (shown : Bool) → (value == 0) ≡ shown → (value ≡ 0 → ⊥)
    → IsWaiting v0 least v1 → ResetSeen v1 v1.resetting value v2 → v2 ≡ v1
not_yet v0 v1 v2 least value true says not waits seen = absurd (not (eqb-true value 0 says))
not_yet v0 v1 v2 least value false says not waits seen =
    let s : ResetShown v1 waits.waited (value == 0) v2 = subst (λ (o : Option ℕ). ResetSeen v1 o value v2) waits.is seen in
    let t : (waits.waited < 100000) × (v2 ≡ v1) = subst (λ (b : Bool). ResetShown v1 waits.waited b v2) says s in
    t.1

pub waits_on : (v0 v1 v2 v3 : ControllerView) (least more value micros : ℕ) → (value ≡ 0 → ⊥) → more ≤ least + micros
    → Settled v0 (IsWaiting v0 least v1) v1 → Reads8 v1 0x2f value v2 → Passes v2 micros v3 → Settled v0 (IsWaiting v0 more v3) v3
waits_on v0 v1 v2 v3 least more value micros not enough waits reads passes kept =
    let p = passes kept in
    let r = reads p.0 in
    let w = waits r.0 in
    let same : v2 ≡ v1 = not_yet v0 v1 v2 least value (value == 0) refl not w.1 (r.1.reset refl) in
    let e : v3 ≡ record v1 { resetting = Some (w.1.waited + micros) } =
    p.1 ∙ (ap (λ (v : ControllerView). passed v micros) same
    ∙ ap (λ (o : Option ℕ). passed_for v1 o v1.settings.stabilizing micros) w.1.is) in
    let f : v3 ≡ record v0 { resetting = Some (w.1.waited + micros) } =
    e ∙ ap (λ (v : ControllerView). record v { resetting = Some (w.1.waited + micros) }) w.1.same in (
      w.0,
      record {
        same = f ∙ sym (ap (λ (v : ControllerView). record v0 { resetting = v.resetting }) f);
        waited = w.1.waited + micros;
        is = ap (λ (v : ControllerView). v.resetting) f;
        long = omega (arith, enough, w.1.long);
      },
    )

-- The internal clock, likewise.
abbrev pub with_time : ControllerView → Option ℕ → ControllerView
with_time view stabilizing = record view { settings = record view.settings { stabilizing = stabilizing } }

pub record IsTicking (old : ControllerView) (least : ℕ) (new : ControllerView) : Type 0 where
  pub same : new ≡ with_time old new.settings.stabilizing
  pub over : old.resetting ≡ None
  pub waited : ℕ
  pub is : new.settings.stabilizing ≡ Some waited
  pub long : least ≤ waited

pub begins_to_tick : (v0 : ControllerView) → IsStabilizing v0 → Settled v0 (IsTicking v0 0 v0) v0
begins_to_tick v0 stabilizing kept =
    let r = stabilizing kept in
    (kept, record { same = refl; over = r.0; waited = r.1.0; is = r.1.1; long = omega arith })

clock_stable : (v0 v1 v2 : ControllerView) (least : ℕ) (value : ℕ) → (field 1 1 value == 1) ≡ true
    → IsTicking v0 least v1 → ClockSeen v1 v1.settings.stabilizing value v2 → v2 ≡ with_time v0 None
clock_stable v0 v1 v2 least value says ticks seen =
    let s : ClockShown v1 ticks.waited (field 1 1 value == 1) v2 =
    subst (λ (o : Option ℕ). ClockSeen v1 o value v2) ticks.is seen in
    let t : v2 ≡ with_time v1 None = subst (λ (b : Bool). ClockShown v1 ticks.waited b v2) says s in
    t ∙ ap (λ (v : ControllerView). with_time v None) ticks.same

pub clock_seen : (v0 v1 v2 : ControllerView) (least value : ℕ) → field 1 1 value ≡ 1 → Settled v0 (IsTicking v0 least v1) v1
    → Reads8 v1 0x2c value v2 → Stabilizes v0 v2
clock_seen v0 v1 v2 least value one ticks reads kept =
    let r = reads kept in
    let w = ticks r.0 in
    (w.0, clock_stable v0 v1 v2 least value (eq-eqb _ 1 one) w.1 (r.1.clock refl))

ticks_in_time : (v0 v1 v2 : ControllerView) (value : ℕ) (shown : Bool) → (field 1 1 value == 1) ≡ shown
    → IsTicking v0 150000 v1 → ClockSeen v1 v1.settings.stabilizing value v2 → v2 ≡ with_time v0 None
ticks_in_time v0 v1 v2 value true says ticks seen = clock_stable v0 v1 v2 150000 value says ticks seen
ticks_in_time v0 v1 v2 value false says ticks seen =
    let s : ClockShown v1 ticks.waited (field 1 1 value == 1) v2 =
    subst (λ (o : Option ℕ). ClockSeen v1 o value v2) ticks.is seen in
    let t : (ticks.waited < 150000) × (v2 ≡ v1) = subst (λ (b : Bool). ClockShown v1 ticks.waited b v2) says s in
    absurd (omega (arith, t.0, ticks.long))

pub clock_in_time : (v0 v1 v2 : ControllerView) (least value : ℕ) → 150000 ≤ least → Settled v0 (IsTicking v0 least v1) v1
    → Reads8 v1 0x2c value v2 → Stabilizes v0 v2
clock_in_time v0 v1 v2 least value long ticks reads kept =
    let r = reads kept in
    let w = ticks r.0 in (
      w.0,
      ticks_in_time v0 v1 v2 value (field 1 1 value == 1) refl
          (record { same = w.1.same; over = w.1.over; waited = w.1.waited; is = w.1.is; long = omega (arith, long, w.1.long) })
          (r.1.clock refl),
    )

unstable_yet : (v0 v1 v2 : ControllerView) (least value : ℕ) (shown : Bool) → (field 1 1 value == 1) ≡ shown
    → (field 1 1 value ≡ 1 → ⊥) → IsTicking v0 least v1 → ClockSeen v1 v1.settings.stabilizing value v2 → v2 ≡ v1
unstable_yet v0 v1 v2 least value true says not ticks seen = absurd (not (eqb-true _ 1 says))
unstable_yet v0 v1 v2 least value false says not ticks seen =
    let s : ClockShown v1 ticks.waited (field 1 1 value == 1) v2 =
    subst (λ (o : Option ℕ). ClockSeen v1 o value v2) ticks.is seen in
    let t : (ticks.waited < 150000) × (v2 ≡ v1) = subst (λ (b : Bool). ClockShown v1 ticks.waited b v2) says s in
    t.1

pub ticks_on : (v0 v1 v2 v3 : ControllerView) (least more value micros : ℕ) → (field 1 1 value ≡ 1 → ⊥) → more ≤ least + micros
    → Settled v0 (IsTicking v0 least v1) v1 → Reads8 v1 0x2c value v2 → Passes v2 micros v3 → Settled v0 (IsTicking v0 more v3) v3
ticks_on v0 v1 v2 v3 least more value micros not enough ticks reads passes kept =
    let p = passes kept in
    let r = reads p.0 in
    let w = ticks r.0 in
    let same : v2 ≡ v1 = unstable_yet v0 v1 v2 least value (field 1 1 value == 1) refl not w.1 (r.1.clock refl) in
    let over : v1.resetting ≡ None = ap (λ (v : ControllerView). v.resetting) w.1.same ∙ w.1.over in
    let e : v3 ≡ with_time v1 (Some (w.1.waited + micros)) =
    p.1 ∙ (ap (λ (v : ControllerView). passed v micros) same
    ∙ (ap (λ (o : Option ℕ). passed_for v1 o v1.settings.stabilizing micros) over
    ∙ ap (λ (o : Option ℕ). passed_for v1 None o micros) w.1.is)) in
    let f : v3 ≡ with_time v0 (Some (w.1.waited + micros)) =
    e ∙ ap (λ (v : ControllerView). with_time v (Some (w.1.waited + micros))) w.1.same in (
      w.0,
      record {
        same = f ∙ sym (ap (λ (v : ControllerView). with_time v0 v.settings.stabilizing) f);
        over = w.1.over;
        waited = w.1.waited + micros;
        is = ap (λ (v : ControllerView). v.settings.stabilizing) f;
        long = omega (arith, enough, w.1.long);
      },
    )

-- The card's power-up: so long a pause is enough, at any divider.
divisor_small : (is_none : Bool) (divider : ℕ) → divider < 1024 → (if is_none then 1 else 2 * divider) ≤ 2046
divisor_small true divider small = omega arith
divisor_small false divider small = omega (arith, small)

product : (base quotient waited : ℕ) → quotient * base + 1001 * base ≤ (waited + (1001 + quotient)) * base
product base quotient waited = grind arith

divider_small : (clock : ℕ) → divider_in clock < 1024
divider_small clock = omega arith

long_enough : (base divider waited : ℕ) → 0 < base → divider < 1024
    → is_enough base (divisor divider) (waited + (1001 + 151404 / base)) ≡ true
long_enough base divider waited some small =
    let all = lt-div-mul-add {a = 151404} {b = base} some in
    let most = divisor_small (divider == 0) divider small in
    le-leb _ _ (omega (arith, all, most, product base (151404 / base) waited))

start_over : (view : ControllerView) (base version : ℕ) (starting : Option ℕ) → 0 < base
    → (view.built.version ≡ version) × (base_clock view.built.capabilities version ≡ base)
    → clock_runs view.settings.clock ≡ true → starting_after view starting (1001 + 151404 / base) ≡ None
start_over view base version None some based runs = refl
start_over view base version (Some waited) some based runs =
    let micros = 1001 + 151404 / base in
    let divider = divider_in view.settings.clock in
    let is : base_clock view.built.capabilities view.built.version ≡ base =
    ap (λ n. base_clock view.built.capabilities n) based.0 ∙ based.1 in
    ap (λ (b : Bool). if b then starting_for view (waited + micros) else Some waited) runs
    ∙ (ap (λ n. if is_enough n (divisor divider) (waited + micros) then None else Some (waited + micros)) is
    ∙ ap (λ (b : Bool). if b then None else Some (waited + micros))
    (long_enough base divider waited some (divider_small view.settings.clock)))

pub powers_up : (v0 v1 : ControllerView) (base version micros : ℕ) → 0 < base → micros ≡ 1001 + 151404 / base
    → IsBaseClock base version v0 → IsClocked v0 → Passes v0 micros v1 → PowersUp v0 v1
powers_up v0 v1 base version micros some is based clocked passes kept =
    let p = passes kept in
    let c = clocked p.0 in (
      p.0,
      p.1 ∙ (ap (λ n. passed v0 n) is
          ∙ (settled_passed v0 (1001 + 151404 / base) c.0
          ∙ ap (λ (o : Option ℕ). with_start v0 o) (start_over v0 base version v0.settings.starting some (based p.0) c.1))),
    )
