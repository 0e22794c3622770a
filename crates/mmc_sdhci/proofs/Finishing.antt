-- Data that the controller moves by itself: until it is over.
use Rattle.std.specs.Prelude.{◌==◌, ◌||◌}
use Rattle.std.proofs.Common.{◌∙◌, ◌≡◌, Bool, None, Option, Some, ap, false, refl, subst, sym, true, ℕ}
use Rattle.std.proofs.lemmas.Bool.{false≢true}
use Rattle.mmc_host.specs.declared.data.Data.{Data}
use Rattle.mmc_sdhci.specs.Accesses.{DataLookedBy, Looked, Reads, Stays}
use Rattle.mmc_sdhci.specs.Commands.{RestsButMoves, unmoved}
use Rattle.mmc_sdhci.specs.Controller.{ControllerView, Running, Settled, has_data}
use Rattle.mmc_sdhci.specs.DataLooks.{is_complete}
use Rattle.mmc_sdhci.specs.DmaLooks.{MovingLook, MovingLooked, ends, fails, waits}
use Rattle.mmc_sdhci.specs.Finishing.{IsMoving, WatchesMoving}
use Rattle.mmc_sdhci.specs.Moving.{is_error}
use Rattle.mmc_sdhci.proofs.Blocks.{clear_at_rest}
use Rattle.mmc_sdhci.proofs.Glancing.{or_true}

-- nothing but what was looked at has changed
abbrev pub OnlySeen : ControllerView → ControllerView → Type 0
OnlySeen old new = new ≡ record old { status = new.status }

abbrev with_status : ControllerView → ℕ → ControllerView
with_status view status = record view { status = status }

-- what an earlier look showed doesn't matter
from_first : (first after : ControllerView) (status bits : ℕ) → MovingLook (with_status first status) bits after
    → MovingLook first bits after
from_first first after status bits (waits fine unended same) = waits fine unended same
from_first first after status bits (ends now fine done moved same) = ends now fine done moved same
from_first first after status bits (fails error some same) = fails error some same

is_look : (t : Data) (view after : ControllerView) (bits : ℕ) → has_data t ≡ true → MovingLooked view t bits after
    → MovingLook view bits after
is_look Data.Nothing view after bits some looked = absurd (false≢true some)
is_look (Data.Read size count) view after bits some looked = looked
is_look (Data.Write count) view after bits some looked = looked

-- a look while data is moved
looked : (v0 v1 v2 : ControllerView) (bits : ℕ) → RestsButMoves v0 → IsMoving v0 → Settled v0 (OnlySeen v0 v1) v1
    → Reads v1 0x30 bits v2 → Settled v0 (MovingLook v0 bits v2) v2
looked v0 v1 v2 bits rests moving only reads kept =
    let r = reads kept in
    let o = only r.0 in
    let m = moving o.0 in
    let base = with_status v0 v1.status in
    let at : Looked base base.running bits v2 =
    subst (λ (v : ControllerView). Looked v v.running bits v2) o.1 (r.1.interrupts refl) in
    let idle : Looked base None bits v2 =
    subst (λ (o : Option Running). Looked base o bits v2) (clear_at_rest (unmoved v0) (rests o.0)).0.running at in
    let by : MovingLooked base base.transfer bits v2 =
    subst (λ (b : Bool). DataLookedBy b base bits v2) m.0 idle in
    (o.0, from_first v0 v2 v1.status bits (is_look v0.transfer base v2 bits m.1 by))

-- A look that found all moved, or an error.
pub watch_moving_over : (v0 v1 v2 : ControllerView) (bits : ℕ) → RestsButMoves v0 → IsMoving v0
    → Settled v0 (OnlySeen v0 v1) v1 → Reads v1 0x30 bits v2 → (is_error bits || is_complete bits) ≡ true
    → WatchesMoving v0 (Some bits) v2
watch_moving_over v0 v1 v2 bits rests moving only reads over kept =
    let l = looked v0 v1 v2 bits rests moving only reads kept in (l.0, (over, l.1))

-- Where looks found it moving still, the driver looks on.

neither : (view after : ControllerView) (bits : ℕ) → (is_error bits || is_complete bits) ≡ false → MovingLook view bits after
    → OnlySeen view after
neither view after bits none (waits fine unended same) = same ∙ sym (ap (λ (v : ControllerView). with_status view v.status) same)
neither view after bits none (ends now fine done moved same) =
    absurd (false≢true (sym none ∙ (ap (λ (b : Bool). is_error bits || b) done ∙ or_true (is_error bits))))
neither view after bits none (fails error some same) =
    absurd (false≢true (sym none ∙ ap (λ n. (n == 1) || is_complete bits) error))

-- a look that found neither
pub seen_again : (v0 v1 v2 : ControllerView) (bits : ℕ) → RestsButMoves v0 → IsMoving v0 → Settled v0 (OnlySeen v0 v1) v1
    → Reads v1 0x30 bits v2 → (is_error bits || is_complete bits) ≡ false → Settled v0 (OnlySeen v0 v2) v2
seen_again v0 v1 v2 bits rests moving only reads none kept =
    let l = looked v0 v1 v2 bits rests moving only reads kept in (l.0, neither v0 v2 bits none l.1)

-- nothing happens while it is waited
pub seen_stays : (v0 v1 v2 : ControllerView) → Settled v0 (OnlySeen v0 v1) v1 → Stays v1 v2 → Settled v0 (OnlySeen v0 v2) v2
seen_stays v0 v1 v2 only stays kept =
    let s = stays kept in
    let o = only s.0 in
    (o.0, subst (λ (v : ControllerView). OnlySeen v0 v) (sym s.1) o.1)

pub watches_moving_then : (v0 v1 v2 : ControllerView) (result : Option ℕ) → Settled v0 (OnlySeen v0 v1) v1
    → WatchesMoving v1 result v2 → WatchesMoving v0 result v2
watches_moving_then v0 v1 v2 None only watches kept =
    let w = watches kept in
    let o = only w.0 in
    (o.0, w.1 ∙ ap (λ (v : ControllerView). with_status v v2.status) o.1)
watches_moving_then v0 v1 v2 (Some bits) only watches kept =
    let w = watches kept in
    let o = only w.0 in
    (o.0, (w.1.0, from_first v0 v2 v1.status bits (subst (λ (v : ControllerView). MovingLook v bits v2) o.1 w.1.1)))
