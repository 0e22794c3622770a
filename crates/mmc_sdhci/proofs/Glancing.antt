-- Looks at the data.
use Rattle.std.proofs.Common.{◌∙◌, ◌≡◌, Bool, List, None, Option, Some, ap, false, refl, subst, sym, true, ℕ}
use Rattle.std.specs.Prelude.{[], ◌&&◌, ◌==◌, ◌||◌, is_none, not}
use Rattle.std.proofs.lemmas.Bool.{false≢true}
use Rattle.mmc_frame.specs.Field.{field}
use Rattle.mmc_host.specs.declared.data.Data.{Data}
use Rattle.mmc_sdhci.specs.Controller.{ControllerView, Running, Settled, has_data}
use Rattle.mmc_sdhci.specs.DataLooks.{DataLooked, ReadLook, WriteLook, following_of, has_news, is_empty, is_gone, is_over_by, is_whole}
use Rattle.mmc_sdhci.specs.Accesses.{IsAllowed, Stays, Writes}
use Rattle.mmc_sdhci.specs.DataLooks.ReadLook.{comes as read_comes, failed as read_failed, good as read_good, waits as read_waits}
use Rattle.mmc_sdhci.specs.DataLooks.WriteLook.{accepted as write_accepted, failed as write_failed, waits as write_waits}
use Rattle.mmc_sdhci.specs.Moving.{Glances, IsClear, IsSeeking, OnlyWatched, Seeks, Watches, is_error, is_found, looking}
use Rattle.mmc_sdhci.specs.declared.following.Following.{Following}
use Rattle.mmc_sdhci.specs.declared.watching.Glance.{Glance}
use Rattle.mmc_sdhci.specs.declared.watching.Sought.{Sought}
use Rattle.mmc_sdhci.specs.declared.watching.Sought.TheVariants as sought

-- what was looked at before
abbrev after_looks : ControllerView → ℕ → Bool → ControllerView
after_looks view status is_ready = record view { status = status; is_ready = is_ready }

-- where the driver looks doesn't hang on it
seeks_still : (s : Sought) (view : ControllerView) (status : ℕ) (is_ready : Bool) → Seeks s view
    → Seeks s (after_looks view status is_ready)
seeks_still sought.Block view status is_ready seeks = seeks
seeks_still sought.Room view status is_ready seeks = seeks
seeks_still (sought.Good following) view status is_ready seeks = seeks
seeks_still (sought.Gone following) view status is_ready seeks = seeks

read_from : (view after : ControllerView) (status size bits : ℕ) (ready : Bool)
    → ReadLook (after_looks view status ready) size bits after → ReadLook (record view { is_ready = ready }) size bits after
read_from view after status size bits ready (read_waits fine not same) = read_waits fine not same
read_from view after status size bits ready (read_comes block fine none is len same) = read_comes block fine none is len same
read_from view after status size bits ready (read_good block fine some is step same) = read_good block fine some is step same
read_from view after status size bits ready (read_failed error step same) = read_failed error step same

write_from : (view after : ControllerView) (status bits : ℕ) (ready : Bool)
    → WriteLook (after_looks view status ready) bits after → WriteLook (record view { is_ready = ready }) bits after
write_from view after status bits ready (write_waits fine not same) = write_waits fine not same
write_from view after status bits ready (write_accepted fine is step same) = write_accepted fine is step same
write_from view after status bits ready (write_failed error step same) = write_failed error step same

data_from : (transfer : Data) (view after : ControllerView) (status bits : ℕ) (ready : Bool)
    → DataLooked (after_looks view status ready) transfer bits after
    → DataLooked (record view { is_ready = ready }) transfer bits after
data_from Data.Nothing view after status bits ready same = same
data_from (Data.Read size blocks) view after status bits ready looked = read_from view after status size bits ready looked
data_from (Data.Write blocks) view after status bits ready looked = write_from view after status bits ready looked

-- the last look, from where the first one began
looked : (s : Sought) (v0 v1 v2 : ControllerView) (seen : Glance) → IsSeeking s v0
    → Settled v0 (OnlyWatched v0 v1) v1 → Glances v1 s seen v2
    → Settled v0 (Seeks s v0 × DataLooked (looking v0 seen) v0.transfer seen.bits v2) v2
looked s v0 v1 v2 seen seeks before look kept =
    let l = look kept in
    let b = before l.0 in
    let at = seeks b.0 in
    let running : v1.running ≡ None = ap (λ (v : ControllerView). v.running) b.1 ∙ at.0.running in
    let still : v1.dma.is_moving ≡ false = ap (λ (v : ControllerView). v.dma.is_moving) b.1 ∙ at.0.moving in
    let there : Seeks s v1 =
    subst (λ (v : ControllerView). Seeks s v) (sym b.1) (seeks_still s v0 v1.status v1.is_ready at.1) in
    let now : DataLooked (looking v1 seen) v1.transfer seen.bits v2 = l.1 running still there in
    let from : DataLooked (after_looks v0 v1.status seen.is_ready) v0.transfer seen.bits v2 =
    subst (λ (v : ControllerView). DataLooked (looking v seen) v.transfer seen.bits v2) b.1 now in
    (b.0, (at.1, data_from v0.transfer v0 v2 v1.status seen.bits seen.is_ready from))

pub watch_over : (s : Sought) (v0 v1 v2 : ControllerView) (seen : Glance) → IsSeeking s v0
    → Settled v0 (OnlyWatched v0 v1) v1 → Glances v1 s seen v2 → (is_error seen.bits || is_found s seen) ≡ true
    → Watches v0 s (Some seen) v2
watch_over s v0 v1 v2 seen seeks before look over kept =
    let l = looked s v0 v1 v2 seen seeks before look kept in
    (l.0, (over, l.1.1))

-- a look that finds neither changes nothing else
read_again : (view after : ControllerView) (size bits : ℕ) (ready : Bool)
    → has_news (record view { is_ready = ready }) view.unjudged bits ≡ false → (field 15 15 bits ≡ 1 → ⊥)
    → ReadLook (record view { is_ready = ready }) size bits after → OnlyWatched view after
read_again view after size bits ready none fine (read_waits zero not same) =
    let e : after ≡ record view { status = bits; is_ready = ready } = same in
    e ∙ sym (ap (λ (v : ControllerView). record view { status = v.status; is_ready = v.is_ready }) e)
read_again view after size bits ready none fine (read_comes block zero empty is len same) =
    absurd (false≢true (sym none
    ∙ (ap (λ (o : Option (List ℕ)). has_news (record view { is_ready = ready }) o bits) empty ∙ is)))
read_again view after size bits ready none fine (read_good block zero some is step same) =
    absurd (false≢true (sym none
    ∙ (ap (λ (o : Option (List ℕ)). has_news (record view { is_ready = ready }) o bits) some ∙ is)))
read_again view after size bits ready none fine (read_failed error step same) = absurd (fine error)

-- what is new where a block was taken
pub good_news : (view : ControllerView) (ready : Bool) (bits : ℕ) (block : List ℕ) (following : Following) → view.unjudged ≡ Some block
    → view.incoming ≡ [] → following_of view.transfer ≡ following
    → has_news (record view { is_ready = ready }) view.unjudged bits ≡ is_over_by following ready bits
good_news view ready bits block following some empty is =
    ap (λ (o : Option (List ℕ)). has_news (record view { is_ready = ready }) o bits) some
    ∙ (ap (λ (l : List ℕ). is_empty l && is_over_by (following_of view.transfer) ready bits) empty
    ∙ ap (λ (b : Following). is_over_by b ready bits) is)

-- and where one was written
pub gone_news : (view : ControllerView) (ready : Bool) (bits : ℕ) (following : Following) → is_whole view.outgoing ≡ true
    → following_of view.transfer ≡ following → is_gone (record view { is_ready = ready }) bits ≡ is_over_by following ready bits
gone_news view ready bits following whole is =
    ap (λ (b : Bool). b && is_over_by (following_of view.transfer) ready bits) whole
    ∙ ap (λ (b : Following). is_over_by b ready bits) is

write_again : (view after : ControllerView) (bits : ℕ) (ready : Bool) → is_gone (record view { is_ready = ready }) bits ≡ false
    → (field 15 15 bits ≡ 1 → ⊥) → WriteLook (record view { is_ready = ready }) bits after → OnlyWatched view after
write_again view after bits ready none fine (write_waits zero not same) =
    let e : after ≡ record view { status = bits; is_ready = ready } = same in
    e ∙ sym (ap (λ (v : ControllerView). record view { status = v.status; is_ready = v.is_ready }) e)
write_again view after bits ready none fine (write_accepted zero is step same) = absurd (false≢true (sym none ∙ is))
write_again view after bits ready none fine (write_failed error step same) = absurd (fine error)

-- what isn't found isn't new
still_there : (s : Sought) (view after : ControllerView) (seen : Glance) → Seeks s view → is_found s seen ≡ false
    → (field 15 15 seen.bits ≡ 1 → ⊥) → DataLooked (looking view seen) view.transfer seen.bits after → OnlyWatched view after
still_there sought.Block view after seen seeks none fine look =
    read_again view after seeks.0.0 seen.bits seen.is_ready
    (ap (λ (o : Option (List ℕ)). has_news (looking view seen) o seen.bits) seeks.1 ∙ none) fine
    (subst (λ (t : Data). DataLooked (looking view seen) t seen.bits after) seeks.0.2 look)
still_there (sought.Good following) view after seen seeks none fine look =
    read_again view after seeks.0.0 seen.bits seen.is_ready
    (good_news view seen.is_ready seen.bits seeks.1.0.0 following seeks.1.0.1 seeks.1.1.0 seeks.1.1.1 ∙ none) fine
    (subst (λ (t : Data). DataLooked (looking view seen) t seen.bits after) seeks.0.2 look)
still_there sought.Room view after seen seeks none fine look =
    write_again view after seen.bits seen.is_ready
    (ap (λ (bytes : List ℕ). is_whole bytes && is_over_by (following_of view.transfer) seen.is_ready seen.bits) seeks.1)
    fine (subst (λ (t : Data). DataLooked (looking view seen) t seen.bits after) seeks.0.1 look)
still_there (sought.Gone following) view after seen seeks none fine look =
    write_again view after seen.bits seen.is_ready
    (gone_news view seen.is_ready seen.bits following seeks.1.0 seeks.1.1 ∙ none) fine
    (subst (λ (t : Data). DataLooked (looking view seen) t seen.bits after) seeks.0.1 look)

or_false : (a b : Bool) → (a || b) ≡ false → (a ≡ false) × (b ≡ false)
or_false false b none = (refl, none)
or_false true b none = absurd (false≢true (sym none))

pub watch_again : (s : Sought) (v0 v1 v2 v3 : ControllerView) (seen : Glance) → IsSeeking s v0
    → Settled v0 (OnlyWatched v0 v1) v1 → Glances v1 s seen v2 → (is_error seen.bits || is_found s seen) ≡ false → Stays v2 v3
    → Settled v0 (OnlyWatched v0 v3) v3
watch_again s v0 v1 v2 v3 seen seeks before look neither waits kept =
    let w = waits kept in
    let l = looked s v0 v1 v2 seen seeks before look w.0 in
    let parts = or_false (is_error seen.bits) (is_found s seen) neither in
    let fine : field 15 15 seen.bits ≡ 1 → ⊥ =
    λ (one : field 15 15 seen.bits ≡ 1). false≢true (sym parts.0 ∙ ap (λ (n : ℕ). n == 1) one) in
    let only = still_there s v0 v2 seen l.1.0 parts.1 fine l.1.1 in
    (l.0, subst (λ (v : ControllerView). OnlyWatched v0 v) (sym w.1) only)

-- Where looks found nothing, the driver looks on.

pub seeking_still : (s : Sought) (v0 v1 : ControllerView) → IsSeeking s v0 → Settled v0 (OnlyWatched v0 v1) v1 → IsSeeking s v1
seeking_still s v0 v1 seeks before kept =
    let b = before kept in
    let at = seeks b.0 in
    subst (λ (v : ControllerView). IsClear v × Seeks s v) (sym b.1) (
      record {
        running = at.0.running;
        stuck = at.0.stuck;
        stale = at.0.stale;
        resetting = at.0.resetting;
        stabilizing = at.0.stabilizing;
        starting = at.0.starting;
        moving = at.0.moving;
      },
      seeks_still s v0 v1.status v1.is_ready at.1,
    )

pub watched_then : (v0 v1 v2 : ControllerView) → Settled v0 (OnlyWatched v0 v1) v1 → Settled v1 (OnlyWatched v1 v2) v2
    → Settled v0 (OnlyWatched v0 v2) v2
watched_then v0 v1 v2 before after kept =
    let a = after kept in
    let b = before a.0 in
    (b.0, a.1 ∙ ap (λ (v : ControllerView). after_looks v v2.status v2.is_ready) b.1)

pub watches_then : (s : Sought) (v0 v1 v2 : ControllerView) (result : Option Glance) → IsSeeking s v0
    → Settled v0 (OnlyWatched v0 v1) v1 → Watches v1 s result v2 → Watches v0 s result v2
watches_then s v0 v1 v2 None seeks before after kept = watched_then v0 v1 v2 before after kept
watches_then s v0 v1 v2 (Some seen) seeks before after kept =
    let a = after kept in
    let b = before a.0 in
    let from : DataLooked (after_looks v0 v1.status seen.is_ready) v0.transfer seen.bits v2 =
    subst (λ (v : ControllerView). DataLooked (looking v seen) v.transfer seen.bits v2) b.1 a.1.1 in
    (b.0, (a.1.0, data_from v0.transfer v0 v2 v1.status seen.bits seen.is_ready from))

pub or_true : (b : Bool) → (b || true) ≡ true
or_true true = refl
or_true false = refl

-- before an interrupt is waited for
pub may_clear_ready : (s : Sought) (view : ControllerView) → IsSeeking s view → IsAllowed view 0x30 0x30
may_clear_ready s view seeks kept =
    ap (λ (o : Option Running). is_none o && (not (has_data view.transfer) || true)) (seeks kept).0.running
    ∙ or_true (not (has_data view.transfer))

pub ready_cleared : (v0 v1 : ControllerView) → Writes v0 0x30 0x30 v1 → Settled v0 (OnlyWatched v0 v1) v1
ready_cleared v0 v1 writes kept =
    let w = writes kept in
    (w.0, w.1 ∙ sym (ap (λ (v : ControllerView). record v0 { status = v.status; is_ready = v.is_ready }) w.1))

-- nothing happens while it is
pub watched_stays : (v0 v1 v2 : ControllerView) → Settled v0 (OnlyWatched v0 v1) v1 → Stays v1 v2 → Settled v0 (OnlyWatched v0 v2) v2
watched_stays v0 v1 v2 before stays kept =
    let w = stays kept in
    let b = before w.0 in
    (b.0, subst (λ (v : ControllerView). OnlyWatched v0 v) (sym w.1) b.1)
