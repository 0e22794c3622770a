-- Blocks that are read and written.
use Rattle.std.proofs.Common.{◌∙◌, ◌≡◌, arith, Bool, List, None, Option, Some, ap, false, refl, subst, sym, true, ℕ}
use Rattle.std.specs.Prelude.{[], ◌&&◌, ◌==◌, ◌||◌, ◌∷◌, if◌then◌else◌, is_none, not}
use Rattle.std.proofs.lemmas.Bool.{eqb-true, false≢true}
use Rattle.mmc_frame.specs.Field.{field}
use Rattle.mmc_card.specs.BusView.{BusView}
use Rattle.mmc_card.specs.Faults.{WriteStep}
use Rattle.mmc_bus.specs.Exchanges.{Kept}
use Rattle.mmc_card.specs.declared.exchange.DataOut.{DataOut}
use Rattle.mmc_card.specs.declared.exchange.DataOut.TheVariants as Went
use Rattle.mmc_host.specs.declared.data.Data.{Data}
use Rattle.mmc_sdhci.specs.Commands.{Moves, ResetsData}
use Rattle.mmc_sdhci.specs.Controller.{ControllerView, Running, Settled}
use Rattle.mmc_sdhci.specs.DataLooks.{DataDropped, DataLooked, following_of, is_over_by, is_whole}
use Rattle.mmc_sdhci.specs.declared.following.Following.{Following}
use Rattle.mmc_sdhci.specs.declared.watching.Sought.TheVariants.{Gone}
use Rattle.mmc_sdhci.proofs.Glancing.{gone_news}
use Rattle.mmc_host.specs.HostStates.{is_accepted, less_one}
use Rattle.mmc_card.specs.declared.exchange.DataIn.TheVariants as Came
use Rattle.mmc_sdhci.specs.Accesses.{Drops, DropsBy, IsAtRest}
use Rattle.mmc_sdhci.specs.DmaLooks.{SomeMoved}
use Rattle.mmc_sdhci.specs.Controller.{is_settled, is_still, moved, seen}
use Rattle.mmc_sdhci.specs.DataLooks.{IsUntold, WriteLook, cleared, is_empty}
use Rattle.mmc_sdhci.specs.Accesses.{is_at_rest}
use Rattle.mmc_sdhci.specs.DataLooks.WriteLook.{accepted as write_accepted, failed as write_failed, waits as write_waits}
use Rattle.mmc_sdhci.specs.Moving.{HasRoom, IsGoing, Puts, WritesBlock}
use Rattle.mmc_sdhci.specs.Moving.{FindsRoom, SeesGone, IsClear, IsSeeking, OnlyWatched, Watches, WhereKept, is_error, looking}
use Rattle.mmc_sdhci.specs.declared.watching.Sought.{Sought}
use Rattle.mmc_sdhci.specs.declared.watching.Glance.{Glance}

-- At rest.

pub both : (a b : Bool) → (a && b) ≡ true → (a ≡ true) × (b ≡ true)
both true b is = (refl, is)
both false b is = absurd (false≢true is)

unset : (b : Bool) → not b ≡ true → b ≡ false
unset false is = refl
unset true is = absurd (false≢true is)

none_runs : (o : Option Running) → is_none o ≡ true → o ≡ None
none_runs None is = refl
none_runs (Some run) is = absurd (false≢true is)

no_block : (o : Option (List ℕ)) → is_none o ≡ true → o ≡ None
no_block None is = refl
no_block (Some block) is = absurd (false≢true is)

pub no_time : (o : Option ℕ) → is_none o ≡ true → o ≡ None
no_time None is = refl
no_time (Some waited) is = absurd (false≢true is)

nothing_in : (bytes : List ℕ) → is_empty bytes ≡ true → bytes ≡ []
nothing_in [] is = refl
nothing_in (byte ∷ bytes) is = absurd (false≢true is)

pub clear_at_rest : (view : ControllerView) → is_at_rest view ≡ true
    → IsClear view × (view.outgoing ≡ []) × (view.unjudged ≡ None)
clear_at_rest view rests =
    let a = both (is_none view.running) _ rests in
    let b = both (not view.is_stuck) _ a.1 in
    let c = both (not view.is_stale) _ b.1 in
    let d = both (is_none view.unjudged) _ c.1 in
    let e = both (is_empty view.outgoing) _ d.1 in
    let m = both (is_still view) (not view.dma.is_moving) e.1 in
    let s = both (is_settled view) (is_none view.settings.starting) m.0 in
    let f = both (is_none view.resetting) (is_none view.settings.stabilizing) s.0 in (
      record {
        running = none_runs view.running a.0;
        stuck = unset view.is_stuck b.0;
        stale = unset view.is_stale c.0;
        resetting = no_time view.resetting f.0;
        stabilizing = no_time view.settings.stabilizing f.1;
        starting = no_time view.settings.starting s.1;
        moving = unset view.dma.is_moving m.1;
      },
      nothing_in view.outgoing e.0,
      no_block view.unjudged d.0,
    )

abbrev rest_with : Option Running → Bool → Bool → Option (List ℕ) → List ℕ → Option ℕ → Option ℕ → Option ℕ → Bool → Bool
rest_with running stuck stale unjudged outgoing resetting stabilizing starting moving =
    is_none running
    && (not stuck
    && (not stale
    && (is_none unjudged
    && (is_empty outgoing && (((is_none resetting && is_none stabilizing) && is_none starting) && not moving)))))

pub rests_clear : (view : ControllerView) → IsClear view → view.outgoing ≡ [] → view.unjudged ≡ None → is_at_rest view ≡ true
rests_clear view clear out judged =
    let settings = view.settings in
    let moving = view.dma.is_moving in
    ap (λ (r : Option Running). rest_with r view.is_stuck view.is_stale view.unjudged view.outgoing view.resetting settings.stabilizing settings.starting moving) clear.running
    ∙ (ap (λ (b : Bool). rest_with None b view.is_stale view.unjudged view.outgoing view.resetting settings.stabilizing settings.starting moving) clear.stuck
    ∙ (ap (λ (b : Bool). rest_with None false b view.unjudged view.outgoing view.resetting settings.stabilizing settings.starting moving) clear.stale
    ∙ (ap (λ (o : Option (List ℕ)). rest_with None false false o view.outgoing view.resetting settings.stabilizing settings.starting moving) judged
    ∙ (ap (λ (l : List ℕ). rest_with None false false None l view.resetting settings.stabilizing settings.starting moving) out
    ∙ (ap (λ (o : Option ℕ). rest_with None false false None [] o settings.stabilizing settings.starting moving) clear.resetting
    ∙ (ap (λ (o : Option ℕ). rest_with None false false None [] None o settings.starting moving) clear.stabilizing
    ∙ (ap (λ (o : Option ℕ). rest_with None false false None [] None None o moving) clear.starting
    ∙ ap (λ (b : Bool). rest_with None false false None [] None None None b) clear.moving)))))))

pub still_clear : (view : ControllerView) → view.resetting ≡ None → view.settings.stabilizing ≡ None → view.settings.starting ≡ None
    → is_still view ≡ true
still_clear view resetting stabilizing starting =
    ap (λ (o : Option ℕ). (is_none o && is_none view.settings.stabilizing) && is_none view.settings.starting) resetting
    ∙ (ap (λ (o : Option ℕ). is_none o && is_none view.settings.starting) stabilizing
    ∙ ap (λ (o : Option ℕ). is_none o) starting)

-- so is a controller whose data line was reset
pub rests_cleared : (view new : ControllerView) → view.running ≡ None → view.is_stuck ≡ false → view.settings.stabilizing ≡ None
    → view.settings.starting ≡ None → new ≡ cleared view → is_at_rest new ≡ true
rests_cleared view new runs stuck stable started is =
    ap (λ (v : ControllerView). is_at_rest v) is
    ∙ (ap (λ (r : Option Running). rest_with r view.is_stuck false None [] None view.settings.stabilizing view.settings.starting false) runs
    ∙ (ap (λ (b : Bool). rest_with None b false None [] None view.settings.stabilizing view.settings.starting false) stuck
    ∙ (ap (λ (o : Option ℕ). rest_with None false false None [] None o view.settings.starting false) stable
    ∙ ap (λ (o : Option ℕ). rest_with None false false None [] None None o false) started)))

-- The data line is reset: where the driver moves the data, or where no data is under way.
pub by_port : (view new : ControllerView) → view.dma.is_moving ≡ false → Drops view new → DataDropped view view.transfer new
by_port view new still drops = subst (λ (b : Bool). DropsBy b view new) still drops

same_card : (view new : ControllerView) → seen new ≡ seen view → cleared (moved view new) ≡ cleared view
same_card view new same =
    ap (λ (b : BusView). cleared (record view { card = b.card; faults = b.faults; may_fall = b.may_fall })) same

cleared_by : (by : Bool) (view new : ControllerView) → view.transfer ≡ Data.Nothing → DropsBy by view new → new ≡ cleared view
cleared_by false view new none drops = subst (λ (t : Data). DataDropped view t new) none drops
cleared_by true view new none drops =
    drops.1 ∙ same_card view new
    (subst (λ (t : Data). SomeMoved t view.dma.lent Came.Nothing (seen view) (seen new)) none drops.0)

pub all_cleared : (view new : ControllerView) → view.transfer ≡ Data.Nothing → Drops view new → new ≡ cleared view
all_cleared view new none drops = cleared_by view.dma.is_moving view new none drops

pub zero-is-not-one : (n : ℕ) → n ≡ 0 → n ≡ 1 → ⊥
zero-is-not-one n zero one = omega (arith, zero, one)

-- Looks that found nothing.
pub none_found : (s : Sought) (v0 v1 : ControllerView) (result : Option Glance)
    → ((x : Glance) → result ≡ Some x → ⊥) → Watches v0 s result v1 → Settled v0 (OnlyWatched v0 v1) v1
none_found s v0 v1 None not watched = watched
none_found s v0 v1 (Some x) not watched = absurd (not x refl)

pub one_found : (s : Sought) (v0 v1 : ControllerView) (result : Option Glance) (x : Glance) → result ≡ Some x
    → Watches v0 s result v1 → Watches v0 s (Some x) v1
one_found s v0 v1 result x is watched = subst (λ (o : Option Glance). Watches v0 s o v1) is watched

abbrev pub looked_so : ControllerView → ℕ → Bool → ControllerView
looked_so view status is_ready = record view { status = status; is_ready = is_ready }

-- The card's status of a block didn't come, and the controller is at rest.
pub record IsLostWrite (old new : ControllerView) : Type 0 where
  pub step : IsUntold old new
  pub transfer : new.transfer ≡ Data.Nothing
  pub settings : new.settings ≡ old.settings
  pub built : new.built ≡ old.built
  pub rest : is_at_rest new ≡ true

-- as IsUntold, over what was looked at
untold_from : (view after last : ControllerView) (status : ℕ) (ready : Bool) → seen last ≡ seen after
    → IsUntold (looked_so view status ready) after → IsUntold view last
untold_from view after last status ready same untold block offered =
    subst (λ (b : BusView). Kept (seen view) (WriteStep (seen view) block Went.Nothing b) b) (sym same) (untold block offered)

-- where nothing was found the data line's reset drops it
write_dropped : (v0 v2 : ControllerView) (status : ℕ) (ready : Bool) (blocks : ℕ) → IsClear v0
    → v0.transfer ≡ Data.Write blocks → DataDropped (looked_so v0 status ready) v0.transfer v2 → IsLostWrite v0 v2
write_dropped v0 v2 status ready blocks clear is dropped =
    let d : IsUntold (looked_so v0 status ready) v2 × (v2 ≡ cleared (moved (looked_so v0 status ready) v2)) =
    subst (λ (t : Data). DataDropped (looked_so v0 status ready) t v2) is dropped in
    record {
      step = untold_from v0 v2 v2 status ready refl d.0;
      transfer = ap (λ (v : ControllerView). v.transfer) d.1;
      settings = ap (λ (v : ControllerView). v.settings) d.1;
      built = ap (λ (v : ControllerView). v.built) d.1;
      rest = rests_cleared (moved (looked_so v0 status ready) v2) v2 clear.running clear.stuck clear.stabilizing clear.starting d.1;
    }

-- where a block is to go
abbrev pub IsWriting : ControllerView → Type 0
IsWriting view = WhereKept view (IsClear view × ((blocks : ℕ) × (view.transfer ≡ Data.Write blocks)))

pub write_lost : (s : Sought) (v0 v1 v2 : ControllerView) (result : Option Glance)
    → ((x : Glance) → result ≡ Some x → ⊥) → IsWriting v0
    → Watches v0 s result v1 → ResetsData v1 v2 → Settled v0 (IsLostWrite v0 v2) v2
write_lost s v0 v1 v2 result not there watched resets kept =
    let r = resets kept in
    let w = none_found s v0 v1 result not watched r.0 in
    let t = there w.0 in (
      w.0,
      write_dropped v0 v2 v1.status v1.is_ready t.1.0 t.0 t.1.1
          (by_port (looked_so v0 v1.status v1.is_ready) v2 t.0.moving (subst (λ (v : ControllerView). Drops v v2) w.1 r.1)),
    )

-- an error
write_broken : (v0 v1 v2 : ControllerView) (ready : Bool) (bits : ℕ) → IsClear v0 → field 15 15 bits ≡ 1
    → WriteLook (record v0 { is_ready = ready }) bits v1 → Drops v1 v2 → IsLostWrite v0 v2
write_broken v0 v1 v2 ready bits clear error (write_waits fine not same) dropped = absurd (zero-is-not-one _ fine error)
write_broken v0 v1 v2 ready bits clear error (write_accepted fine is step same) dropped = absurd (zero-is-not-one _ fine error)
write_broken v0 v1 v2 ready bits clear error (write_failed e untold same) dropped =
    let d : v2 ≡ cleared v1 = all_cleared v1 v2 (ap (λ (v : ControllerView). v.transfer) same) dropped in
    record {
      step = untold_from v0 v1 v2 v0.status ready (ap (λ (v : ControllerView). seen v) d) untold;
      transfer = ap (λ (v : ControllerView). v.transfer) d;
      settings = ap (λ (v : ControllerView). v.settings) d ∙ ap (λ (v : ControllerView). v.settings) same;
      built = ap (λ (v : ControllerView). v.built) d ∙ ap (λ (v : ControllerView). v.built) same;
      rest = rests_cleared v1 v2 (ap (λ (v : ControllerView). v.running) same ∙ clear.running)
          (ap (λ (v : ControllerView). v.is_stuck) same ∙ clear.stuck)
          (ap (λ (v : ControllerView). v.settings.stabilizing) same ∙ clear.stabilizing)
          (ap (λ (v : ControllerView). v.settings.starting) same ∙ clear.starting) d;
    }

pub write_failed_by : (s : Sought) (v0 v1 v2 : ControllerView) (result : Option Glance) (x : Glance)
    → result ≡ Some x → is_error x.bits ≡ true → IsWriting v0
    → Watches v0 s result v1 → ResetsData v1 v2 → Settled v0 (IsLostWrite v0 v2) v2
write_failed_by s v0 v1 v2 result x is error there watched resets kept =
    let r = resets kept in
    let w = one_found s v0 v1 result x is watched r.0 in
    let t = there w.0 in (
      w.0,
      write_broken v0 v1 v2 x.is_ready x.bits t.0 (eqb-true _ 1 error)
          (subst (λ (d : Data). DataLooked (looking v0 x) d x.bits v1) t.1.1 w.1.1) r.1,
    )

-- there is no room
pub no_room : (v0 v2 : ControllerView) → (v0.is_kept ≡ true → v0.outgoing ≡ []) → Settled v0 (IsLostWrite v0 v2) v2
    → FindsRoom v0 false v2
no_room v0 v2 empty lost kept =
    let l = lost kept in
    let e = empty l.0 in (
      l.0,
      (
        record {
          step = λ block. l.1.step block (λ some. absurd (false≢true (sym some ∙ ap (λ (b : List ℕ). is_empty b) e)));
          transfer = l.1.transfer;
          settings = l.1.settings;
          built = l.1.built;
        },
        l.1.rest,
      ),
    )

-- the block didn't go
pub not_gone : (v0 v2 : ControllerView) → Settled v0 (IsLostWrite v0 v2) v2 → SeesGone v0 Went.Nothing v2
not_gone v0 v2 lost kept =
    let l = lost kept in (
      l.0,
      (
        record {
          step = l.1.step v0.outgoing (λ some. refl);
          transfer = l.1.transfer;
          settings = l.1.settings;
          built = l.1.built;
        },
        l.1.rest,
      ),
    )

-- the block has gone
accepted_by : (v0 v1 : ControllerView) (bits : ℕ) (ready : Bool) (following : Following) → IsClear v0 → v0.unjudged ≡ None
    → is_whole v0.outgoing ≡ true → following_of v0.transfer ≡ following → (field 15 15 bits ≡ 1 → ⊥) → is_over_by following ready bits ≡ true
    → WriteLook (record v0 { is_ready = ready }) bits v1
    → Moves v0 (WriteStep (seen v0) v0.outgoing Went.Accepted (seen v1)) (less_one v0.transfer) v1 × (is_at_rest v1 ≡ true)
accepted_by v0 v1 bits ready following clear judged whole is fine found (write_waits zero not same) =
    absurd (false≢true (sym not ∙ (gone_news v0 ready bits following whole is ∙ found)))
accepted_by v0 v1 bits ready following clear judged whole is fine found (write_failed error untold same) = absurd (fine error)
accepted_by v0 v1 bits ready following clear judged whole is fine found (write_accepted zero gone step same) = (
  record {
    step = step;
    transfer = ap (λ (v : ControllerView). v.transfer) same;
    settings = ap (λ (v : ControllerView). v.settings) same;
    built = ap (λ (v : ControllerView). v.built) same;
  },
  rests_clear v1
      (record {
        running = ap (λ (v : ControllerView). v.running) same ∙ clear.running;
        stuck = ap (λ (v : ControllerView). v.is_stuck) same ∙ clear.stuck;
        stale = ap (λ (v : ControllerView). v.is_stale) same ∙ clear.stale;
        resetting = ap (λ (v : ControllerView). v.resetting) same ∙ clear.resetting;
        stabilizing = ap (λ (v : ControllerView). v.settings.stabilizing) same ∙ clear.stabilizing;
        starting = ap (λ (v : ControllerView). v.settings.starting) same ∙ clear.starting;
        moving = ap (λ (v : ControllerView). v.dma.is_moving) same ∙ clear.moving;
      })
      (ap (λ (v : ControllerView). v.outgoing) same)
      (ap (λ (v : ControllerView). v.unjudged) same ∙ judged),
)

found_or_error : (error found : Bool) → (error || found) ≡ true → error ≡ false → found ≡ true
found_or_error false found over fine = over
found_or_error true found over fine = absurd (false≢true (sym fine))

pub seen_gone : (following : Following) (v0 v1 : ControllerView) (result : Option Glance) (x : Glance) → result ≡ Some x
    → is_error x.bits ≡ false → IsSeeking (Gone following) v0 → Watches v0 (Gone following) result v1 → SeesGone v0 Went.Accepted v1
seen_gone following v0 v1 result x is fine seeking watched kept =
    let w = one_found (Gone following) v0 v1 result x is watched kept in
    let s = seeking w.0 in (
      w.0,
      accepted_by v0 v1 x.bits x.is_ready following s.0 s.1.1.2 s.1.1.0 s.1.1.1
          (λ one. false≢true (sym fine ∙ ap (λ (n : ℕ). n == 1) one))
          (found_or_error (is_error x.bits) _ w.1.0 fine)
          (subst (λ (d : Data). DataLooked (looking v0 x) d x.bits v1) s.1.0.1 w.1.1),
    )

-- A write of one block.

pub unsent : (v0 v1 : ControllerView) (block : List ℕ) (found : Bool) → FindsRoom v0 found v1
    → found ≡ false → WritesBlock v0 block Went.Nothing v1
unsent v0 v1 block found finds none kept =
    let u = subst (λ (b : Bool). FindsRoom v0 b v1) none finds kept in
    let l = u.1.0 in (
      u.0,
      record {
        step = l.step block;
        transfer = l.transfer;
        settings = l.settings;
        built = l.built;
      },
    )

roomy : (v0 v1 : ControllerView) (found : Bool) → FindsRoom v0 found v1 → found ≡ true
    → Settled v0 (v1 ≡ record v0 { status = v1.status; is_ready = true }) v1
roomy v0 v1 false finds is kept = absurd (false≢true is)
roomy v0 v1 true finds is kept = finds kept

pub has_room : (v0 v1 : ControllerView) (under_way : Data) (found : Bool) → IsAtRest v0
    → IsGoing under_way v0 → FindsRoom v0 found v1 → found ≡ true → HasRoom v1
has_room v0 v1 under_way found rests going finds is kept =
    let r = roomy v0 v1 found finds is kept in
    let g = going r.0 in
    let c = clear_at_rest v0 (rests r.0) in (
      (g.1.0, ap (λ (v : ControllerView). v.transfer) r.1 ∙ (g.0 ∙ g.1.1)),
      (ap (λ (v : ControllerView). v.is_ready) r.1, ap (λ (v : ControllerView). v.outgoing) r.1 ∙ c.1),
    )

-- there was room for the block, it is put in the buffer, and it goes
pub sent_off : (v0 v1 v2 v3 : ControllerView) (block : List ℕ) (found : Bool) (got : DataOut) → FindsRoom v0 found v1
    → found ≡ true → Puts v1 block v2 → SeesGone v2 got v3 → WritesBlock v0 block got v3
sent_off v0 v1 v2 v3 block found got finds is puts sees kept =
    let s = sees kept in
    let p = puts s.0 in
    let r = roomy v0 v1 found finds is p.0 in
    let m = subst (λ (v : ControllerView). Moves v (WriteStep (seen v) v.outgoing got (seen v3))
    (if is_accepted got then less_one v.transfer else Data.Nothing) v3)
    (p.1 ∙ ap (λ (v : ControllerView). record v { outgoing = block; is_ready = false }) r.1) s.1.0 in (
      r.0,
      record {
        step = m.step;
        transfer = m.transfer;
        settings = m.settings;
        built = m.built;
      },
    )
