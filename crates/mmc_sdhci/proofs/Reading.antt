-- A read of one block.
use Rattle.std.proofs.Common.{◌%◌, ◌∙◌, ◌≡◌, Bool, List, None, Option, Some, ap, false, rules, subst, sym, true, ℕ}
use Rattle.std.specs.Prelude.{[], ◌==◌, ◌||◌, if◌then◌else◌, is_none, length}
use Rattle.std.proofs.lemmas.Bool.{eqb-true, false≢true}
use Rattle.mmc_frame.specs.Field.{field}
use Rattle.mmc_card.specs.BusView.{BusView}
use Rattle.mmc_card.specs.Faults.{ReadStep}
use Rattle.mmc_card.specs.declared.exchange.DataIn.{DataIn}
use Rattle.mmc_card.specs.declared.exchange.DataIn.TheVariants as Came
use Rattle.mmc_bus.specs.Exchanges.{Kept}
use Rattle.mmc_host.specs.HostStates.{is_good, less_one}
use Rattle.mmc_host.specs.declared.data.Data.{Data}
use Rattle.mmc_sdhci.specs.Commands.{Moves, ResetsData}
use Rattle.mmc_sdhci.specs.Controller.{ControllerView, Settled, Steps}
use Rattle.mmc_sdhci.specs.DataLooks.{DataDropped, DataLooked, ReadLook, following_of, came, cleared, has_news, is_over_by}
use Rattle.mmc_sdhci.specs.Accesses.{Drops, IsAtRest, is_at_rest}
use Rattle.mmc_sdhci.specs.Controller.{moved, seen}
use Rattle.mmc_sdhci.specs.DataLooks.ReadLook.{comes as read_comes, failed as read_failed, good as read_good, waits as read_waits}
use Rattle.mmc_sdhci.specs.Moving.{IsClear, IsComing, IsSeeking, ReadsBlock, SeesGood, Takes, Watches, WhereKept, is_error, looking}
use Rattle.mmc_sdhci.specs.declared.following.Following.{Following}
use Rattle.mmc_sdhci.specs.declared.watching.Glance.{Glance}
use Rattle.mmc_sdhci.specs.declared.watching.Sought.{Sought}
use Rattle.mmc_sdhci.specs.declared.watching.Sought.TheVariants.{Block, Good}
use Rattle.mmc_sdhci.proofs.Blocks.{all_cleared, by_port, clear_at_rest, looked_so, none_found, one_found, rests_clear, rests_cleared, zero-is-not-one}
use Rattle.mmc_sdhci.proofs.Glancing.{good_news}

-- No good block came, and the controller is at rest.
pub record IsLostRead (old : ControllerView) (size : ℕ) (got : DataIn) (block : List ℕ) (new : ControllerView) : Type 0 where
  pub step : Steps old (ReadStep (seen old) size got block (seen new)) new
  pub transfer : new.transfer ≡ Data.Nothing
  pub settings : new.settings ≡ old.settings
  pub built : new.built ≡ old.built
  pub rest : is_at_rest new ≡ true

-- blocks of this length are read
abbrev pub IsReading : ℕ → ControllerView → Type 0
IsReading size view = WhereKept view (IsClear view × ((blocks : ℕ) × (view.transfer ≡ Data.Read size blocks)))

-- where none was found the data line's reset drops it
dropped_by : (v0 v2 : ControllerView) (status size : ℕ) (ready : Bool) (blocks : ℕ) (block : List ℕ) → IsClear v0
    → v0.transfer ≡ Data.Read size blocks → DataDropped (looked_so v0 status ready) v0.transfer v2
    → IsLostRead v0 size Came.Nothing block v2
dropped_by v0 v2 status size ready blocks block clear is dropped =
    let d = subst (λ (t : Data). DataDropped (looked_so v0 status ready) t v2) is dropped in
    record {
      step = d.0 block;
      transfer = ap (λ (v : ControllerView). v.transfer) d.1;
      settings = ap (λ (v : ControllerView). v.settings) d.1;
      built = ap (λ (v : ControllerView). v.built) d.1;
      rest = rests_cleared (moved (looked_so v0 status ready) v2) v2 clear.running clear.stuck clear.stabilizing clear.starting d.1;
    }

-- an error
broken_by : (v0 v1 v2 : ControllerView) (size bits : ℕ) (ready : Bool) (block : List ℕ) → IsClear v0 → field 15 15 bits ≡ 1
    → ReadLook (record v0 { is_ready = ready }) size bits v1 → Drops v1 v2 → IsLostRead v0 size (came bits) block v2
broken_by v0 v1 v2 size bits ready block clear error (read_waits fine not same) dropped = absurd (zero-is-not-one _ fine error)
broken_by v0 v1 v2 size bits ready block clear error (read_comes other fine none is len same) dropped =
    absurd (zero-is-not-one _ fine error)
broken_by v0 v1 v2 size bits ready block clear error (read_good other fine some is step same) dropped =
    absurd (zero-is-not-one _ fine error)
broken_by v0 v1 v2 size bits ready block clear error (read_failed e steps same) dropped =
    let d : v2 ≡ cleared v1 = all_cleared v1 v2 (ap (λ (v : ControllerView). v.transfer) same) dropped in
    record {
      step = subst (λ (b : BusView). Kept (seen v0) (ReadStep (seen v0) size (came bits) block b) b)
          (sym (ap (λ (v : ControllerView). seen v) d)) (steps block);
      transfer = ap (λ (v : ControllerView). v.transfer) d;
      settings = ap (λ (v : ControllerView). v.settings) d ∙ ap (λ (v : ControllerView). v.settings) same;
      built = ap (λ (v : ControllerView). v.built) d ∙ ap (λ (v : ControllerView). v.built) same;
      rest = rests_cleared v1 v2 (ap (λ (v : ControllerView). v.running) same ∙ clear.running)
          (ap (λ (v : ControllerView). v.is_stuck) same ∙ clear.stuck)
          (ap (λ (v : ControllerView). v.settings.stabilizing) same ∙ clear.stabilizing)
          (ap (λ (v : ControllerView). v.settings.starting) same ∙ clear.starting) d;
    }

pub read_lost : (s : Sought) (v0 v1 v2 : ControllerView) (size : ℕ) (block : List ℕ) (result : Option Glance)
    → ((x : Glance) → result ≡ Some x → ⊥) → IsReading size v0 → Watches v0 s result v1
    → ResetsData v1 v2 → Settled v0 (IsLostRead v0 size Came.Nothing block v2) v2
read_lost s v0 v1 v2 size block result not there watched resets kept =
    let r = resets kept in
    let w = none_found s v0 v1 result not watched r.0 in
    let t = there w.0 in (
      w.0,
      dropped_by v0 v2 v1.status size v1.is_ready t.1.0 block t.0 t.1.1
          (by_port (looked_so v0 v1.status v1.is_ready) v2 t.0.moving (subst (λ (v : ControllerView). Drops v v2) w.1 r.1)),
    )

pub read_broken : (s : Sought) (v0 v1 v2 : ControllerView) (size : ℕ) (block : List ℕ) (result : Option Glance) (x : Glance)
    → result ≡ Some x → is_error x.bits ≡ true → IsReading size v0 → Watches v0 s result v1
    → ResetsData v1 v2 → Settled v0 (IsLostRead v0 size (came x.bits) block v2) v2
read_broken s v0 v1 v2 size block result x is error there watched resets kept =
    let r = resets kept in
    let w = one_found s v0 v1 result x is watched r.0 in
    let t = there w.0 in (
      w.0,
      broken_by v0 v1 v2 size x.bits x.is_ready block t.0 (eqb-true _ 1 error)
          (subst (λ (d : Data). DataLooked (looking v0 x) d x.bits v1) t.1.1 w.1.1) r.1,
    )

pub coming_reads : (v0 : ControllerView) (under_way : Data) (size : ℕ) → IsAtRest v0 → IsComing under_way size v0 → IsReading size v0
coming_reads v0 under_way size rests coming kept =
    let c = coming kept in
    ((clear_at_rest v0 (rests kept)).0, (c.1.0, c.0 ∙ c.1.1))

-- nothing good comes with an error
pub not_good : (bits : ℕ) → is_good (came bits) ≡ false
not_good bits = search rules

lost_moves : (v0 v2 : ControllerView) (size : ℕ) (got : DataIn) (block : List ℕ) → is_good got ≡ false
    → IsLostRead v0 size got block v2
    → Moves v0 (ReadStep (seen v0) size got block (seen v2)) (if is_good got then less_one v0.transfer else Data.Nothing) v2
lost_moves v0 v2 size got block bad lost =
    record {
      step = lost.step;
      transfer = lost.transfer ∙ sym (ap (λ (b : Bool). if b then less_one v0.transfer else Data.Nothing) bad);
      settings = lost.settings;
      built = lost.built;
    }

pub lost_is_read : (v0 v2 : ControllerView) (size : ℕ) (got : DataIn) (block : List ℕ) → is_good got ≡ false
    → Settled v0 (IsLostRead v0 size got block v2) v2 → ReadsBlock v0 size got block v2
lost_is_read v0 v2 size got block bad lost kept =
    let l = lost kept in
    (l.0, lost_moves v0 v2 size got block bad l.1)

-- The block was taken out of the buffer, and something can still be wrong with it.
abbrev pub IsTaken : ControllerView → List ℕ → ControllerView → Type 0
IsTaken old block new = new ≡ record old { status = new.status; is_ready = false; incoming = []; unjudged = Some block }

none_is_some : (o : Option (List ℕ)) (block : List ℕ) → o ≡ None → o ≡ Some block → ⊥
none_is_some o block none some =
    false≢true (sym (ap (λ (x : Option (List ℕ)). is_none x) some) ∙ ap (λ (x : Option (List ℕ)). is_none x) none)

taken_by : (v0 v1 v2 : ControllerView) (size bits : ℕ) (ready : Bool) (block : List ℕ) → v0.unjudged ≡ None
    → (field 15 15 bits ≡ 1 → ⊥) → ready ≡ true → length block ≡ size → size % 4 ≡ 0
    → ReadLook (record v0 { is_ready = ready }) size bits v1
    → (length v1.incoming ≡ length block → length block % 4 ≡ 0 → (v1.incoming ≡ block) × (v2 ≡ record v1 { incoming = [] }))
    → IsTaken v0 block v2
taken_by v0 v1 v2 size bits ready block none fine is len words (read_waits zero not same) takes =
    absurd (false≢true (sym not
    ∙ (ap (λ (o : Option (List ℕ)). has_news (record v0 { is_ready = ready }) o bits) none ∙ is)))
taken_by v0 v1 v2 size bits ready block none fine is len words (read_failed error steps same) takes = absurd (fine error)
taken_by v0 v1 v2 size bits ready block none fine is len words (read_good other zero some new step same) takes =
    absurd (none_is_some v0.unjudged other none some)
taken_by v0 v1 v2 size bits ready block none fine is len words (read_comes other zero empty there size_is same) takes =
    let incoming : v1.incoming ≡ other = ap (λ (v : ControllerView). v.incoming) same in
    let t = takes (ap (λ (l : List ℕ). length l) incoming ∙ (size_is ∙ sym len)) (ap (λ (n : ℕ). n % 4) len ∙ words) in
    let block_is : other ≡ block = sym incoming ∙ t.0 in
    let e : v2 ≡ record v0 { status = bits; is_ready = false; incoming = []; unjudged = Some block } =
    t.1 ∙ (ap (λ (v : ControllerView). record v { incoming = [] }) same
    ∙ ap (λ (l : List ℕ). record v0 { status = bits; is_ready = false; incoming = []; unjudged = Some l }) block_is) in
    e ∙ sym (ap (λ (v : ControllerView). record v0 { status = v.status; is_ready = false; incoming = []; unjudged = Some block }) e)

found_or_error : (error ready : Bool) → (error || ready) ≡ true → error ≡ false → ready ≡ true
found_or_error false ready over fine = over
found_or_error true ready over fine = absurd (false≢true (sym fine))

pub taken : (v0 v1 v2 : ControllerView) (under_way : Data) (size : ℕ) (block : List ℕ) (result : Option Glance) (x : Glance)
    → result ≡ Some x → is_error x.bits ≡ false → IsAtRest v0 → IsComing under_way size v0 → length block ≡ size
    → Watches v0 Block result v1 → Takes v1 block v2 → Settled v0 (IsTaken v0 block v2) v2
taken v0 v1 v2 under_way size block result x is fine rests coming len watched takes kept =
    let t = takes kept in
    let w = one_found Block v0 v1 result x is watched t.0 in
    let c = coming w.0 in (
      w.0,
      taken_by v0 v1 v2 size x.bits x.is_ready block (clear_at_rest v0 (rests w.0)).2
          (λ one. false≢true (sym fine ∙ ap (λ (n : ℕ). n == 1) one))
          (found_or_error (is_error x.bits) x.is_ready w.1.0 fine) len c.1.2
          (subst (λ (d : Data). DataLooked (looking v0 x) d x.bits v1) (c.0 ∙ c.1.1) w.1.1) t.1,
    )

-- where the driver looks that it is good
pub seeks_good : (v0 v2 : ControllerView) (under_way : Data) (size : ℕ) (block : List ℕ) (following : Following) → IsAtRest v0
    → IsComing under_way size v0 → following ≡ following_of under_way → Settled v0 (IsTaken v0 block v2) v2
    → IsSeeking (Good following) v2
seeks_good v0 v2 under_way size block following rests coming is taken kept =
    let t = taken kept in
    let c = coming t.0 in
    let clear = (clear_at_rest v0 (rests t.0)).0 in
    let carried : v2.transfer ≡ under_way = ap (λ (v : ControllerView). v.transfer) t.1 ∙ c.0 in (
      record {
        running = ap (λ (v : ControllerView). v.running) t.1 ∙ clear.running;
        stuck = ap (λ (v : ControllerView). v.is_stuck) t.1 ∙ clear.stuck;
        stale = ap (λ (v : ControllerView). v.is_stale) t.1 ∙ clear.stale;
        resetting = ap (λ (v : ControllerView). v.resetting) t.1 ∙ clear.resetting;
        stabilizing = ap (λ (v : ControllerView). v.settings.stabilizing) t.1 ∙ clear.stabilizing;
        starting = ap (λ (v : ControllerView). v.settings.starting) t.1 ∙ clear.starting;
        moving = ap (λ (v : ControllerView). v.dma.is_moving) t.1 ∙ clear.moving;
      },
      (
        (size, c.1.0, carried ∙ c.1.1),
        (
          (block, ap (λ (v : ControllerView). v.unjudged) t.1),
          (
            ap (λ (v : ControllerView). v.incoming) t.1,
            ap (λ (d : Data). following_of d) carried ∙ sym is,
            ap (λ (v : ControllerView). v.outgoing) t.1 ∙ (clear_at_rest v0 (rests t.0)).1,
          ),
        ),
      ),
    )

-- Looks that it is good.

pub not_seen_good : (following : Following) (v0 v1 v2 : ControllerView) (got : DataIn) (result : Option Glance) → is_good got ≡ false
    → IsSeeking (Good following) v0 → Watches v0 (Good following) result v1 → ResetsData v1 v2
    → ((size : ℕ) (block : List ℕ) → IsReading size v0 → Settled v0 (IsLostRead v0 size got block v2) v2) → SeesGood v0 got v2
not_seen_good following v0 v1 v2 got result bad seeking watched resets lost kept =
    let was = (watched (resets kept).0).0 in
    let s = seeking was in
    let l = lost s.1.0.0 [] (λ k. (s.0, (s.1.0.1, s.1.0.2))) kept in (
      was,
      (
        λ size blocks block is some. lost_moves v0 v2 size got block bad
            (lost size block (λ k. (s.0, (blocks, is))) kept).1,
        l.1.rest,
      ),
    )

record IsSeenGood (old : ControllerView) (size bits : ℕ) (new : ControllerView) : Type 0 where
  block : List ℕ
  was : old.unjudged ≡ Some block
  step : Steps old (ReadStep (seen old) size Came.Good block (seen new)) new
  same : new ≡ record (moved old new) {
    status = bits;
    transfer = less_one old.transfer;
    is_ready = false;
    unjudged = None;
  }

good_by : (v0 v1 : ControllerView) (size bits : ℕ) (ready : Bool) (following : Following) (block : List ℕ) → v0.unjudged ≡ Some block
    → v0.incoming ≡ [] → following_of v0.transfer ≡ following → (field 15 15 bits ≡ 1 → ⊥) → is_over_by following ready bits ≡ true
    → ReadLook (record v0 { is_ready = ready }) size bits v1 → IsSeenGood v0 size bits v1
good_by v0 v1 size bits ready following block some empty is fine found (read_waits zero not same) =
    absurd (false≢true (sym not ∙ (good_news v0 ready bits block following some empty is ∙ found)))
good_by v0 v1 size bits ready following block some empty is fine found (read_failed error steps same) = absurd (fine error)
good_by v0 v1 size bits ready following block some empty is fine found (read_comes other zero nothing there size_is same) =
    absurd (none_is_some v0.unjudged block nothing some)
good_by v0 v1 size bits ready following block some empty is fine found (read_good other zero was new step same) =
    record { block = other; was = was; step = step; same = same }

abbrev block_in : Option (List ℕ) → List ℕ
block_in None = []
block_in (Some block) = block

good_moves : (v0 v1 : ControllerView) (size bits : ℕ) (block : List ℕ) → v0.unjudged ≡ Some block → IsSeenGood v0 size bits v1
    → Moves v0 (ReadStep (seen v0) size Came.Good block (seen v1)) (less_one v0.transfer) v1
good_moves v0 v1 size bits block some good =
    let block_is : good.block ≡ block = ap (λ (o : Option (List ℕ)). block_in o) (sym good.was ∙ some) in
    record {
      step = subst (λ (l : List ℕ). Kept (seen v0) (ReadStep (seen v0) size Came.Good l (seen v1)) (seen v1)) block_is good.step;
      transfer = ap (λ (v : ControllerView). v.transfer) good.same;
      settings = ap (λ (v : ControllerView). v.settings) good.same;
      built = ap (λ (v : ControllerView). v.built) good.same;
    }

pub seen_good : (following : Following) (v0 v1 : ControllerView) (result : Option Glance) (x : Glance) → result ≡ Some x
    → is_error x.bits ≡ false → IsSeeking (Good following) v0 → Watches v0 (Good following) result v1 → SeesGood v0 Came.Good v1
seen_good following v0 v1 result x is fine seeking watched kept =
    let w = one_found (Good following) v0 v1 result x is watched kept in
    let s = seeking w.0 in
    let found : is_over_by following x.is_ready x.bits ≡ true = found_or_error (is_error x.bits) _ w.1.0 fine in
    let no_error : field 15 15 x.bits ≡ 1 → ⊥ =
    λ (one : field 15 15 x.bits ≡ 1). false≢true (sym fine ∙ ap (λ (n : ℕ). n == 1) one) in
    let good : (size blocks : ℕ) → v0.transfer ≡ Data.Read size blocks → IsSeenGood v0 size x.bits v1 =
    λ (size blocks : ℕ) (carried : v0.transfer ≡ Data.Read size blocks).
    good_by v0 v1 size x.bits x.is_ready following s.1.1.0.0 s.1.1.0.1 s.1.1.1.0 s.1.1.1.1 no_error found
    (subst (λ (d : Data). DataLooked (looking v0 x) d x.bits v1) carried w.1.1) in
    let one = good s.1.0.0 s.1.0.1 s.1.0.2 in (
      w.0,
      (
        λ size blocks block carried some. good_moves v0 v1 size x.bits block some (good size blocks carried),
        rests_clear v1
            (record {
              running = ap (λ (v : ControllerView). v.running) one.same ∙ s.0.running;
              stuck = ap (λ (v : ControllerView). v.is_stuck) one.same ∙ s.0.stuck;
              stale = ap (λ (v : ControllerView). v.is_stale) one.same ∙ s.0.stale;
              resetting = ap (λ (v : ControllerView). v.resetting) one.same ∙ s.0.resetting;
              stabilizing = ap (λ (v : ControllerView). v.settings.stabilizing) one.same ∙ s.0.stabilizing;
              starting = ap (λ (v : ControllerView). v.settings.starting) one.same ∙ s.0.starting;
              moving = ap (λ (v : ControllerView). v.dma.is_moving) one.same ∙ s.0.moving;
            })
            (ap (λ (v : ControllerView). v.outgoing) one.same ∙ s.1.1.1.2)
            (ap (λ (v : ControllerView). v.unjudged) one.same),
      ),
    )

-- One block: it was taken, and seen to be good or not.
pub read_through : (v0 v2 v3 : ControllerView) (under_way : Data) (size : ℕ) (block : List ℕ) (got : DataIn)
    → IsComing under_way size v0 → Settled v0 (IsTaken v0 block v2) v2 → SeesGood v2 got v3 → ReadsBlock v0 size got block v3
read_through v0 v2 v3 under_way size block got coming taken sees kept =
    let s = sees kept in
    let t = taken s.0 in
    let c = coming t.0 in
    let carried : v2.transfer ≡ v0.transfer = ap (λ (v : ControllerView). v.transfer) t.1 in
    let m = s.1.0 size c.1.0 block (carried ∙ (c.0 ∙ c.1.1)) (ap (λ (v : ControllerView). v.unjudged) t.1) in
    let same : seen v2 ≡ seen v0 = ap (λ (v : ControllerView). seen v) t.1 in (
      t.0,
      record {
        step = subst (λ (b : BusView). Kept b (ReadStep b size got block (seen v3)) (seen v3)) same m.step;
        transfer = m.transfer ∙ ap (λ (d : Data). if is_good got then less_one d else Data.Nothing) carried;
        settings = m.settings ∙ ap (λ (v : ControllerView). v.settings) t.1;
        built = m.built ∙ ap (λ (v : ControllerView). v.built) t.1;
      },
    )
