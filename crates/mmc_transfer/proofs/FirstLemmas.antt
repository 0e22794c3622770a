-- The command of a read and the blocks that come with it: one turn of a run, made of their exchanges.
use Rattle.std.proofs.Common.{Bool, ◌+◌, ◌<◌, ◌∙◌, ◌≡◌, ◌≤◌, List, add-one, ap, arith, length, refl, subst, suc, sym, true, zero, ℕ}
use Rattle.std.specs.Prelude.{◌==◌, Err, IfErr, None, Ok, Option, Result, Some, false, if◌then◌else◌, is_ok, nat_lt, slice_set}
use Rattle.std.proofs.lemmas.Bool.Decides.{nat_tests}
use Rattle.mmc_card.proofs.SectorLemmas.{old_maybe}
use Rattle.mmc_card.specs.BusView.{BusView}
use Rattle.mmc_card.specs.Card.{Card, holds}
use Rattle.mmc_card.specs.Sectors.{Change, Sector, Within, maybe_changed}
use Rattle.mmc_card.specs.declared.exchange.DataIn.{DataIn}
use Rattle.mmc_card.specs.declared.exchange.DataIn.TheVariants.{Good}
use Rattle.mmc_bus.proofs.WorkLemmas.{done_by, stays_same, stays_then}
use Rattle.mmc_bus.proofs.TogetherLemmas.{good_count, good_few}
use Rattle.mmc_bus.specs.Heard.{cause_of}
use Rattle.mmc_bus.specs.Together.{AreGood, BlockReceived, MovesAtMost, ReadOn, good_one, none_good, reads, reads_none, reads_nothing}
use Rattle.mmc_bus.specs.Work.{Narrows, Worked}
use Rattle.mmc_bus.specs.declared.cause.Cause.{Cause}
use Rattle.mmc_bus.specs.declared.cause.Cause.TheVariants as Why
use Rattle.mmc_bus.specs.declared.moved.Moved.{Moved}
use Rattle.mmc_bus.specs.declared.moved.Moved.TheVariants as Move
use Rattle.mmc_frame.specs.declared.kind.Kind.{Kind}
use Rattle.mmc_switch.proofs.ChangeLemmas.{within_twice}
use Rattle.mmc_switch.proofs.UnderWayLemmas.{goes_on, some_of}
use Rattle.mmc_switch.specs.Address.{address_of}
use Rattle.mmc_switch.specs.UnderWay.{HasFailed, IsUnderWay, Turn, broken_off, faults_then}
use Rattle.mmc_switch.specs.declared.session.Session.{Session}
use Rattle.mmc_transfer.proofs.BeginLemmas.{Starts, begin_goes_on, can_start}
use Rattle.mmc_transfer.proofs.TakeLemmas.{Received, take_ends, take_fails}
use Rattle.mmc_transfer.proofs.WholeLemmas.{same_change}
use Rattle.mmc_transfer.specs.First.{judged}
use Rattle.mmc_transfer.specs.Fits.{is_counted_by, phase_left}
use Rattle.mmc_switch.specs.Turns.{left_after}
use Rattle.mmc_transfer.specs.Moves.{after_read}
use Rattle.mmc_transfer.specs.Running.{Exact, IsIn, IsSending, Shown, Turned, WriteExact, by_way, change_of, is_counted}
use Rattle.mmc_transfer.specs.declared.job.Job.{Job}
use Rattle.mmc_transfer.specs.declared.phase.Phase.{Phase}
use Rattle.mmc_transfer.specs.declared.phase.Phase.TheVariants.{Block, Other}
use Rattle.mmc_transfer.specs.declared.phase.Step.TheVariants.{Command, Stop}
use Rattle.mmc_transfer.specs.declared.way.Way.TheVariants.{Read}

-- Turns one after the other.

pub turn_none : (change : Change) (Left : ℕ → BusView → Type 0) (faults : ℕ) (a : BusView) → Left faults a
    → Turn change Left faults a a
turn_none change Left faults a left = record {
  stays = stays_same a a.lines;
  within = old_maybe change (holds a.card);
  left = let same : faults ≡ faults_then faults a a = omega arith in subst (λ n. Left n a) same left;
}

pub turn_then : (change : Change) (First Left : ℕ → BusView → Type 0) (faults : ℕ) (a b c : BusView)
    → Turn change First faults a b → ((n : ℕ) → First n b → Turn change Left n b c) → Turn change Left faults a c
turn_then change First Left faults a b c f then_turned =
    let t = then_turned (faults_then faults a b) f.left in
    let l = f.stays.later in
    let m = t.stays.later in
    let sum : faults_then (faults_then faults a b) b c ≡ faults_then faults a c = omega (arith, l, m) in
    record {
      stays = stays_then a b c f.stays t.stays;
      within = within_twice change (holds a.card) (holds b.card) (holds c.card) f.within t.within;
      left = subst (λ n. Left n c) sum t.left;
    }

-- A run that has failed, of which nothing more is known but that the session's card stands: a fault has fallen.

abbrev pub Never : Card → Type 0
Never card = ⊥

abbrev pub IsLost : Session → ℕ → BusView → Type 0
IsLost session faults view = IsUnderWay session Never Never faults view

pub lost_fails : (session : Session) (cause : Cause) (faults : ℕ) (view : BusView) → IsLost session faults view
    → HasFailed (broken_off session cause) faults view
lost_fails session cause faults view lost = record {
  is_broken = record { is_card = lost.is_card; knows = lost.knows; stands = λ no_reset. lost.stands };
  fell = some_of faults lost.fine;
}

-- A block, as work.

pub good_received : (a b : BusView) (bytes : Sector) → BlockReceived a Good bytes b → b.is_kept ≡ true
    → Received 512 bytes (Ok tt) a b
good_received a b bytes e kept =
    let k = e.kept kept in
    done_by a b k k.step.stays (record { lines = e.lines; stands = k.step.stands }) k.step.narrows
    (λ ok. k.step.good refl) (λ same can rests. refl)

pub none_received : (a b : BusView) (got : DataIn) (bytes : Sector) → (got ≡ Good → ⊥) → BlockReceived a got bytes b
    → b.is_kept ≡ true → Received 512 bytes (Err Why.Data) a b
none_received a b got bytes not e kept =
    let k = e.kept kept in
    done_by a b k k.step.stays (record { lines = e.lines; stands = k.step.stands }) k.step.narrows
    (λ ok. absurd (cc)) (λ same can rests. absurd (not (k.step.fine same can rests)))

-- Once a run has failed they change nothing.
pub lost_on : (job : Job) (a b : BusView) (faults : ℕ) (blocks : List Sector) {Own Fine : BusView → BusView → Type 0}
    → Worked Narrows Own Fine a b → IsLost job.session faults a
    → Turn (change_of job blocks) (λ n v. IsLost job.session n v) faults a b
lost_on job a b faults blocks work lost = record {
  stays = work.stays;
  within = λ part s value h.
      old_maybe (change_of job blocks) (holds a.card) part s value (work.sectors part s value h);
  left = goes_on job.session Never Never faults a b lost work Never Never (λ s. s) (λ exact s. s) (λ exact same. exact);
}

pub judged_few : {T : Type 0} (started : Result Unit Cause) (moved : Moved T) (most n : ℕ) → MovesAtMost moved most
    → judged started moved ≡ Ok n → n ≤ most
judged_few (Ok done) (Move.Good good) most n few is = let same : good ≡ n = cc in omega (arith, few, same)
judged_few (Err cause) (Move.Good zero) most n few is = cc
judged_few (Err cause) (Move.Good (suc good)) most n few is = cc
judged_few started (Move.Failed got) most n few is = cc

-- what is left after so many blocks
left_moved : (count : ℕ) (cmd23 : Bool) (good : ℕ) (next known : Bool) → is_counted_by count cmd23 ≡ known
    → good ≤ count → 1 ≤ count
    → 1 + good + left_after (phase_left count cmd23) (if next then Some (Block good) else if known then None else Some (Other Stop))
    ≤ phase_left count cmd23 (Other Command)
left_moved count cmd23 good true known is few some = omega (arith, few)
left_moved count cmd23 good false true is few some = omega (arith, few, some)
left_moved count cmd23 good false false is few some = rw is (omega (arith, few, some))

pub after_read_left : (job : Job) (good : ℕ) → good ≤ job.count
    → 1 + good + left_after (phase_left job.count job.session.info.cmd23) (after_read job good)
    ≤ phase_left job.count job.session.info.cmd23 (Other Command)
after_read_left job good few =
    left_moved job.count job.session.info.cmd23 good (nat_lt good job.count) (is_counted job) refl few job.some

pub some_left : (job : Job) → job.count + 1 ≤ phase_left job.count job.session.info.cmd23 (Other Command)
some_left job = omega arith

next_is : (job : Job) (done : ℕ) → done < job.count → after_read job done ≡ Some (Block done)
next_is job done more =
    let test : nat_lt done job.count ≡ true = grind (arith, nat_tests) in rw test refl

module _ {S : Type 0} (blocks : S → List (List ℕ)) (leave : S → ℕ → List ℕ → S)
    (one : (s : S) (i : ℕ) (left : List ℕ) → i < length (blocks s) → length left ≡ 512
    → blocks (leave s i left) ≡ slice_set (blocks s) i left)
    (job : Job) (way : job.way ≡ Read) (was : S) (full : length (blocks was) ≡ job.count) (between : BusView) where
  -- Any bus: a block is one exchange, and the last one where there was any.
  pub counted : (k : ℕ) (view : BusView) (now : S) → AreGood BlockReceived blocks leave between was k view now
      → view.exchanges ≤ between.exchanges + k
  counted k view now none_good = omega arith
  counted k view now (good_one done from held left next before below long read) =
      let n = counted done from held before in
      let one_more = read.exchanges in
      omega (arith, n, one_more)

  pub kept_between : (k : ℕ) (view : BusView) (now : S) → AreGood BlockReceived blocks leave between was k view now
      → view.is_kept ≡ true → between.is_kept ≡ true
  kept_between k view now none_good kept = kept
  kept_between k view now (good_one done from held left next before below long read) kept =
      kept_between done from held before (read.kept kept).was_kept

  pub caused_by : (k : ℕ) (view : BusView) (now : S) → AreGood BlockReceived blocks leave between was k view now
      → 0 < k → cause_of view.last ≡ Some Why.Data
  caused_by k view now none_good some = absurd (omega (arith, some))
  caused_by k view now (good_one done from held left next before below long read) some = ap cause_of read.last

  -- none at all
  pub none_moved : (k : ℕ) (view : BusView) (now : S) → AreGood BlockReceived blocks leave between was k view now
      → k ≡ 0 → (view ≡ between) × (now ≡ was)
  none_moved k view now none_good none = (refl, refl)
  none_moved k view now (good_one done from held left next before below long read) none = cc

  count_in : (k : ℕ) (view : BusView) (now : S) → AreGood BlockReceived blocks leave between was k view now
      → length (blocks now) ≡ job.count
  count_in k view now all = good_count between was one k view now all ∙ full

  -- The blocks that came are those that the sectors hold.
  pub blocks_turned : (k : ℕ) (view : BusView) (now : S) → AreGood BlockReceived blocks leave between was k view now
      → view.is_kept ≡ true → (faults : ℕ) → IsIn job (blocks was) (Block 0) faults between
      → Turned job (blocks now) faults between (Ok (after_read job k)) view
  blocks_turned k view now none_good kept faults at =
      let some = job.some in
      let first = next_is job 0 (omega (arith, some)) in
      rw first (turn_none (change_of job (blocks was)) (λ n v. IsIn job (blocks was) (Block 0) n v) faults between at)
  blocks_turned k view now (good_one done from held left next before below long read) kept faults at =
      let count = count_in done from held before in
      let more : done < job.count = omega (arith, below, count) in
      let so_far = blocks_turned done from held before (read.kept kept).was_kept faults at in
      let is_in : Turn (change_of job (blocks held)) (λ n v. IsIn job (blocks held) (Block done) n v) faults between from =
      rw (next_is job done more) at so_far in
      let same = same_change job (blocks held) (blocks (leave held done left)) way in
      turn_then (change_of job (blocks (leave held done left))) (λ n v. IsIn job (blocks held) (Block done) n v) _ faults
      between from next
      (subst (λ change. Turn change (λ n v. IsIn job (blocks held) (Block done) n v) faults between from) same is_in)
      (λ n here. take_ends job (blocks held) (blocks (leave held done left)) done n left way more count long
      (one held done left) from next here 512 (good_received from next left read kept) (after_read job (suc done))
      (ap (after_read job) (sym (add-one done))))

  pub blocks_lost : (k : ℕ) (view : BusView) (now : S) (news : List Sector)
      → AreGood BlockReceived blocks leave between was k view now
      → view.is_kept ≡ true → (faults : ℕ) → IsLost job.session faults between
      → Turn (change_of job news) (λ n v. IsLost job.session n v) faults between view
  blocks_lost k view now news none_good kept faults lost =
      turn_none (change_of job news) (λ n v. IsLost job.session n v) faults between lost
  blocks_lost k view now news (good_one done from held left next before below long read) kept faults lost =
      turn_then (change_of job news) (λ n v. IsLost job.session n v) _ faults between from next
      (blocks_lost done from held news before (read.kept kept).was_kept faults lost)
      (λ n here. lost_on job from next n news (good_received from next left read kept) here)

  -- Over any bus.

  pub first_costs : (moved : Moved DataIn) (new : BusView) (now : S)
      → ReadOn BlockReceived blocks leave between was moved new now → new.exchanges ≤ between.exchanges + job.count
  first_costs moved new now (reads good next held all) =
      let n = counted good next held all in
      let few = good_few between was one good next held all in
      omega (arith, n, few, full)
  first_costs moved new now (reads_nothing held lent) = omega arith
  first_costs moved new now (reads_none some view held last got left next all below long not read lent) =
      let n = counted some view held all in
      let more = read.exchanges in
      let count = count_in some view held all in
      omega (arith, n, more, below, count)

  pub all_cost : (started : Result Unit Cause) (moved : Moved DataIn) (new : BusView) (now : S)
      → ReadOn BlockReceived blocks leave between was moved new now → (n : ℕ) → judged started moved ≡ Ok n
      → new.exchanges ≤ between.exchanges + n
  all_cost (Ok done) moved new now (reads good next held all) n is =
      let cost = counted good next held all in let same : good ≡ n = cc in omega (arith, cost, same)
  all_cost (Err why) moved new now (reads zero next held all) n is = cc
  all_cost (Err why) moved new now (reads (suc good) next held all) n is = cc
  all_cost started moved new now (reads_nothing held lent) n is = omega arith
  all_cost started moved new now (reads_none some view held last got left next all below long not read lent) n is = cc

  pub first_kept : (moved : Moved DataIn) (new : BusView) (now : S)
      → ReadOn BlockReceived blocks leave between was moved new now → new.is_kept ≡ true → between.is_kept ≡ true
  first_kept moved new now (reads good next held all) kept = kept_between good next held all kept
  first_kept moved new now (reads_nothing held lent) kept = kept
  first_kept moved new now (reads_none some view held last got left next all below long not read lent) kept =
      kept_between some view held all (read.kept kept).was_kept

  pub first_caused : (started : Result Unit Cause) (moved : Moved DataIn) (new : BusView) (now : S)
      → ReadOn BlockReceived blocks leave between was moved new now
      → IfErr started (λ cause. cause_of between.last ≡ Some cause)
      → (cause : Cause) → judged started moved ≡ Err cause → cause_of new.last ≡ Some cause
  first_caused (Ok done) moved new now (reads good next held all) ends cause is = cc
  first_caused (Err why) moved new now (reads zero next held all) ends cause is =
      let same = (none_moved 0 next held all refl).0 in
      rw same (ends ∙ cc)
  first_caused (Err why) moved new now (reads (suc good) next held all) ends cause is =
      caused_by (suc good) next held all (omega arith) ∙ cc
  first_caused (Ok done) moved new now (reads_nothing held lent) ends cause is = cc
  first_caused (Err why) moved new now (reads_nothing held lent) ends cause is = ends ∙ cc
  first_caused started moved new now (reads_none some view held last got left next all below long not read lent) ends cause is =
      ap cause_of read.last ∙ cc

  module _ (kind : Kind) (address : ℕ) (a : BusView) (of_kind : kind ≡ job.session.info.kind)
      (addressed : address ≡ address_of job.session.info.addressing job.start)
      (faults : ℕ) (at : IsIn job (blocks was) (Other Command) faults a) where
    -- The command was answered well.

    begun_with : (news : List Sector) → Starts kind job.way (job.count == 1) address true a between
        → Turn (change_of job news) (λ n v. IsIn job (blocks was) (Block 0) n v) faults a between
    begun_with news work =
        subst (λ change. Turn change (λ n v. IsIn job (blocks was) (Block 0) n v) faults a between)
        (same_change job (blocks was) news way)
        (begin_goes_on job (blocks was) faults kind address a between of_kind addressed at work)

    pub all_came : (good : ℕ) (new : BusView) (now : S) → AreGood BlockReceived blocks leave between was good new now
        → new.is_kept ≡ true → Starts kind job.way (job.count == 1) address true a between
        → Turned job (blocks now) faults a (Ok (after_read job good)) new
    all_came good new now all kept work =
        turn_then (change_of job (blocks now)) (λ n v. IsIn job (blocks was) (Block 0) n v) _ faults a between new
        (begun_with (blocks now) work) (λ n here. blocks_turned good new now all kept n here)

    pub one_failed : (good : ℕ) (view : BusView) (held : S) (got : DataIn) (left : List ℕ) (new : BusView)
        → AreGood BlockReceived blocks leave between was good view held → good < length (blocks held)
        → length left ≡ 512 → (got ≡ Good → ⊥) → BlockReceived view got left new
        → new.is_kept ≡ true → Starts kind job.way (job.count == 1) address true a between
        → Turned job (blocks (leave held good left)) faults a (Err Why.Data) new
    one_failed good view held got left new all below long not read kept work =
        let news : List Sector = blocks (leave held good left) in
        let count = count_in good view held all in
        let more : good < job.count = omega (arith, below, count) in
        turn_then (change_of job news) (λ n v. IsIn job (blocks was) (Block 0) n v) _ faults a between new
        (begun_with news work)
        (λ n here.
        let came = blocks_turned good view held all (read.kept kept).was_kept n here in
        let is_in : Turn (change_of job (blocks held)) (λ n v. IsIn job (blocks held) (Block good) n v) n between view =
        rw (next_is job good more) at came in
        turn_then (change_of job news) (λ n v. IsIn job (blocks held) (Block good) n v) _ n between view new
        (subst (λ change. Turn change (λ n v. IsIn job (blocks held) (Block good) n v) n between view)
        (same_change job (blocks held) news way) is_in)
        (λ m there. take_fails job (blocks held) news good m left way more count long (one held good left) view new there
        512 Why.Data (Err Why.Data) refl refl (none_received view new got left not read kept)))

    -- Before the first block, what the blocks hold is of no weight.
    sending_yet : (xs ys : List Sector) (card : Card) → IsSending 0 job xs card → IsSending 0 job ys card
    sending_yet xs ys card sends = record {
      quiet = sends.quiet;
      rests = sends.rests;
      up_to_date = sends.up_to_date;
      errors = sends.errors;
      source = sends.source;
      next = sends.next;
      left = sends.left;
      read = λ i less. absurd (omega (arith, less));
    }

    exact_yet : (xs ys : List Sector) (card : Card) → Exact job xs (Block 0) card → Exact job ys (Block 0) card
    exact_yet xs ys card exact =
        let sends : IsSending 0 job xs card =
        subst (λ w. by_way w (IsSending 0 job xs card) (WriteExact job xs (Block 0) card)) way exact in
        subst (λ w. by_way w (IsSending 0 job ys card) (WriteExact job ys (Block 0) card)) (sym way)
        (sending_yet xs ys card sends)

    begun_as : (xs ys : List Sector) (new : BusView) → Turned job xs faults a (Ok (Some (Block 0))) new
        → Turned job ys faults a (Ok (Some (Block 0))) new
    begun_as xs ys new t = record {
      stays = t.stays;
      within = subst (λ (c : Change). Within (holds new.card) (maybe_changed c (holds a.card))) (same_change job xs ys way)
          t.within;
      left = record {
        under_way = record {
          is_card = t.left.under_way.is_card;
          knows = t.left.under_way.knows;
          stands = t.left.under_way.stands;
          shown = λ s. exact_yet xs ys new.card (t.left.under_way.shown s);
          fine = λ f. exact_yet xs ys new.card (t.left.under_way.fine f);
        };
        placed = t.left.placed;
      };
    }

    pub none_yet : (held : S) → between.is_kept ≡ true → Starts kind job.way (job.count == 1) address true a between
        → Turned job (blocks held) faults a (Ok (after_read job 0)) between
    none_yet held kept work =
        let some = job.some in
        let first : after_read job 0 ≡ Some (Block 0) = next_is job 0 (omega (arith, some)) in
        subst (λ (o : Option Phase). Turned job (blocks held) faults a (Ok o) between) (sym first)
        (begun_as (blocks was) (blocks held) between
        (subst (λ (o : Option Phase). Turned job (blocks was) faults a (Ok o) between) first
        (all_came 0 between was none_good kept work)))

    -- where it has failed, what the blocks hold is of no weight
    failed_as : (xs ys : List Sector) (cause : Cause) (new : BusView) → Turned job xs faults a (Err cause) new
        → Turned job ys faults a (Err cause) new
    failed_as xs ys cause new t = record {
      stays = t.stays;
      within = subst (λ (c : Change). Within (holds new.card) (maybe_changed c (holds a.card))) (same_change job xs ys way)
          t.within;
      left = t.left;
    }

    -- It wasn't.

    lost_begun : (news : List Sector) → Starts kind job.way (job.count == 1) address false a between
        → Turn (change_of job news) (λ n v. IsLost job.session n v) faults a between
    lost_begun news work = record {
      stays = work.stays;
      within = λ part s value h.
          old_maybe (change_of job news) (holds a.card) part s value (work.sectors part s value h);
      left = goes_on job.session (Shown job.way (Other Command)) (Exact job (blocks was) (Other Command)) faults a between
          at.under_way work Never Never (λ s. absurd s) (λ exact s. s)
          (λ exact same. cc (work.fine same (can_start job (blocks was) faults kind address a between of_kind addressed at exact)));
    }

    lost_failed : (news : List Sector) (cause : Cause) (new : BusView)
        → Turn (change_of job news) (λ n v. IsLost job.session n v) faults a new
        → Turned job news faults a (Err cause) new
    lost_failed news cause new lost = record {
      stays = lost.stays;
      within = lost.within;
      left = lost_fails job.session cause (faults_then faults a new) new lost.left;
    }

    pub none_came : (cause : Cause) (new : BusView) (now : S) → AreGood BlockReceived blocks leave between was 0 new now
        → new.is_kept ≡ true → Starts kind job.way (job.count == 1) address false a between
        → Turned job (blocks now) faults a (Err cause) new
    none_came cause new now all kept work =
        lost_failed (blocks now) cause new
        (turn_then (change_of job (blocks now)) (λ n v. IsLost job.session n v) _ faults a between new
        (lost_begun (blocks now) work) (λ n here. blocks_lost 0 new now (blocks now) all kept n here))

    pub some_came : (good : ℕ) (new : BusView) (now : S) → AreGood BlockReceived blocks leave between was good new now
        → new.is_kept ≡ true → Starts kind job.way (job.count == 1) address false a between
        → Turned job (blocks now) faults a (Err Why.Data) new
    some_came good new now all kept work =
        lost_failed (blocks now) Why.Data new
        (turn_then (change_of job (blocks now)) (λ n v. IsLost job.session n v) _ faults a between new
        (lost_begun (blocks now) work) (λ n here. blocks_lost good new now (blocks now) all kept n here))

    pub some_failed : (good : ℕ) (view : BusView) (held : S) (got : DataIn) (left : List ℕ) (new : BusView)
        → AreGood BlockReceived blocks leave between was good view held → (got ≡ Good → ⊥)
        → BlockReceived view got left new
        → new.is_kept ≡ true → Starts kind job.way (job.count == 1) address false a between
        → Turned job (blocks (leave held good left)) faults a (Err Why.Data) new
    some_failed good view held got left new all not read kept work =
        let news : List Sector = blocks (leave held good left) in
        lost_failed news Why.Data new
        (turn_then (change_of job news) (λ n v. IsLost job.session n v) _ faults a between new
        (lost_begun news work)
        (λ n here. turn_then (change_of job news) (λ n v. IsLost job.session n v) _ n between view new
        (blocks_lost good view held news all (read.kept kept).was_kept n here)
        (λ m there. lost_on job view new m news (none_received view new got left not read kept) there)))

    -- So the run goes on as its exchanges say.
    abbrev pub outcome : Result ℕ Cause → Result (Option Phase) Cause
    outcome (Ok good) = Ok (after_read job good)
    outcome (Err cause) = Err cause

    pub first_turned : (started : Result Unit Cause) (moved : Moved DataIn) (new : BusView) (now : S)
        → ReadOn BlockReceived blocks leave between was moved new now → new.is_kept ≡ true
        → (between.is_kept ≡ true → Starts kind job.way (job.count == 1) address (is_ok started) a between)
        → (r : Result (Option Phase) Cause) → r ≡ outcome (judged started moved)
        → Turned job (blocks now) faults a r new
    first_turned (Ok done) moved new now (reads good next held all) kept work r is =
        rw is (all_came good next held all kept (work (kept_between good next held all kept)))
    first_turned (Ok done) moved new now
        (reads_none some view held last got left next all below long not read lent) kept work r is =
        rw is (failed_as (blocks (leave held some left)) (blocks last) Why.Data next
        (one_failed some view held got left next all below long not read kept
        (work (kept_between some view held all (read.kept kept).was_kept))))
    first_turned (Ok done) moved new now (reads_nothing held lent) kept work r is = rw is (none_yet held kept (work kept))
    first_turned (Err cause) moved new now (reads_nothing held lent) kept work r is =
        rw is (failed_as (blocks was) (blocks held) cause between (none_came cause between was none_good kept (work kept)))
    first_turned (Err cause) moved new now (reads zero next held all) kept work r is =
        rw is (none_came cause next held all kept (work (kept_between 0 next held all kept)))
    first_turned (Err cause) moved new now (reads (suc good) next held all) kept work r is =
        rw is (some_came (suc good) next held all kept (work (kept_between (suc good) next held all kept)))
    first_turned (Err cause) moved new now
        (reads_none some view held last got left next all below long not read lent) kept work r is =
        rw is (failed_as (blocks (leave held some left)) (blocks last) Why.Data next
        (some_failed some view held got left next all not read kept
        (work (kept_between some view held all (read.kept kept).was_kept))))

    pub first_goes_on : (started : Result Unit Cause) (moved : Moved DataIn) (new : BusView) (now : S)
        → ReadOn BlockReceived blocks leave between was moved new now → new.is_kept ≡ true
        → (between.is_kept ≡ true → Starts kind job.way (job.count == 1) address (is_ok started) a between)
        → (n : ℕ) → judged started moved ≡ Ok n → (next : Option Phase) → next ≡ after_read job n
        → Turned job (blocks now) faults a (Ok next) new
    first_goes_on started moved new now read kept work n is next to =
        first_turned started moved new now read kept work (Ok next)
        (ap (λ (x : Option Phase). Ok x) to ∙ ap outcome (sym is))

    pub first_fails : (started : Result Unit Cause) (moved : Moved DataIn) (new : BusView) (now : S)
        → ReadOn BlockReceived blocks leave between was moved new now → new.is_kept ≡ true
        → (between.is_kept ≡ true → Starts kind job.way (job.count == 1) address (is_ok started) a between)
        → (cause : Cause) → judged started moved ≡ Err cause
        → Turned job (blocks now) faults a (Err cause) new
    first_fails started moved new now read kept work cause is =
        first_turned started moved new now read kept work (Err cause) (ap outcome (sym is))
