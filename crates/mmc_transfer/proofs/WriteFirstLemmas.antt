-- The blocks of a write that go with its command: one turn of a run, made of their exchanges.
use Rattle.std.proofs.Common.{◌&&◌, [], ◌+◌, ◌<◌, ◌∙◌, ◌≡◌, ◌≤◌, Bool, List, add-one, ap, arith, length, false, refl, subst, suc, sym, true, zero, ℕ}
use Rattle.std.specs.Prelude.{◌==◌, Err, IfErr, IsTrue, Ok, Option, Result, Some, if◌then◌else◌, is_ok, slice_index_or}
use Rattle.std.proofs.lemmas.Bool.Decides.{nat_tests}
use Rattle.std.proofs.Common.{◌*◌, ◌⊎◌, inl, inr}
use Rattle.std.proofs.lemmas.Bool.{cases_lt}
use Rattle.mmc_frame.specs.declared.card_state.State.{State}
use Rattle.mmc_frame.specs.declared.card_state.State.TheVariants.{Rcv, Tran}
use Rattle.mmc_frame.specs.declared.kind.Kind.{Kind}
use Rattle.mmc_card.proofs.Narrow.{accepts_in_rcv}
use Rattle.mmc_card.proofs.SectorLemmas.{old_maybe}
use Rattle.mmc_card.specs.Card.{NoAddress, holds, is_in}
use Rattle.mmc_bus.proofs.WorkLemmas.{worked_as}
use Rattle.mmc_bus.specs.Heard.{cause_of}
use Rattle.mmc_card.specs.Laws.{IsStill}
use Rattle.mmc_switch.proofs.UnderWayLemmas.{goes_on, still_idle}
use Rattle.mmc_switch.specs.Address.{address_of}
use Rattle.mmc_switch.specs.UnderWay.{HasFailed, IsIdle, broken_off, faults_then}
use Rattle.mmc_transfer.proofs.BeginLemmas.{Starts, begin_fails, begin_goes_on}
use Rattle.mmc_transfer.proofs.FirstLemmas.{IsLost, Never, lost_fails}
use Rattle.mmc_transfer.proofs.StepLemmas.{from_both}
use Rattle.mmc_transfer.specs.Commands.{starts}
use Rattle.mmc_transfer.specs.First.{judged}
use Rattle.mmc_transfer.specs.Running.{preset_of}
use Rattle.mmc_card.specs.BusView.{BusView}
use Rattle.mmc_card.specs.Sectors.{Sector}
use Rattle.mmc_card.specs.declared.exchange.DataOut.{DataOut}
use Rattle.mmc_card.specs.declared.exchange.DataOut.TheVariants.{Accepted}
use Rattle.mmc_bus.proofs.TogetherLemmas.{accepted_few}
use Rattle.mmc_bus.proofs.WorkLemmas.{done_by}
use Rattle.mmc_bus.specs.Together.{AreAccepted, BlockOffered, FoundAtRest, RestsAfter, WrittenOn, accepted_one, none_accepted}
use Rattle.mmc_bus.specs.Together.{writes, writes_none}
use Rattle.mmc_bus.specs.declared.cause.Cause.{Cause}
use Rattle.mmc_bus.specs.declared.cause.Cause.TheVariants as Why
use Rattle.mmc_bus.specs.declared.moved.Moved.{Moved}
use Rattle.mmc_bus.specs.declared.moved.Moved.TheVariants as Move
use Rattle.mmc_switch.proofs.EndingLemmas.{one_polls_by}
use Rattle.mmc_switch.specs.UnderWay.{Turn}
use Rattle.mmc_transfer.proofs.FirstLemmas.{turn_none, turn_then}
use Rattle.mmc_transfer.proofs.GiveLemmas.{Offered, give_ends, give_fails}
use Rattle.mmc_transfer.proofs.PauseLemmas.{pause_ends}
use Rattle.mmc_transfer.specs.Moves.{after_written, after_write_command}
use Rattle.mmc_transfer.specs.Fits.{end_of, is_counted_by, phase_fits, phase_left}
use Rattle.mmc_switch.specs.declared.ending.TheConstants.{EXCHANGES_OF_AN_ENDING}
use Rattle.mmc_switch.specs.declared.ending.Ending.TheVariants.{Wait}
use Rattle.mmc_transfer.specs.declared.phase.Step.TheVariants.{End}
use Rattle.mmc_transfer.specs.Running.{IsIn, Turned, change_of, is_counted}
use Rattle.mmc_transfer.specs.declared.job.Job.{Job}
use Rattle.mmc_transfer.specs.declared.phase.Phase.{Phase}
use Rattle.mmc_transfer.specs.declared.phase.Phase.TheVariants.{Block, Other}
use Rattle.mmc_transfer.specs.declared.phase.Step.TheVariants.{Command, Pause}
use Rattle.mmc_transfer.specs.declared.way.Way.TheVariants.{Write}

-- A block, as work.

good_offered : (a b : BusView) (bytes : Sector) → BlockOffered a bytes Accepted b → b.is_kept ≡ true
    → Offered bytes (Ok tt) a b
good_offered a b bytes e kept =
    let k = e.kept kept in
    done_by a b k k.step.stays (record { lines = e.lines; stands = k.step.stands }) k.step.widens
    (λ ok. k.step.accepts refl) (λ same can. (refl, (k.step.fine same can).1))

none_offered : (a b : BusView) (got : DataOut) (bytes : Sector) → (got ≡ Accepted → ⊥) → BlockOffered a bytes got b
    → b.is_kept ≡ true → Offered bytes (Err Why.Data) a b
none_offered a b got bytes not e kept =
    let k = e.kept kept in
    done_by a b k k.step.stays (record { lines = e.lines; stands = k.step.stands }) k.step.widens
    (λ ok. absurd (cc)) (λ same can. absurd (not (k.step.fine same can).0))

pauses : (job : Job) (done : ℕ) → done < job.count → after_written job done ≡ Pause done 0
pauses job done more =
    let test : ((done == job.count) && is_counted job) ≡ false = grind (arith, nat_tests) in rw test refl

module _ (job : Job) (blocks : List Sector) (way : job.way ≡ Write) (full : length blocks ≡ job.count)
    (between : BusView) where
  -- the card is found no longer busy, where a block went before
  rested_turn : (done : ℕ) (view ready : BusView) → RestsAfter FoundAtRest done view ready → done < job.count
      → ready.is_kept ≡ true → (faults : ℕ) → IsIn job blocks (after_write_command job done) faults view
      → Turn (change_of job blocks) (λ n v. IsIn job blocks (Block done) n v) faults view ready
  rested_turn zero view ready rests more kept faults at =
      subst (λ v. Turn (change_of job blocks) (λ n x. IsIn job blocks (Block 0) n x) faults view v) (sym rests)
      (turn_none (change_of job blocks) (λ n v. IsIn job blocks (Block 0) n v) faults view at)
  rested_turn (suc done) view ready rests more kept faults at =
      pause_ends job blocks faults (suc done) 0 view ready
      (subst (λ step. IsIn job blocks (Other step) faults view) (pauses job (suc done) more) at)
      (one_polls_by view ready rests kept)

  -- kept backwards
  rested_kept : (done : ℕ) (view ready : BusView) → RestsAfter FoundAtRest done view ready → ready.is_kept ≡ true
      → view.is_kept ≡ true
  rested_kept zero view ready rests kept = subst (λ (v : BusView). v.is_kept ≡ true) rests kept
  rested_kept (suc done) view ready rests kept = (rests.kept kept).was_kept

  pub blocks_written : (k : ℕ) (view : BusView) → AreAccepted BlockOffered FoundAtRest blocks between k view
      → view.is_kept ≡ true → (faults : ℕ) → IsIn job blocks (Block 0) faults between
      → Turn (change_of job blocks) (λ n v. IsIn job blocks (after_write_command job k) n v) faults between view
  blocks_written k view none_accepted kept faults at =
      turn_none (change_of job blocks) (λ n v. IsIn job blocks (Block 0) n v) faults between at
  blocks_written k view (accepted_one done from ready next before rests below written) kept faults at =
      let more : done < job.count = omega (arith, below, full) in
      let was = (written.kept kept).was_kept in
      let was_from = rested_kept done from ready rests was in
      turn_then (change_of job blocks) (λ n v. IsIn job blocks (after_write_command job done) n v) _ faults between from next
      (blocks_written done from before was_from faults at)
      (λ n here. turn_then (change_of job blocks) (λ m v. IsIn job blocks (Block done) m v) _ n from ready next
      (rested_turn done from ready rests more was n here)
      (λ m there. give_ends job blocks done m (slice_index_or blocks done []) way more full refl ready next there
      (after_written job (suc done)) (ap (after_written job) (sym (add-one done)))
      (good_offered ready next (slice_index_or blocks done []) written kept)))

  pub block_refused : (good : ℕ) (view ready : BusView) (got : DataOut) (new : BusView)
      → AreAccepted BlockOffered FoundAtRest blocks between good view → RestsAfter FoundAtRest good view ready
      → good < length blocks → (got ≡ Accepted → ⊥) → BlockOffered ready (slice_index_or blocks good []) got new
      → new.is_kept ≡ true → (faults : ℕ) → IsIn job blocks (Block 0) faults between
      → Turned job blocks faults between (Err Why.Data) new
  block_refused good view ready got new all rests below not written kept faults at =
      let more : good < job.count = omega (arith, below, full) in
      let was = (written.kept kept).was_kept in
      let was_view = rested_kept good view ready rests was in
      turn_then (change_of job blocks) (λ n v. IsIn job blocks (after_write_command job good) n v) _ faults between view new
      (blocks_written good view all was_view faults at)
      (λ n here. turn_then (change_of job blocks) (λ m v. IsIn job blocks (Block good) m v) _ n view ready new
      (rested_turn good view ready rests more was n here)
      (λ m there. give_fails job blocks good m (slice_index_or blocks good []) way more full refl ready new there Why.Data
      (Err Why.Data) refl (none_offered ready new got (slice_index_or blocks good []) not written kept)))

  rested_later : (done : ℕ) (view ready : BusView) → RestsAfter FoundAtRest done view ready → ready.is_kept ≡ true
      → view.faults ≤ ready.faults
  rested_later zero view ready rests kept = let same = ap (λ (v : BusView). v.faults) rests in omega (arith, same)
  rested_later (suc done) view ready rests kept = (rests.kept kept).step.stays.later

  -- Any bus: a block is one exchange, and a poll between two another.
  rested_costs : (done : ℕ) (view ready : BusView) → RestsAfter FoundAtRest done view ready
      → (ready.exchanges ≤ view.exchanges + 1) × (done ≡ 0 → ready.exchanges ≤ view.exchanges)
  rested_costs zero view ready rests =
      let same = ap (λ (v : BusView). v.exchanges) rests in (omega (arith, same), λ none. omega (arith, same))
  rested_costs (suc done) view ready rests = let n = rests.exchanges in (omega (arith, n), λ none. cc)

  pub written_costs : (k : ℕ) (view : BusView) → AreAccepted BlockOffered FoundAtRest blocks between k view
      → (view.exchanges ≤ between.exchanges + 2 * k) × (0 < k → view.exchanges + 1 ≤ between.exchanges + 2 * k)
  written_costs k view none_accepted = (omega arith, λ some. absurd (omega (arith, some)))
  written_costs k view (accepted_one done from ready next before rests below written) =
      let n = written_costs done from before in
      let r = rested_costs done from ready rests in
      let m = written.exchanges in
      elim (cases_lt 0 done) [
        | inl some ↦
            (let e = n.1 some in
            let o = r.0 in
            let sum : next.exchanges + 1 ≤ between.exchanges + 2 * suc done = omega (arith, e, o, m) in
            (omega (arith, sum), λ h. sum))
        | inr least ↦
            (let none : done ≡ 0 = omega (arith, least) in
            let e = n.0 in
            let o = r.1 none in
            let sum : next.exchanges + 1 ≤ between.exchanges + 2 * suc done = omega (arith, e, o, m, none) in
            (omega (arith, sum), λ h. sum))
      ]

  blocks_later : (k : ℕ) (view : BusView) → AreAccepted BlockOffered FoundAtRest blocks between k view
      → view.is_kept ≡ true → between.faults ≤ view.faults
  blocks_later k view none_accepted kept = omega arith
  blocks_later k view (accepted_one done from ready next before rests below written) kept =
      let s = written.kept kept in
      let later = s.step.stays.later in
      let polled = rested_later done from ready rests s.was_kept in
      let n = blocks_later done from before (rested_kept done from ready rests s.was_kept) in
      omega (arith, n, polled, later)

  pub accepted_kept : (k : ℕ) (view : BusView) → AreAccepted BlockOffered FoundAtRest blocks between k view
      → view.is_kept ≡ true → between.is_kept ≡ true
  accepted_kept k view none_accepted kept = kept
  accepted_kept k view (accepted_one done from ready next before rests below written) kept =
      accepted_kept done from before (rested_kept done from ready rests (written.kept kept).was_kept)

  none_gone : (k : ℕ) (view : BusView) → AreAccepted BlockOffered FoundAtRest blocks between k view → k ≡ 0 → view ≡ between
  none_gone k view none_accepted none = refl
  none_gone k view (accepted_one done from ready next before rests below written) none = cc

  caused_by : (k : ℕ) (view : BusView) → AreAccepted BlockOffered FoundAtRest blocks between k view → 0 < k
      → cause_of view.last ≡ Some Why.Data
  caused_by k view none_accepted some = absurd (omega (arith, some))
  caused_by k view (accepted_one done from ready next before rests below written) some = ap cause_of written.last

  pub all_cost : (started : Result Unit Cause) (moved : Moved DataOut) (new : BusView)
      → WrittenOn BlockOffered FoundAtRest blocks between moved new → (n : ℕ) → judged started moved ≡ Ok n
      → (new.exchanges ≤ between.exchanges + 2 * n) × (0 < n → new.exchanges + 1 ≤ between.exchanges + 2 * n)
  all_cost (Ok done) moved new (writes good next all) n is =
      let same : good ≡ n = cc in
      subst (λ k. (next.exchanges ≤ between.exchanges + 2 * k) × (0 < k → next.exchanges + 1 ≤ between.exchanges + 2 * k)) same
      (written_costs good next all)
  all_cost (Err why) moved new (writes zero next all) n is = cc
  all_cost (Err why) moved new (writes (suc good) next all) n is = cc
  all_cost started moved new (writes_none more view ready got next all rests below not written) n is = cc

  pub first_costs : (moved : Moved DataOut) (new : BusView)
      → WrittenOn BlockOffered FoundAtRest blocks between moved new → new.exchanges ≤ between.exchanges + 2 * job.count
  first_costs moved new (writes good next all) =
      let n = (written_costs good next all).0 in
      let few = accepted_few between good next all in
      omega (arith, n, few, full)
  first_costs moved new (writes_none more view ready got next all rests below not written) =
      let n = (written_costs more view all).0 in
      let polled = (rested_costs more view ready rests).0 in
      let one_more = written.exchanges in
      omega (arith, n, polled, one_more, below, full)

  pub first_kept : (moved : Moved DataOut) (new : BusView)
      → WrittenOn BlockOffered FoundAtRest blocks between moved new → new.is_kept ≡ true → between.is_kept ≡ true
  first_kept moved new (writes good next all) kept = accepted_kept good next all kept
  first_kept moved new (writes_none more view ready got next all rests below not written) kept =
      accepted_kept more view all (rested_kept more view ready rests (written.kept kept).was_kept)

  pub first_caused : (started : Result Unit Cause) (moved : Moved DataOut) (new : BusView)
      → WrittenOn BlockOffered FoundAtRest blocks between moved new
      → IfErr started (λ cause. cause_of between.last ≡ Some cause)
      → (cause : Cause) → judged started moved ≡ Err cause → cause_of new.last ≡ Some cause
  first_caused (Ok done) moved new (writes good next all) ends cause is = cc
  first_caused (Err why) moved new (writes zero next all) ends cause is =
      let same = none_gone 0 next all refl in
      rw same (ends ∙ cc)
  first_caused (Err why) moved new (writes (suc good) next all) ends cause is =
      caused_by (suc good) next all (omega arith) ∙ cc
  first_caused started moved new (writes_none more view ready got next all rests below not written) ends cause is =
      ap cause_of written.last ∙ cc

  -- a card in tran accepts none
  none_in_tran : (k : ℕ) (view : BusView) → AreAccepted BlockOffered FoundAtRest blocks between k view
      → view.is_kept ≡ true → between.card.state ≡ Tran → 0 < k → ⊥
  none_in_tran k view none_accepted kept tran some = omega (arith, some)
  none_in_tran k view (accepted_one zero from ready next before rests below written) kept tran some =
      let could = ((written.kept kept).step.accepts refl).could in
      let rcv = accepts_in_rcv ready.lines (record ready.card { is_busy = false }) could in
      let here : ready ≡ between = rests ∙ none_gone 0 from before refl in
      cc (ap (λ (v : BusView). is_in v.card.state Rcv) here ∙ ap (λ s. is_in s Rcv) tran, rcv)
  none_in_tran k view (accepted_one (suc done) from ready next before rests below written) kept tran some =
      none_in_tran (suc done) from before (rested_kept (suc done) from ready rests (written.kept kept).was_kept) tran
      (omega arith)

  -- it takes no block that is offered either, and may hold no more
  refused_on : (cause : Cause) (b : BusView) (got : DataOut) (bytes : Sector) → (got ≡ Accepted → ⊥)
      → BlockOffered between bytes got b → b.is_kept ≡ true → between.card.state ≡ Tran → (n : ℕ)
      → HasFailed (broken_off job.session cause) n between → Turned job blocks n between (Err Why.Data) b
  refused_on cause b got bytes not e kept tran n failed =
      let work = none_offered between b got bytes not e kept in
      let fell = failed.fell in
      let lost : IsLost job.session n between = record {
        is_card = failed.is_broken.is_card;
        knows = failed.is_broken.knows;
        stands = failed.is_broken.stands refl;
        shown = λ s. s;
        fine = λ none. omega (arith, fell, none);
      } in
      record {
        stays = work.stays;
        within = λ part s value h.
            elim (work.sectors part s value h) [
              | inl old ↦ old_maybe (change_of job blocks) (holds between.card) part s value old
              | inr t ↦ absurd (cc (ap (λ (st : State). is_in st Rcv) tran, t.receives))
            ];
        left = lost_fails job.session Why.Data (faults_then n between b) b
            (goes_on job.session Never Never n between b lost work Never Never (λ s. s) (λ exact s. s) (λ exact same. exact));
      }

  -- The command of the write.
  module _ (kind : Kind) (address : ℕ) (a : BusView) (of_kind : kind ≡ job.session.info.kind)
      (addressed : address ≡ address_of job.session.info.addressing job.start)
      (faults : ℕ) (at : IsIn job blocks (Other Command) faults a) where
    abbrev pub OutcomeOf : Result ℕ Cause → Result (Option Phase) Cause
    OutcomeOf (Ok good) = Ok (Some (after_write_command job good))
    OutcomeOf (Err cause) = Err cause

    Begun : Bool → Type 0
    Begun ok = Starts kind job.way (job.count == 1) address ok a between

    -- it has begun, whatever was judged of its status
    begun_as : Starts kind job.way (job.count == 1) address false a between
        → between.card ≡ starts job.way (job.count == 1) a.card address
        → Starts kind job.way (job.count == 1) address true a between
    begun_as work is = worked_as a between work work.sectors (λ ok still none. is) (λ same can. refl)

    begun_on : Starts kind job.way (job.count == 1) address true a between
        → Turn (change_of job blocks) (λ n v. IsIn job blocks (Block 0) n v) faults a between
    begun_on work = begin_goes_on job blocks faults kind address a between of_kind addressed at work

    pub all_went : (good : ℕ) (new : BusView) → AreAccepted BlockOffered FoundAtRest blocks between good new
        → new.is_kept ≡ true → Starts kind job.way (job.count == 1) address true a between
        → Turn (change_of job blocks) (λ n v. IsIn job blocks (after_write_command job good) n v) faults a new
    all_went good new all kept work =
        turn_then (change_of job blocks) (λ n v. IsIn job blocks (Block 0) n v) _ faults a between new (begun_on work)
        (λ n here. blocks_written good new all kept n here)

    pub one_refused : (good : ℕ) (view ready : BusView) (got : DataOut) (new : BusView)
        → AreAccepted BlockOffered FoundAtRest blocks between good view → RestsAfter FoundAtRest good view ready
        → good < length blocks → (got ≡ Accepted → ⊥) → BlockOffered ready (slice_index_or blocks good []) got new
        → new.is_kept ≡ true → Starts kind job.way (job.count == 1) address true a between
        → Turned job blocks faults a (Err Why.Data) new
    one_refused good view ready got new all rests below not written kept work =
        turn_then (change_of job blocks) (λ n v. IsIn job blocks (Block 0) n v) _ faults a between new (begun_on work)
        (λ n here. block_refused good view ready got new all rests below not written kept n here)

    failed_so : Starts kind job.way (job.count == 1) address false a between
        → Turned job blocks faults a (Err Why.Data) between
    failed_so work = begin_fails job blocks faults kind address a between of_kind addressed at (Err Why.Data) refl work

    -- where a fault has fallen, the work has failed wherever it is
    failed_from : (phase : Phase) (new : BusView) → Turn (change_of job blocks) (λ n v. IsIn job blocks phase n v) faults a new
        → 0 < faults_then faults a new → Turned job blocks faults a (Err Why.Data) new
    failed_from phase new t fell = record {
      stays = t.stays;
      within = t.within;
      left = record {
        is_broken = record {
          is_card = t.left.under_way.is_card;
          knows = t.left.under_way.knows;
          stands = λ no_reset. t.left.under_way.stands;
        };
        fell = fell;
      };
    }

    abbrev pub Answered : Moved DataOut → Type 0
    Answered moved =
        (moved ≡ Move.Good 0)
        ⊎ (between.is_kept ≡ true → IsStill a.card → a.card.erase ≡ NoAddress
        → (between.card ≡ starts job.way (job.count == 1) a.card address) ⊎ (between.card.state ≡ Tran))

    goes_nothing_on : IsStill a.card
    goes_nothing_on = still_idle (preset_of job) a.card (from_both job.way (at.under_way.shown tt))

    nothing_held : a.card.erase ≡ NoAddress
    nothing_held =
        let idle : IsIdle (preset_of job) a.card = from_both job.way (at.under_way.shown tt) in idle.quiet.erase

    -- blocks went after a status with an error
    some_went : (good : ℕ) (new : BusView) → AreAccepted BlockOffered FoundAtRest blocks between good new
        → new.is_kept ≡ true → 0 < good → Starts kind job.way (job.count == 1) address false a between
        → (between.card ≡ starts job.way (job.count == 1) a.card address) ⊎ (between.card.state ≡ Tran)
        → Turned job blocks faults a (Err Why.Data) new
    some_went good new all kept some work (inl begun) =
        let t = all_went good new all kept (begun_as work begun) in
        let fell = (failed_so work).left.fell in
        let more = (blocks_later good new all kept) in
        failed_from (after_write_command job good) new t (let early = work.stays.later in omega (arith, fell, more, early))
    some_went good new all kept some work (inr tran) = absurd (none_in_tran good new all kept tran some)

    some_refused : (good : ℕ) (view ready : BusView) (got : DataOut) (new : BusView)
        → AreAccepted BlockOffered FoundAtRest blocks between good view → RestsAfter FoundAtRest good view ready
        → good < length blocks → (got ≡ Accepted → ⊥) → BlockOffered ready (slice_index_or blocks good []) got new
        → new.is_kept ≡ true → Starts kind job.way (job.count == 1) address false a between
        → (between.card ≡ starts job.way (job.count == 1) a.card address) ⊎ (between.card.state ≡ Tran)
        → Turned job blocks faults a (Err Why.Data) new
    some_refused good view ready got new all rests below not written kept work (inl begun) =
        one_refused good view ready got new all rests below not written kept (begun_as work begun)
    some_refused zero view ready got new all rests below not written kept work (inr tran) =
        let here : ready ≡ between = rests ∙ none_gone 0 view all refl in
        let offered : BlockOffered between (slice_index_or blocks 0 []) got new =
        subst (λ v. BlockOffered v (slice_index_or blocks 0 []) got new) here written in
        turn_then (change_of job blocks) (λ n v. HasFailed (broken_off job.session Why.Data) n v) _ faults a between new
        (failed_so work) (λ n failed. refused_on Why.Data new got (slice_index_or blocks 0 []) not offered kept tran n failed)
    some_refused (suc good) view ready got new all rests below not written kept work (inr tran) =
        absurd (none_in_tran (suc good) view all (rested_kept (suc good) view ready rests (written.kept kept).was_kept) tran
        (omega arith))

    none_went : (cause : Cause) (new : BusView) → AreAccepted BlockOffered FoundAtRest blocks between 0 new
        → Starts kind job.way (job.count == 1) address false a between → Turned job blocks faults a (Err cause) new
    none_went cause new all work =
        subst (λ v. Turned job blocks faults a (Err cause) v) (sym (none_gone 0 new all refl))
        (begin_fails job blocks faults kind address a between of_kind addressed at (Err cause) refl work)

    -- So the run goes on as its exchanges say.
    pub first_turned : (started : Result Unit Cause) (moved : Moved DataOut) (new : BusView)
        → WrittenOn BlockOffered FoundAtRest blocks between moved new → new.is_kept ≡ true
        → (between.is_kept ≡ true → Starts kind job.way (job.count == 1) address (is_ok started) a between)
        → Answered moved
        → (r : Result (Option Phase) Cause) → r ≡ OutcomeOf (judged started moved)
        → Turned job blocks faults a r new
    first_turned (Ok done) moved new (writes good next all) kept work answered r is =
        rw is (all_went good next all kept (work (accepted_kept good next all kept)))
    first_turned (Ok done) moved new (writes_none more view ready got next all rests below not written) kept work answered
        r is =
        rw is (one_refused more view ready got next all rests below not written kept
        (work (accepted_kept more view all (rested_kept more view ready rests (written.kept kept).was_kept))))
    first_turned (Err cause) moved new (writes zero next all) kept work answered r is =
        rw is (none_went cause next all (work (accepted_kept 0 next all kept)))
    first_turned (Err cause) moved new (writes (suc good) next all) kept work (inl none) r is = cc none
    first_turned (Err cause) moved new (writes (suc good) next all) kept work (inr says) r is =
        let was = accepted_kept (suc good) next all kept in
        rw is (some_went (suc good) next all kept (omega arith) (work was) (says was goes_nothing_on nothing_held))
    first_turned (Err cause) moved new (writes_none more view ready got next all rests below not written) kept work
        (inl none) r is = cc none
    first_turned (Err cause) moved new (writes_none more view ready got next all rests below not written) kept work
        (inr says) r is =
        let was = accepted_kept more view all (rested_kept more view ready rests (written.kept kept).was_kept) in
        rw is (some_refused more view ready got next all rests below not written kept (work was) (says was goes_nothing_on nothing_held))

    pub first_goes_on : (started : Result Unit Cause) (moved : Moved DataOut) (new : BusView)
        → WrittenOn BlockOffered FoundAtRest blocks between moved new → new.is_kept ≡ true
        → (between.is_kept ≡ true → Starts kind job.way (job.count == 1) address (is_ok started) a between)
        → Answered moved
        → (n : ℕ) → judged started moved ≡ Ok n → (next : Phase) → next ≡ after_write_command job n
        → Turned job blocks faults a (Ok (Some next)) new
    first_goes_on started moved new written kept work answered n is next to =
        first_turned started moved new written kept work answered (Ok (Some next))
        (ap (λ (x : Phase). Ok (Some x)) to ∙ ap OutcomeOf (sym is))

    pub first_fails : (started : Result Unit Cause) (moved : Moved DataOut) (new : BusView)
        → WrittenOn BlockOffered FoundAtRest blocks between moved new → new.is_kept ≡ true
        → (between.is_kept ≡ true → Starts kind job.way (job.count == 1) address (is_ok started) a between)
        → Answered moved
        → (cause : Cause) → judged started moved ≡ Err cause
        → Turned job blocks faults a (Err cause) new
    first_fails started moved new written kept work answered cause is =
        first_turned started moved new written kept work answered (Err cause) (ap OutcomeOf (sym is))

-- Which phase comes after so many blocks, and what is left then.

after_written_fits : (count : ℕ) (cmd23 known last : Bool) (done : ℕ) → is_counted_by count cmd23 ≡ known
    → ((suc done == count) && known) ≡ last → suc done ≤ count
    → IsTrue (phase_fits count cmd23 (Other (if last then End (Wait 0) else Pause (suc done) 0)))
after_written_fits count cmd23 known true done is test few = refl
after_written_fits count cmd23 true false done is test few =
    rw is (let less : suc done < count = grind (arith, nat_tests) in grind (arith, nat_tests))
after_written_fits count cmd23 false false done is test few = rw is (grind (arith, nat_tests))

pub after_write_command_fits : (job : Job) (good : ℕ) → good ≤ job.count
    → IsTrue (phase_fits job.count job.session.info.cmd23 (after_write_command job good))
after_write_command_fits job zero few = let some = job.some in grind (arith, nat_tests)
after_write_command_fits job (suc done) few =
    after_written_fits job.count job.session.info.cmd23 (is_counted job)
    ((suc done == job.count) && is_counted job) done refl refl few

end_by : (known : Bool) → EXCHANGES_OF_AN_ENDING ≤ (if known then EXCHANGES_OF_AN_ENDING else EXCHANGES_OF_AN_ENDING + 1)
end_by true = omega arith
end_by false = omega arith

end_some : (count : ℕ) (cmd23 : Bool) → EXCHANGES_OF_AN_ENDING ≤ end_of count cmd23
end_some count cmd23 = end_by (is_counted_by count cmd23)

after_written_left : (count : ℕ) (cmd23 last : Bool) (done : ℕ) → suc done ≤ count
    → 2 * suc done + phase_left count cmd23 (Other (if last then End (Wait 0) else Pause (suc done) 0))
    ≤ phase_left count cmd23 (Other Command)
after_written_left count cmd23 true done few = let some = end_some count cmd23 in omega (arith, few, some)
after_written_left count cmd23 false done few = omega (arith, few)

pub after_write_command_left : (job : Job) (good from new : ℕ) → good ≤ job.count
    → (new ≤ from + 1 + 2 * good) × (0 < good → new + 1 ≤ from + 1 + 2 * good)
    → (new + phase_left job.count job.session.info.cmd23 (after_write_command job good)
    ≤ from + phase_left job.count job.session.info.cmd23 (Other Command))
    × (phase_left job.count job.session.info.cmd23 (after_write_command job good)
    < phase_left job.count job.session.info.cmd23 (Other Command))
after_write_command_left job zero from new few costs =
    let n = costs.0 in (omega (arith, n), omega arith)
after_write_command_left job (suc done) from new few costs =
    let n = costs.1 (omega arith) in
    let left = after_written_left job.count job.session.info.cmd23 ((suc done == job.count) && is_counted job) done few in
    (omega (arith, n, left), omega (arith, left))

pub all_left : (job : Job) → 2 * job.count + 1 ≤ phase_left job.count job.session.info.cmd23 (Other Command)
all_left job = omega arith
