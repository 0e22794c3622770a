-- A block of a write, offered to the card.
use Rattle.std.proofs.Common.{◌&&◌, ◌++◌, ◌+◌, ◌-◌, ◌<◌, ◌∙◌, ◌∷◌, ◌≡◌, Bool, List, [], ap, arith, false, inl, inr}
use Rattle.std.proofs.Common.{length, refl, subst, sym, take, true, ℕ}
use Rattle.std.proofs.lemmas.Bool.Decides.{nat_tests}
use Rattle.std.proofs.lemmas.List.{length-take-le, take_more}
use Rattle.std.specs.Prelude.{◌==◌, Err, IsErr, IsOk, None, Ok, Option, Result, Some, if◌then◌else◌, nat_lt}
use Rattle.std.specs.Prelude.{slice_index_or}
use Rattle.mmc_frame.specs.declared.card_state.State.TheVariants.{Prg, Rcv}
use Rattle.mmc_card.proofs.Narrow.{accepts_in_rcv}
use Rattle.mmc_card.proofs.SectorLemmas.{cond_in_new, old_maybe, touched_by}
use Rattle.mmc_card.proofs.Standing.{up_in}
use Rattle.mmc_card.specs.Blocks.{accepted, awaits, can_accept, is_last, next_written, one_less}
use Rattle.mmc_card.specs.BusView.{BusView}
use Rattle.mmc_card.specs.Card.{Card, holds, is_in, is_selected, stored}
use Rattle.mmc_card.specs.Sectors.{Sector, Within, maybe_changed, part_number, touches, value_of}
use Rattle.mmc_bus.specs.declared.cause.Cause.{Cause}
use Rattle.mmc_bus.specs.Learned.{IsAccepted}
use Rattle.mmc_bus.specs.Work.{NarrowsBut, Worked}
use Rattle.mmc_switch.proofs.UnderWayLemmas.{goes_on, has_failed, lines_in, part_in, quiet_by, room_is}
use Rattle.mmc_switch.specs.UnderWay.{IsQuiet, part_of, room_of}
use Rattle.mmc_switch.specs.declared.ending.Ending.TheVariants.{Wait}
use Rattle.mmc_switch.specs.Ending.{IsSound}
use Rattle.mmc_transfer.proofs.StepLemmas.{all_written, of_write}
use Rattle.mmc_transfer.specs.declared.job.Job.{Job}
use Rattle.mmc_transfer.specs.declared.phase.Phase.{Phase}
use Rattle.mmc_transfer.specs.declared.phase.Phase.TheVariants.{Block, Other}
use Rattle.mmc_transfer.specs.declared.phase.Step.{Step}
use Rattle.mmc_transfer.specs.declared.phase.Step.TheVariants.{End, Pause}
use Rattle.mmc_transfer.specs.declared.way.Way.{Way}
use Rattle.mmc_transfer.specs.declared.way.Way.TheVariants.{Read, Write}
use Rattle.mmc_transfer.specs.Moves.{after_written}
use Rattle.mmc_transfer.specs.Running.{Exact, GoesOnAt, IsIn, IsPlaced, IsTaking, ReadExact, Shown, Turned, WriteExact}
use Rattle.mmc_transfer.specs.Running.{by_way}
use Rattle.mmc_transfer.specs.Running.{change_of, is_counted, left_of, written}

-- what offering the block does
abbrev pub Offered : Sector → Result Unit Cause → BusView → BusView → Type 0
Offered block r =
    Worked (NarrowsBut block)
    (λ old new. IsOk r → IsAccepted block old new)
    (λ old new. can_accept old.lines old.card ≡ true → IsOk r × (new.card ≡ accepted block old.card))

to_write : (way : Way) (P Q : Type 0) → way ≡ Write → Q → by_way way P Q
to_write Read P Q is h = cc
to_write Write P Q is h = h

-- One block less is to come, and it was the last of a counted run or not.
one_less_by : (b : Bool) (count done : ℕ)
    → one_less (if b then Some (count - done) else None) ≡ (if b then Some (count - (done + 1)) else None)
one_less_by true count done = ap Some (omega arith)
one_less_by false count done = refl

is_last_by : (b : Bool) (count done : ℕ) → done < count
    → is_last (if b then Some (count - done) else None) ≡ ((done + 1 == count) && b)
is_last_by true count done more = grind (arith, nat_tests)
is_last_by false count done more = grind (arith, nat_tests)

pub left_then : (job : Job) (done : ℕ) (left : Option ℕ) → left ≡ left_of job done
    → one_less left ≡ left_of job (done + 1)
left_then job done left is = ap one_less is ∙ one_less_by (is_counted job) job.count done

pub last_is : (job : Job) (done : ℕ) (left : Option ℕ) → done < job.count → left ≡ left_of job done
    → is_last left ≡ ((done + 1 == job.count) && is_counted job)
last_is job done left more is = ap is_last is ∙ is_last_by (is_counted job) job.count done more

pub below : (n m : ℕ) → n < m → nat_lt n m ≡ true
below n m less = grind (arith, nat_tests)

-- more are to come
awaits_by : (b : Bool) (count done : ℕ) → done < count → awaits (if b then Some (count - done) else None) ≡ true
awaits_by true count done more = let some : 0 < count - done = omega (arith, more) in below 0 (count - done) some
awaits_by false count done more = refl

all_then : (b : Bool) (count done : ℕ) → ((done + 1 == count) && b) ≡ true → count ≡ done + 1
all_then b count done h = grind (arith, nat_tests)

-- after a block that was written a card shows itself by holding no error
none_shown : (way : Way) (last : Bool) (done : ℕ) (card : Card) → way ≡ Write
    → Shown way (Other (if last then End (Wait 0) else Pause done 0)) card → card.errors ≡ 0
none_shown Read last done card is h = cc
none_shown Write true done card is h = h
none_shown Write false done card is h = h

module _ (job : Job) (blocks : List Sector) (done faults : ℕ) (block : Sector) (way : job.way ≡ Write)
    (more : done < job.count) (full : length blocks ≡ job.count) (is : block ≡ slice_index_or blocks done []) where
  -- The card that has accepted so many blocks.
  taken_length : (card : Card) → IsTaking done job blocks card → length card.values ≡ done
  taken_length card x = ap length x.values ∙ length-take-le done blocks (omega (arith, more, full))

  next_state : (b : Bool) (card : Card) → ((done + 1 == job.count) && is_counted job) ≡ b → IsTaking done job blocks card
      → IsQuiet (if b then Prg else Rcv) 0 (accepted block card)
  next_state b card last x =
      quiet_by (ap (λ b. if b then Prg else Rcv) (last_is job done card.left more x.left ∙ last)) x.quiet.app x.quiet.command_errors x.quiet.errors x.quiet.switch_error x.quiet.count x.quiet.erase

  next_values : (card : Card) → IsTaking done job blocks card → card.values ++ block ∷ [] ≡ take (done + 1) blocks
  next_values card x =
      ap (λ xs. xs ++ block ∷ []) x.values ∙ ap (λ v. take done blocks ++ v ∷ []) is
      ∙ sym (take_more blocks done [] (omega (arith, more, full)))

  -- after the block it is in the phase that comes next
  given_by : (b : Bool) (card : Card) → ((done + 1 == job.count) && is_counted job) ≡ b
      → IsTaking done job blocks card
      → WriteExact job blocks (Other (if b then End (Wait 0) else Pause (done + 1) 0)) (accepted block card)
  given_by true card last x = (
    record {
      quiet = next_state true card last x;
      start = x.start;
      values = next_values card x
          ∙ ap (λ n. take n blocks) (sym (all_then (is_counted job) job.count done last))
          ∙ all_written job blocks full way;
    },
    record { busy = refl; polled = λ few. refl },
  )
  given_by false card last x = (
    record {
      quiet = next_state false card last x;
      start = x.start;
      values = next_values card x;
      left = left_then job done card.left x.left;
    },
    record { busy = refl; polled = λ few. refl },
  )

  module _ (a b : BusView) (at : IsIn job blocks (Block done) faults a) where
    exactly : Exact job blocks (Block done) a.card → IsTaking done job blocks a.card × (a.card.is_busy ≡ false)
    exactly exact = of_write job.way (ReadExact job blocks (Block done) a.card)
        (WriteExact job blocks (Block done) a.card) way exact

    -- such a card accepts the block
    accepts : Exact job blocks (Block done) a.card → can_accept a.lines a.card ≡ true
    accepts exact =
        let x = exactly exact in
        let state = x.0.quiet.state in
        let rests = x.1 in
        let inside = job.inside in
        let selected : is_selected a.card.state ≡ true = ap is_selected state in
        let fit = lines_in job.session a job.selected at.under_way.stands selected in
        let part = part_in job.session a job.selected at.under_way.stands selected in
        let size : length (stored a.card a.card.part) ≡ room_of job.session =
        ap (λ p. length (stored a.card p)) part
        ∙ room_is job.session a at.under_way.is_card.sizes at.under_way.knows (omega (arith, inside, more)) in
        let long = taken_length a.card x.0 in
        let start = x.0.start in
        let room : nat_lt (a.card.start + length a.card.values) (length (stored a.card a.card.part)) ≡ true =
        below _ _ (omega (arith, long, start, size, inside, more)) in
        let awaited = ap awaits x.0.left ∙ awaits_by (is_counted job) job.count done more in
        rw (state, rests, fit, awaited, room) refl

    -- the next block is for the next sector of the run
    next_place : GoesOnAt (job.start + done) a.card
    next_place = of_write job.way (Unit {0}) (GoesOnAt (job.start + done) a.card) way at.placed

    -- no sector may hold more, but the block's own may hold it
    within : NarrowsBut block a b → Within (holds b.card) (maybe_changed (change_of job blocks) (holds a.card))
    within widens part s value h =
        let change = change_of job blocks in
        elim (widens part s value h) [
          | inl old ↦ old_maybe change (holds a.card) part s value old
          | inr t ↦
              (let selected = up_in a.card Rcv t.receives refl in
              let here = part_in job.session a job.selected at.under_way.stands selected in
              let same : written job.way blocks ≡ blocks = ap (λ w. written w blocks) way in
              let size : length (written job.way blocks) ≡ job.count = ap length same ∙ full in
              let place : s ≡ job.start + done = t.next ∙ next_place t.receives in
              let number : s - job.start ≡ done = omega (arith, place) in
              cond_in_new (touches change part s) (value_of change s) (holds a.card part s) value
              (touched_by (part_number (part_of job.session)) (part_number part) job.start s
              (length (written job.way blocks)) (ap part_number (sym here ∙ t.here)) (omega (arith, place))
              (omega (arith, place, size, more)))
              (t.offered ∙ is ∙ ap (λ i. slice_index_or blocks i []) (sym number)
              ∙ ap (λ xs. slice_index_or xs (s - job.start) []) (sym same)))
        ]

    -- The card doesn't accept it.
    pub give_fails : (cause : Cause) (r : Result (Option Phase) Cause) → IsErr r → Offered block (Err cause) a b
        → Turned job blocks faults a r b
    give_fails cause (Ok next) err offer = cc
    give_fails cause (Err why) err offer = record {
      stays = offer.stays;
      within = within offer.sectors;
      left = has_failed job.session (Shown job.way (Block done)) (Exact job blocks (Block done)) faults a b at.under_way
          offer
          (record { session = job.session; cause = why; must_reset = false }) refl
          (λ exact same. cc (offer.fine same (accepts exact)).0);
    }

    -- where the block after it goes
    place_then : (last : Bool) → next_written b.card ≡ next_written a.card + 1 → is_in a.card.state Rcv ≡ true
        → IsPlaced job (Other (if last then End (Wait 0) else Pause (done + 1) 0)) b.card
    place_then true is rcv = tt
    place_then false is rcv =
        to_write job.way (Unit {0}) (GoesOnAt (job.start + (done + 1)) b.card) way
        (λ later.
        let place = next_place rcv in
        is ∙ omega (arith, place))

    -- It accepts it, so it is selected, and without an error it is where the blocks have come to.
    pub give_ends : (step : Step) → step ≡ after_written job (done + 1) → Offered block (Ok tt) a b
        → Turned job blocks faults a (Ok (Some (Other step))) b
    give_ends step to offer =
        let own = offer.own refl in
        let rcv = accepts_in_rcv a.lines (record a.card { is_busy = false }) own.could in
        let none : Shown job.way (Other step) b.card → b.card.errors ≡ 0 =
        λ shown. none_shown job.way ((done + 1 == job.count) && is_counted job) (done + 1) b.card way
        (subst (λ s. Shown job.way (Other s) b.card) to shown) in
        let comes : b.card ≡ accepted block a.card → Exact job blocks (Block done) a.card
        → Exact job blocks (Other step) b.card =
        λ taken exact.
        to_write job.way (ReadExact job blocks (Other step) b.card) (WriteExact job blocks (Other step) b.card)
        way
        (subst (λ c. WriteExact job blocks (Other step) c) (sym taken)
        (subst (λ s. WriteExact job blocks (Other s) (accepted block a.card)) (sym to)
        (given_by ((done + 1 == job.count) && is_counted job) a.card refl (exactly exact).0))) in
        record {
          stays = offer.stays;
          within = within offer.sectors;
          left = record {
            under_way = goes_on job.session (Shown job.way (Block done)) (Exact job blocks (Block done)) faults a b
                at.under_way offer (Shown job.way (Other step)) (Exact job blocks (Other step))
                (λ shown. to_write job.way (is_selected a.card.state ≡ true) (IsSound a.card) way (
                  up_in a.card Rcv rcv refl,
                  sym (ap (λ (c : Card). c.errors) (own.shown (none shown))) ∙ none shown,
                ))
                (λ exact shown. comes (own.shown (none shown)) exact)
                (λ exact same. comes (offer.fine same (accepts exact)).1 exact);
            placed = subst (λ s. IsPlaced job (Other s) b.card) (sym to)
                (place_then ((done + 1 == job.count) && is_counted job) own.goes_on rcv);
          };
        }
