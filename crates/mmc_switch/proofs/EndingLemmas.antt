-- What ends a write, an erase or a trim: polls until the card isn't busy, and then a clean status. Where the card is exactly,
-- after so many polls and after the last one, is the work's own.
use Rattle.std.proofs.Common.{◌+◌, ◌<◌, ◌∙◌, ◌∷◌, ◌≡◌, Bool, List, [], ap, arith, cond, false, refl, subst, sym, true, ℕ}
use Rattle.std.specs.Prelude.{Err, IsSome, None, Ok, Option, Result, Some, if◌then◌else◌, min}
use Rattle.mmc_frame.specs.declared.card_state.State.{State}
use Rattle.mmc_frame.specs.declared.card_state.State.TheVariants.{Prg}
use Rattle.mmc_card.proofs.Conditions.{by_cond}
use Rattle.mmc_card.specs.Blocks.{programmed, rested, waited}
use Rattle.mmc_card.specs.BusView.{BusView}
use Rattle.mmc_card.specs.Card.{Card, FitsPart, holds, is_in, is_selected, known, patience, unfinished}
use Rattle.mmc_card.specs.CardAnswer.{shown}
use Rattle.mmc_card.specs.CardLaws.{IsInOrder}
use Rattle.mmc_card.specs.Faults.{NoFault}
use Rattle.mmc_card.specs.Laws.{Setting}
use Rattle.mmc_card.specs.Sectors.{Change, IsIn as IsOneOf, Same, Sector, Sets, Within, changed, touches, value_of}
use Rattle.mmc_card.specs.declared.exchange.Exchange.TheVariants.{Busy}
use Rattle.mmc_bus.specs.Together.{OneOf}
use Rattle.mmc_bus.specs.Exchanges.{Exchanged}
use Rattle.mmc_bus.proofs.ClosingLemmas.{sound_at_work, sound_before, sound_in_order}
use Rattle.mmc_bus.specs.Closings.{ClosesSoon, CountsOn, HasShown, WasAtWork}
use Rattle.mmc_bus.specs.Learned.{PollFacts}
use Rattle.mmc_bus.specs.declared.cause.Cause.{Cause}
use Rattle.mmc_bus.specs.declared.status.Closing.{Closing}
use Rattle.mmc_bus.specs.declared.status.Closing.TheVariants.{AtWork, Clean}
use Rattle.mmc_bus.specs.declared.wait.TheConstants.{MAX_POLLS}
use Rattle.mmc_bus.proofs.WorkLemmas.{done_by}
use Rattle.mmc_switch.proofs.TurnLemmas.{no_more, turn_fails, turn_goes_on}
use Rattle.mmc_switch.proofs.UnderWayLemmas.{knows_then, part_in, quiet_by, ready_again, set_in, stands_then, still_idle}
use Rattle.mmc_card.proofs.Passing.{still}
use Rattle.mmc_switch.specs.Ending.{Confirms, EndingDid, FailsAt, IsEnding, IsSound, LagsAfter, Polls, ShownIn}
use Rattle.mmc_switch.specs.Place.{IsReady}
use Rattle.mmc_switch.specs.Turns.{LeftIn}
use Rattle.mmc_switch.specs.UnderWay.{IsBusyAfter, IsCarriedOut, IsIdle, IsProgramming, IsUnderWay, Turn, part_of}
use Rattle.mmc_switch.specs.declared.ending.Ending.{Ending}
use Rattle.mmc_switch.specs.declared.ending.Ending.TheVariants.{Confirm, Wait}
use Rattle.mmc_switch.specs.declared.session.Session.{Session}

-- a poll, as work
pub polls_by : {said : Bool} (a b : BusView) → Exchanged a (Busy said) (PollFacts a said b) b → b.is_kept ≡ true
    → Polls said a b
polls_by a b polled kept =
    let k = polled.kept kept in
    done_by a b k k.step.stays (record { lines = polled.lines; stands = k.step.stands }) k.step.narrows k.step
    (λ same. tt)

-- the same of one of several exchanges
pub one_polls_by : {said : Bool} (a b : BusView) → OneOf a (Busy said) (PollFacts a said b) b → b.is_kept ≡ true
    → Polls said a b
one_polls_by a b polled kept =
    let k = polled.kept kept in
    done_by a b k k.step.stays (record { lines = polled.lines; stands = k.step.stands }) k.step.narrows k.step
    (λ same. tt)

-- what a card holds once programming has ended
abbrev pub ProgramLaw : Type 0
ProgramLaw = (card : Card) → card.state ≡ Prg → FitsPart card
    → Same (holds (rested card)) (changed (unfinished card) (known card))

-- A card that says yes.

polled_more : (polled polls : ℕ) → (polled < patience → polled ≡ polls) → min (polled + 1) patience < patience
    → min (polled + 1) patience ≡ polls + 1
polled_more polled polls was below = let same = was (omega (arith, below)) in omega (arith, below, same)

pub busy_still : (polls : ℕ) (card : Card) → IsBusyAfter polls card → IsBusyAfter (polls + 1) (waited card)
busy_still polls card b = record { busy = b.busy; polled = polled_more card.polled polls b.polled }

-- without a fault it doesn't say so a sixteenth time
pub not_so_often : (polls : ℕ) (a b : BusView) → polls + 1 ≡ MAX_POLLS → PollFacts a true b → IsBusyAfter polls a.card
    → NoFault a b → ⊥
not_so_often polls a b last facts busy same =
    let few = facts.patient same refl in
    let polled = busy.polled few in
    omega (arith, last, few, polled)

-- A card that says no.

pub rested_in : (state : State) (card : Card) → card.state ≡ state
    → rested card
    ≡ (if is_in state Prg then programmed (λ i. true) card else record card { is_busy = false })
rested_in state card is =
    ap (λ now. if is_in now Prg then programmed (λ i. true) card else record card { is_busy = false }) is

-- it held no error before, if it holds none now
pub none_before : (old new : Card) → new ≡ rested old → new.errors ≡ 0 → old.errors ≡ 0
none_before old new is none =
    let same : (rested old).errors ≡ old.errors =
    by_cond (λ (c : Card). c.errors ≡ old.errors) (is_in old.state Prg) (λ _. refl) (λ _. refl) in
    sym same ∙ sym (ap (λ (c : Card). c.errors) is) ∙ none

-- it has programmed
pub idle_programmed : (start : ℕ) (values : List Sector) (card : Card) → IsProgramming start values card
    → IsIdle 0 (rested card)
idle_programmed start values card p =
    subst (IsIdle 0) (sym (rested_in Prg card p.quiet.state)) (record {
      quiet = quiet_by refl p.quiet.app p.quiet.command_errors p.quiet.errors p.quiet.switch_error p.quiet.count p.quiet.erase;
      rests = refl;
    })

alone_by : (b : Bool) (x : Sector) (now other : List Sector) (value : Sector) → now ≡ cond b (x ∷ []) other
    → IsOneOf now value → IsOneOf (cond b (x ∷ []) now) value
alone_by true x now other value is h = subst (λ values. IsOneOf values value) is h
alone_by false x now other value is h = h

alone_after : (change : Change) (new old : Sets) → Same new (changed change old) → Within new (changed change new)
alone_after change new old same part sector value h =
    alone_by (touches change part sector) (value_of change sector) (new part sector) (old part sector) value
    (same part sector) h

pub carried_out : (change : Change) (card : Card) → ProgramLaw → FitsPart card → card.part ≡ change.part
    → IsProgramming change.start change.values card → IsCarriedOut change (rested card)
carried_out change card programs fits part p =
    let is : unfinished card ≡ change = rw (part, p.start, p.values) refl in
    alone_after change (holds (rested card)) (known card)
    (subst (λ c. Same (holds (rested card)) (changed c (known card))) is (programs card p.quiet.state fits))

-- A card that shows its status.
pub idle_shown : (card : Card) → IsIdle 0 card → IsIdle 0 (shown card)
idle_shown card idle = record {
  quiet = quiet_by idle.quiet.state refl refl refl refl refl idle.quiet.erase;
  rests = idle.rests;
}

-- and where the status shows it at work still
pub idle_after : (old new : Card) → HasShown old new → new.errors ≡ 0 → new.switch_error ≡ false → IsIdle 0 old → IsIdle 0 new
idle_after old new e none unset idle =
    subst (IsIdle 0) (sym e) (record {
      quiet = quiet_by idle.quiet.state refl refl none unset refl idle.quiet.erase;
      rests = idle.rests;
    })

pub lags_on : (waits : ℕ) (old new : Card) → LagsAfter waits old → CountsOn old new → LagsAfter (waits + 1) new
lags_on waits old new after counts still few =
    let on = counts still in
    let more = on.1 in
    let was = after on.0 (omega (arith, more, few)) in
    omega (arith, was, more, few)

-- a status is no failure of a card in order
never_fails : (waits : ℕ) (old new : Card) (closing : Result Closing Cause) → FailsAt waits closing → LagsAfter waits old
    → ClosesSoon closing old new → ⊥
never_fails waits old new (Ok Clean) fails after soon = fails
never_fails waits old new (Ok AtWork) fails after soon =
    let below = soon.1 in
    let was = after soon.0.0 below in
    absurd (omega (arith, was, below, fails))
never_fails waits old new (Err cause) fails after soon = soon

-- where an ending leads to by itself
pub record CanEnd (session : Session) (Exact : Ending → Card → Type 0) : Type 0 where
  pub busy : (polls : ℕ) (card : Card) → Exact (Wait polls) card → card.is_busy ≡ true → IsBusyAfter polls card
  pub yes : (polls : ℕ) (card : Card) → Exact (Wait polls) card → card.is_busy ≡ true
      → Exact (Wait (polls + 1)) (waited card)
  pub no : ProgramLaw → (polls : ℕ) (card : Card) → Exact (Wait polls) card → FitsPart card
      → (is_selected card.state ≡ true → card.part ≡ part_of session) → Exact (Confirm polls) (rested card)
  pub works : (waits : ℕ) (card new : Card) → Exact (Confirm waits) card → HasShown card new → new.errors ≡ 0
      → new.switch_error ≡ false → CountsOn card new → Exact (Confirm (waits + 1)) new
  pub idle : (waits : ℕ) (card : Card) → Exact (Confirm waits) card → IsIdle 0 card
  pub lags : (waits : ℕ) (card : Card) → Exact (Confirm waits) card → LagsAfter waits card
  pub shows : (waits : ℕ) (card : Card) → Exact (Confirm waits) card → Exact (Confirm 0) (shown card)

-- that of a change
pub change_ends : (session : Session) (change : Change) → change.part ≡ part_of session
    → CanEnd session (IsEnding change)
change_ends session change part = record {
  busy = λ polls card exact yes. exact.1;
  yes = λ polls card exact yes. (
    record {
      quiet = quiet_by exact.0.quiet.state exact.0.quiet.app exact.0.quiet.command_errors exact.0.quiet.errors exact.0.quiet.switch_error exact.0.quiet.count exact.0.quiet.erase;
      start = exact.0.start;
      values = exact.0.values;
    },
    busy_still polls card exact.1,
  );
  no = λ law polls card exact fits in_part. (
    idle_programmed _ _ card exact.0,
    carried_out change card law fits (in_part (ap is_selected exact.0.quiet.state) ∙ sym part) exact.0,
    subst (LagsAfter polls) (sym (rested_in Prg card exact.0.quiet.state)) (λ lags few. exact.1.polled few),
  );
  works = λ waits card new exact shows none unset counts. (
    idle_after card new shows none unset exact.0,
    subst (IsCarriedOut change) (sym shows) exact.1,
    lags_on waits card new exact.2 counts,
  );
  idle = λ waits card exact. exact.0;
  lags = λ waits card exact. exact.2;
  shows = λ waits card exact. (idle_shown card exact.0, exact.1, λ lags few. cc lags);
}

-- A turn of an ending, from what its exchange did.

abbrev pub EndingTurned : Session → Change → (Ending → Card → Type 0) → ℕ → BusView → Result (Option Ending) Cause → BusView
    → Type 0
EndingTurned session change Exact faults old result new =
    Turn change
    (LeftIn session (λ ending. IsUnderWay session (ShownIn ending) (Exact ending)) (Exact (Confirm 0)) result) faults old
    new

module _ (session : Session) (change : Change) (Exact : Ending → Card → Type 0) (ends : CanEnd session Exact)
    (some : IsSome session.selected) (faults : ℕ) (a b : BusView) where
  module _ (polls : ℕ) (at : IsUnderWay session (ShownIn (Wait polls)) (Exact (Wait polls)) faults a) where
    -- yes, once too often
    wait_fails : (cause : Cause) → polls + 1 ≡ MAX_POLLS → Polls true a b
        → EndingTurned session change Exact faults a (Err cause) b
    wait_fails cause last work =
        turn_fails session change ShownIn Exact (Exact (Confirm 0)) (Wait polls) faults a b at work cause
        (λ waits quiet. not_so_often polls a b last work.own (ends.busy polls a.card waits (work.own.busy refl)) quiet)

    -- yes
    wait_more : Polls true a b → EndingTurned session change Exact faults a (Ok (Some (Wait (polls + 1)))) b
    wait_more work =
        let comes : b.card ≡ waited a.card → Exact (Wait polls) a.card → Exact (Wait (polls + 1)) b.card =
        λ is waits. subst (Exact (Wait (polls + 1))) (sym is) (ends.yes polls a.card waits (work.own.busy refl)) in
        let says : b.card.errors ≡ 0 → b.card ≡ waited a.card = λ none. work.own.shown (λ no. cc no) none in
        turn_goes_on session change ShownIn Exact (Exact (Confirm 0)) (Wait polls) faults a b at work (Wait (polls + 1))
        (λ none. sym (ap (λ (c : Card). c.errors) (says none)) ∙ none) (λ waits none. comes (says none) waits)
        (λ waits quiet. comes (work.own.fine quiet) waits)

    is_over : ProgramLaw → Exact (Wait polls) a.card → b.card ≡ rested a.card
        → Exact (Confirm polls) b.card
    is_over programs waits is =
        subst (Exact (Confirm polls)) (sym is)
        (ends.no programs polls a.card waits at.is_card.fits (λ selected. part_in session a some at.stands selected))

    -- no
    wait_ends : ProgramLaw → Polls false a b → EndingTurned session change Exact faults a (Ok (Some (Confirm polls))) b
    wait_ends programs work =
        turn_goes_on session change ShownIn Exact (Exact (Confirm 0)) (Wait polls) faults a b at work (Confirm polls)
        (λ sound. none_before a.card b.card (work.own.shown (λ no. sound.0) sound.1) sound.1)
        (λ waits sound. is_over programs waits (work.own.shown (λ no. sound.0) sound.1))
        (λ waits same. is_over programs waits (work.own.fine same))

  module _ (waits : ℕ) (at : IsUnderWay session (ShownIn (Confirm waits)) (Exact (Confirm waits)) faults a) where
    -- the status isn't clean
    confirm_fails : (cause : Cause) (closing : Result Closing Cause) → FailsAt waits closing
        → Confirms session.info.kind session.info.rca closing a b → EndingTurned session change Exact faults a (Err cause) b
    confirm_fails cause closing fails work =
        turn_fails session change ShownIn Exact (Exact (Confirm 0)) (Confirm waits) faults a b at work cause
        (λ rests quiet.
        let idle = ends.idle waits a.card rests in
        let selected : is_selected a.card.state ≡ true = ap is_selected idle.quiet.state in
        let is_rca : a.card.rca ≡ session.info.rca =
        ap (λ (s : Setting). s.rca) (set_in session a some at.stands selected) in
        let order : IsInOrder session.info.kind a.card = record {
          no_error = record { errors = idle.quiet.errors; switch_error = λ judged mmc. idle.quiet.switch_error };
          tran = idle.quiet.state;
          rests = idle.rests;
        } in
        never_fails waits a.card b.card closing fails (ends.lags waits a.card rests)
        (work.fine quiet (sym at.knows.info.kind, order) idle.quiet.app is_rca))

    -- it shows the card at work
    works_on : Confirms session.info.kind session.info.rca (Ok AtWork) a b
        → EndingTurned session change Exact faults a (Ok (Some (Confirm (waits + 1)))) b
    works_on work =
        let met = work.own.0 in
        let sound : IsSound b.card → IsSound a.card =
        λ sound. sound_before a met work.own.1 (sound_at_work session.info.kind met.card b.card work.own.2 sound) in
        let comes : Exact (Confirm waits) a.card → Exact (Confirm (waits + 1)) b.card =
        λ rests.
        let idle = ends.idle waits a.card rests in
        let own = subst (λ (v : BusView). WasAtWork session.info.kind v.card b.card)
        (still a met (still_idle 0 a.card idle) work.own.1) work.own.2 in
        ends.works waits a.card b.card rests own.shown (own.gets_none idle.quiet.errors)
        (own.gets_no_switch_error idle.quiet.switch_error) own.counts in
        turn_goes_on session change ShownIn Exact (Exact (Confirm 0)) (Confirm waits) faults a b at work
        (Confirm (waits + 1))
        sound (λ rests sound. comes rests) (λ rests quiet. comes rests)

    -- it is clean
    is_ready : Confirms session.info.kind session.info.rca (Ok Clean) a b → IsReady session b × Exact (Confirm 0) b.card
    is_ready work =
        let met = work.own.0 in
        let rests = at.shown (sound_before a met work.own.1 (sound_in_order session.info.kind met.card work.own.2.0)) in
        let own = subst (λ (v : BusView). IsInOrder session.info.kind v.card × (b.card ≡ shown v.card))
        (still a met (still_idle 0 a.card (ends.idle waits a.card rests)) work.own.1) work.own.2 in
        let stays : Exact (Confirm 0) b.card = subst (Exact (Confirm 0)) (sym own.1) (ends.shows waits a.card rests) in
        let idle = ends.idle 0 b.card stays in (
          ready_again session b work.is_card (knows_then session a b work.stays at.knows)
              (stands_then session a b work.set at.stands) idle.quiet idle.rests (ap (λ (c : Card). c.lags) own.1),
          stays,
        )

    confirm_ends : Confirms session.info.kind session.info.rca (Ok Clean) a b
        → EndingTurned session change Exact faults a (Ok None) b
    confirm_ends work = record {
      stays = work.stays;
      within = no_more change a b work;
      left = is_ready work;
    }

  pub ending_turned : ProgramLaw → (ending : Ending) → IsUnderWay session (ShownIn ending) (Exact ending) faults a
      → (result : Result (Option Ending) Cause) → EndingDid session ending a result b
      → EndingTurned session change Exact faults a result b
  ending_turned programs (Wait polls) at (Ok (Some (Wait more))) did = rw did.0 (wait_more polls at did.1)
  ending_turned programs (Wait polls) at (Ok (Some (Confirm waits))) did = rw did.0 (wait_ends polls at programs did.1)
  ending_turned programs (Wait polls) at (Ok None) did = absurd did
  ending_turned programs (Wait polls) at (Err cause) did = wait_fails polls at cause did.0 did.1
  ending_turned programs (Confirm waits) at (Ok (Some (Wait more))) did = absurd did
  ending_turned programs (Confirm waits) at (Ok (Some (Confirm more))) did = rw did.0 (works_on waits at did.1)
  ending_turned programs (Confirm waits) at (Ok None) did = confirm_ends waits at did
  ending_turned programs (Confirm waits) at (Err cause) did = confirm_fails waits at cause did.0 did.1 did.2

-- a failure is the same for any cause
pub for_any_cause : (session : Session) (ending : Ending) (a b : BusView) (cause other : Cause)
    → EndingDid session ending a (Err cause) b → EndingDid session ending a (Err other) b
for_any_cause session (Wait polls) a b cause other did = did
for_any_cause session (Confirm waits) a b cause other did = did
