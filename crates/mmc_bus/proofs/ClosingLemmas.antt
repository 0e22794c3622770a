-- What statuses in a row tell, while the card is at work and then not any more.
use Rattle.std.proofs.Common.{◌+◌, ◌<◌, ◌-◌, ◌∙◌, ◌≡◌, ◌≤◌, Bool, ap, arith, cond, false, inl, inr, refl, subst, sym, true, ℕ}
use Rattle.std.specs.Prelude.{◌⊎◌, Err, IsErr, IsOk, Ok, Result, bit_or, if◌then◌else◌}
use Rattle.std.specs.Int.Bits.{or_zero_r}
use Rattle.std.proofs.lemmas.Nat.{le_or_l}
use Rattle.mmc_bus.proofs.PollLemmas.{Counts, polled_as}
use Rattle.mmc_bus.proofs.WorkLemmas.{joined, narrows_then, quiet_parts, refuted, set_then, stays_same, stays_then, worked_as}
use Rattle.mmc_bus.specs.CommandLaws.{Showing, TellsStatus}
use Rattle.mmc_bus.specs.declared.host.Unheard.{Unheard}
use Rattle.mmc_bus.specs.Closings.{Closes, ClosesInTime, ClosesSoon, HasLagged, HasShown, IsCalm, WasAtWork, WillBeClean}
use Rattle.mmc_bus.specs.Learned.{Stays}
use Rattle.mmc_bus.specs.Work.{Narrows, StaysSet, Worked}
use Rattle.mmc_bus.specs.declared.cause.Cause.{Cause}
use Rattle.mmc_bus.specs.declared.status.Closing.{Closing}
use Rattle.mmc_bus.specs.declared.status.Closing.TheVariants.{AtWork, Clean}
use Rattle.mmc_card.proofs.CardAll.{card_showing}
use Rattle.mmc_card.proofs.Narrow.{both}
use Rattle.mmc_card.specs.Blocks.{programmed, rested}
use Rattle.mmc_card.specs.BusView.{BusView}
use Rattle.mmc_card.specs.Card.{Card, IsCard, is_in, is_selected, patience}
use Rattle.mmc_card.specs.CardAnswer.{Choice, counted, showing, shown}
use Rattle.mmc_card.specs.Judged.{ShowsItself}
use Rattle.mmc_card.specs.Made.{Made}
use Rattle.mmc_card.specs.CardLaws.{HasNoErrorOfItsOwn, IsInOrder, Tells}
use Rattle.mmc_card.proofs.Passing.{still, still_in, still_rested, unmoved_by_time}
use Rattle.mmc_card.specs.Faults.{NoFault, Passes}
use Rattle.mmc_card.specs.Laws.{AfterSomeTime, IsStill}
use Rattle.mmc_card.specs.RowsIdentify.{at_work, lagging, may_lag}
use Rattle.mmc_frame.specs.declared.card_state.State.TheVariants.{Data, Prg, Tran}
use Rattle.mmc_frame.specs.declared.kind.Kind.{Kind}
use Rattle.mmc_frame.specs.Status.{IsAtWork, IsClean, error_bits, own_status}

-- A closing status, by what it says.
pub closes_by : {E : Type 0} (kind : Kind) (r : Result Closing E) (old new : Card)
    → (r ≡ Ok Clean → IsInOrder kind old × (new ≡ shown old)) → (r ≡ Ok AtWork → WasAtWork kind old new)
    → Closes kind r old new
closes_by kind (Ok Clean) old new clean work = clean refl
closes_by kind (Ok AtWork) old new clean work = work refl
closes_by kind (Err cause) old new clean work = tt

pub as_shown : (old new : Card) → new ≡ shown old → HasShown old new
as_shown old new e = subst (HasShown old) (sym e) refl

-- of a card whose statuses don't lag it is clean
comes_clean : (r : Result Closing Cause) (old new : Card) → old.lags ≡ false → ClosesSoon r old new → r ≡ Ok Clean
comes_clean (Ok Clean) old new up soon = refl
comes_clean (Ok AtWork) old new up soon = absurd (cc (up, soon.0.0))
comes_clean (Err cause) old new up soon = absurd soon

-- What one status asks, as work.
abbrev pub Asks : Kind → ℕ → Result Closing Cause → BusView → BusView → Type 0
Asks kind rca r =
    Worked Narrows (λ old new. ClosesInTime kind r old new)
    (λ old new. WillBeClean kind old.card → old.card.app ≡ false → old.card.rca ≡ rca → ClosesSoon r old.card new.card)

-- errors of its own are those of `errors` and SWITCH_ERROR; order hangs on them, the state, and whether it is busy
none_like : (kind : Kind) (card other : Card) → other.made ≡ card.made → other.errors ≡ card.errors
    → other.switch_error ≡ card.switch_error → HasNoErrorOfItsOwn kind card → HasNoErrorOfItsOwn kind other
none_like kind card other made errors switch none = record {
  errors = errors ∙ none.errors;
  switch_error = λ judged mmc. switch ∙ none.switch_error judged (sym (ap (λ (m : Made). m.kind) made) ∙ mmc);
}

order_like : (kind : Kind) (card other : Card) → other.made ≡ card.made → other.errors ≡ card.errors
    → other.switch_error ≡ card.switch_error → other.state ≡ card.state → other.is_busy ≡ card.is_busy
    → IsInOrder kind card → IsInOrder kind other
order_like kind card other made errors switch state busy order = record {
  no_error = none_like kind card other made errors switch order.no_error;
  tran = state ∙ order.tran;
  rests = busy ∙ order.rests;
}

-- a card that has only shown its status is in order where it was
order_back : (kind : Kind) (old new : Card) → HasNoErrorOfItsOwn kind old → HasShown old new → IsInOrder kind new
    → IsInOrder kind old
order_back kind old new none e order = record {
  no_error = none;
  tran = sym (ap (λ (c : Card). c.state) e) ∙ order.tran;
  rests = sym (ap (λ (c : Card). c.is_busy) e) ∙ order.rests;
}

-- it held no error of its own, if it holds none after a status
none_held : (kind : Kind) (old new : Card) → WasAtWork kind old new → HasNoErrorOfItsOwn kind new → HasNoErrorOfItsOwn kind old
none_held kind old new was none = record {
  errors = was.held_none none.errors;
  switch_error = λ judged mmc.
      was.held_no_switch_error judged mmc (none.switch_error judged (ap (λ (c : Card). c.made.kind) was.shown ∙ mmc));
}

clean_on : (kind : Kind) (old new : Card) → HasShown old new → new.errors ≡ 0
    → (old.switch_error ≡ false → new.switch_error ≡ false) → WillBeClean kind old → WillBeClean kind new
clean_on kind old new e none switched order =
    subst (WillBeClean kind) (sym e) (
      order.0,
      record {
        no_error = record { errors = none; switch_error = λ judged mmc. switched (order.1.no_error.switch_error judged mmc) };
        tran = order.1.tran;
        rests = order.1.rests;
      },
    )

-- a card that shows itself sound was so before time passed, and before it showed its status
abbrev pub IsSound : Card → Type 0
IsSound card = (is_selected card.state ≡ true) × (card.errors ≡ 0)

pub sound_before : (old met : BusView) → Passes old met → IsSound met.card → IsSound old.card
sound_before old met passes sound =
    let same = unmoved_by_time old met passes in
    (sym same.selected ∙ sound.0, same.errors sound.1)

pub sound_in_order : (kind : Kind) (card : Card) → IsInOrder kind card → IsSound card
sound_in_order kind card order = (ap is_selected order.tran, order.no_error.errors)

pub sound_at_work : (kind : Kind) (old new : Card) → WasAtWork kind old new → IsSound new → IsSound old
sound_at_work kind old new was sound =
    (ap (λ (c : Card). is_selected c.state) (sym was.shown) ∙ sound.0, was.held_none sound.1)

-- a card that has only shown its status is as still as it was
still_shown : (old new : Card) → HasShown old new → IsStill old → IsStill new
still_shown old new shows is = subst IsStill (sym shows) (record {
  rests = is.rests;
  programs_nothing = is.programs_nothing;
  sends_nothing = is.sends_nothing;
})

-- So many statuses showed the card at work.
pub record Asking (kind : Kind) (rca : ℕ) (old : BusView) (statuses : ℕ) (now : BusView) : Type 0 where
  pub was_kept : old.is_kept ≡ true
  pub was_card : IsCard now.card → IsCard old.card
  pub is_card : 0 < statuses → IsCard now.card
  pub stays : Stays old now
  pub set : StaysSet old now
  pub narrows : Narrows old now
  pub sound : IsSound now.card → IsSound old.card
  -- where it is calm, each of them met it as it was
  pub back : IsCalm old.card → IsInOrder kind now.card → IsInOrder kind old.card
  pub card : IsCalm old.card → IsSound now.card
      → (shown now.card ≡ polled_as (shown old.card) now.card.polled) × IsStill now.card
  pub soon : NoFault old now → WillBeClean kind old.card → old.card.app ≡ false → old.card.rca ≡ rca
      → WillBeClean kind now.card × (now.card.app ≡ false) × (now.card.rca ≡ rca)
      × (now.card.polled ≡ old.card.polled + statuses)
  pub few : NoFault old now → WillBeClean kind old.card → old.card.app ≡ false → old.card.rca ≡ rca → 0 < statuses
      → now.card.polled ≤ patience

pub asking_none : (kind : Kind) (rca : ℕ) (old : BusView) → old.is_kept ≡ true → Asking kind rca old 0 old
asking_none kind rca old kept = record {
  was_kept = kept;
  was_card = λ k. k;
  is_card = λ h. absurd (omega (arith, h));
  stays = stays_same old old.lines;
  set = record { lines = refl; stands = λ setting s. s };
  narrows = λ part sector value h. h;
  sound = λ sound. sound;
  back = λ calm order. order;
  card = λ calm sound. (refl, calm sound.0 sound.1);
  soon = λ same order app is. (order, app, is, omega arith);
  few = λ same order app is some. absurd (omega (arith, some));
}

pub asking_on : (kind : Kind) (rca : ℕ) (old : BusView) (statuses : ℕ) (now new : BusView)
    → Asking kind rca old statuses now → Asks kind rca (Ok AtWork) now new → Asking kind rca old (statuses + 1) new
asking_on kind rca old statuses now new p q =
    let met = q.own.0 in
    let passes = q.own.1 in
    let own = q.own.2 in
    let sound : IsSound new.card → IsSound now.card =
    λ sound. sound_before now met passes (sound_at_work kind met.card new.card own sound) in
    let at_once : IsCalm old.card → IsSound new.card → WasAtWork kind now.card new.card × IsStill now.card = λ calm is.
    let was = (p.card calm (sound is)).1 in
    (subst (λ (v : BusView). WasAtWork kind v.card new.card) (still now met was passes) own, was) in
    let after : (same : NoFault old new) (order : WillBeClean kind old.card) (app : old.card.app ≡ false)
    (is : old.card.rca ≡ rca) → WillBeClean kind now.card × (now.card.app ≡ false) × (now.card.rca ≡ rca)
    × (now.card.polled ≡ old.card.polled + statuses) × (now.card.polled < patience)
    × (new.card.polled ≡ now.card.polled + 1) × (new.card.errors ≡ 0) =
    λ same order app is.
    let parts = quiet_parts old now new p.stays q.stays same in
    let was = p.soon parts.0 order app is in
    let comes = q.fine parts.1 was.0 was.1 was.2 in
    let below = comes.1 in
    let more = comes.0.1 in
    (was.0, was.1, was.2, was.3, below, omega (arith, below, more), comes.2) in
    let soon_was : NoFault old new → WillBeClean kind old.card → old.card.app ≡ false → old.card.rca ≡ rca
    → WasAtWork kind now.card new.card = λ same order app is.
    let was = (after same order app is).0 in
    let e = still now met (still_in now.card Tran was.1.tran refl refl was.1.rests) passes in
    subst (λ (v : BusView). WasAtWork kind v.card new.card) e own in
    record {
      was_kept = p.was_kept;
      was_card = λ k. p.was_card q.was_card;
      is_card = λ h. q.is_card;
      stays = stays_then old now new p.stays q.stays;
      set = set_then old now new p.set q.set;
      narrows = narrows_then old now new p.narrows q.sectors;
      sound = λ is. p.sound (sound is);
      back = λ calm order.
          let was = (at_once calm (sound_in_order kind new.card order)).0 in
          p.back calm (order_back kind now.card new.card (none_held kind now.card new.card was order.no_error) was.shown order);
      card = λ calm is.
          let was = at_once calm is in (
            ap shown was.0.shown ∙ ap (λ (c : Card). polled_as c new.card.polled) (p.card calm (sound is)).0,
            still_shown now.card new.card was.0.shown was.1,
          );
      soon = λ same order app is.
          let all = after same order app is in
          let now_was = soon_was same order app is in
          let shows = now_was.shown in
          let was = all.3 in
          let more = all.5 in (
            clean_on kind now.card new.card shows all.6 now_was.gets_no_switch_error all.0,
            ap (λ (c : Card). c.app) shows,
            ap (λ (c : Card). c.rca) shows ∙ all.2,
            omega (arith, was, more),
          );
      few = λ same order app is some.
          let all = after same order app is in
          let below = all.4 in
          let more = all.5 in
          omega (arith, below, more);
    }

-- Asking for a clean status, at most so many times.
abbrev pub Confirms : Kind → ℕ → ℕ → Result Unit Cause → BusView → BusView → Type 0
Confirms kind rca most r =
    Worked Narrows
    (λ old new. IsOk r → IsCalm old.card
    → IsInOrder kind old.card × (new.card ≡ record (shown old.card) { polled = new.card.polled }))
    (λ old new. WillBeClean kind old.card → old.card.app ≡ false → old.card.rca ≡ rca → patience < old.card.polled + most → IsOk r)

-- the next one is clean
pub asked_clean : (kind : Kind) (rca most : ℕ) (old : BusView) (statuses : ℕ) (now new : BusView)
    → Asking kind rca old statuses now → Asks kind rca (Ok Clean) now new → Confirms kind rca most (Ok tt) old new
asked_clean kind rca most old statuses now new p q =
    let met = q.own.0 in
    let passes = q.own.1 in
    let sound = sound_before now met passes (sound_in_order kind met.card q.own.2.0) in
    let at_once : IsCalm old.card → (IsInOrder kind now.card × (new.card ≡ shown now.card))
    × (new.card ≡ polled_as (shown old.card) now.card.polled) = λ calm.
    let was = p.card calm sound in
    let closes = subst (λ (v : BusView). IsInOrder kind v.card × (new.card ≡ shown v.card)) (still now met was.1 passes) q.own.2 in
    (closes, closes.1 ∙ was.0) in
    record {
      was_kept = p.was_kept;
      was_card = p.was_card q.was_card;
      is_card = q.is_card;
      stays = stays_then old now new p.stays q.stays;
      set = set_then old now new p.set q.set;
      sectors = narrows_then old now new p.narrows q.sectors;
      own = λ ok calm.
          let all = at_once calm in
          let e = all.1 in (
            p.back calm all.0.0,
            e ∙ ap (λ n. polled_as (shown old.card) n) (sym (ap (λ (c : Card). c.polled) e)),
          );
      fine = λ same order app is enough. refl;
    }

-- none comes, or one with an error
pub asked_in_vain : (kind : Kind) (rca most : ℕ) (cause : Cause) (r : Result Unit Cause) (old : BusView) (statuses : ℕ)
    (now new : BusView) → IsErr r → Asking kind rca old statuses now → Asks kind rca (Err cause) now new
    → Confirms kind rca most r old new
asked_in_vain kind rca most cause r old statuses now new err p q = record {
  was_kept = p.was_kept;
  was_card = p.was_card q.was_card;
  is_card = q.is_card;
  stays = stays_then old now new p.stays q.stays;
  set = set_then old now new p.set q.set;
  sectors = narrows_then old now new p.narrows q.sectors;
  own = λ ok. refuted r err ok;
  fine = λ same order app is enough.
      let parts = quiet_parts old now new p.stays q.stays same in
      let was = p.soon parts.0 order app is in
      absurd (q.fine parts.1 was.0 was.1 was.2);
}

-- so many times at work don't come without a fault
pub asked_out : (kind : Kind) (rca most : ℕ) (r : Result Unit Cause) (old : BusView) (now : BusView) → IsErr r → 0 < most
    → Asking kind rca old most now → Confirms kind rca most r old now
asked_out kind rca most r old now err some p =
    let card = p.is_card some in
    record {
      was_kept = p.was_kept;
      was_card = p.was_card card;
      is_card = card;
      stays = p.stays;
      set = p.set;
      sectors = p.narrows;
      own = λ ok. refuted r err ok;
      fine = λ same order app is enough.
          let few = p.few same order app is some in
          let all = (p.soon same order app is).3 in
          absurd (omega (arith, few, all, enough));
    }

-- Polls, and statuses after them.

rested_by : (b : Bool) (x y : Card) (polls : ℕ)
    → cond b (polled_as x polls) (polled_as y polls) ≡ polled_as (cond b x y) polls
rested_by true x y polls = refl
rested_by false x y polls = refl

-- it rests the same, however often it was polled
rested_polled : (card : Card) (polls : ℕ) → rested (polled_as card polls) ≡ polled_as (rested card) polls
rested_polled card polls =
    rested_by (is_in card.state Prg) (programmed (λ i. true) card) (record card { is_busy = false }) polls

abbrev pub Ended : Kind → ℕ → Result Unit Cause → BusView → BusView → Type 0
Ended kind rca r =
    Worked Narrows
    (λ old new. IsOk r → is_in old.card.state Data ≡ false → IsInOrder kind (rested old.card)
    × (new.card ≡ record (shown (rested old.card)) { polled = new.card.polled }))
    (λ old new. old.card.polled ≡ 0 → WillBeClean kind (rested old.card) → (rested old.card).app ≡ false
    → (rested old.card).rca ≡ rca → IsOk r)

-- the polls fail
pub wait_fails : (kind : Kind) (rca : ℕ) (cause : Cause) (r : Result Unit Cause) (a b : BusView)
    → IsErr r → Counts (Err cause) a b → Ended kind rca r a b
wait_fails kind rca cause r a b err p =
    worked_as a b p p.sectors (λ ok. refuted r err ok) (λ same zero order app is. absurd (p.fine same zero))

-- a clean status tells that the poll before it was answered truly
pub ended : (kind : Kind) (rca polls most : ℕ) (r : Result Unit Cause) (a b c : BusView) → most ≡ 16 - polls
    → Counts (Ok polls) a b → Confirms kind rca most r b c → Ended kind rca r a c
ended kind rca polls most r a b c is_most p q =
    joined a b c p q (narrows_then a b c p.sectors q.sectors)
    (λ confirmed quiet.
    let calm : IsCalm b.card = λ selected none.
    let was = p.own refl selected none in
    subst IsStill (sym was.1) (still_rested (record a.card { polled = was.0 }) quiet) in
    let told = q.own confirmed calm in
    let was = p.own refl (ap is_selected told.0.tran) told.0.no_error.errors in
    let e = was.1 ∙ rested_polled a.card was.0 in (
      order_like kind _ (rested a.card) refl refl refl refl refl (subst (IsInOrder kind) e told.0),
      told.1 ∙ ap (λ (card : Card). polled_as (shown card) c.card.polled) e,
    ))
    (λ same zero order app is.
    let parts = quiet_parts a b c p.stays q.stays same in
    let was = p.fine parts.0 zero in
    let e = was.1 ∙ rested_polled a.card polls in
    let few = was.0 in
    let count = ap (λ (card : Card). card.polled) e in
    q.fine parts.1 (subst (WillBeClean kind) (sym e) (
      order.0,
      order_like kind (rested a.card) (polled_as (rested a.card) polls) refl refl refl refl refl order.1,
    ))
    (ap (λ (x : Card). x.app) e ∙ app) (ap (λ (x : Card). x.rca) e ∙ is) (omega (arith, few, count, is_most)))

-- What one status tells, from the laws of statuses.

abbrev pub OwnLaw : Type 0
OwnLaw =
    (kind : Kind) (told : ℕ) (card : Card) → IsCard card → ShowsItself card told
    → Tells kind card (error_bits kind (own_status told) ≡ 0) (HasNoErrorOfItsOwn kind card)

abbrev pub CleanLaw : Type 0
CleanLaw =
    (kind : Kind) (told : ℕ) (card : Card) → IsCard card → ShowsItself card told
    → Tells kind card (IsClean kind (own_status told)) (IsInOrder kind card)

abbrev pub LagLaw : Type 0
LagLaw =
    (kind : Kind) (choice : Choice) (told : ℕ) (card : Card) → IsCard card → ShowsItself (at_work choice card) told
    → Tells kind card (IsAtWork kind (own_status told)) (HasNoErrorOfItsOwn kind (at_work choice card))

abbrev pub UncleanLaw : Type 0
UncleanLaw =
    (kind : Kind) (choice : Choice) (told : ℕ) (card : Card) → IsCard card → ShowsItself (at_work choice card) told
    → IsClean kind (own_status told) → ⊥

lagged : (choice : Choice) (old new : Card) → may_lag old ≡ true → new ≡ lagging choice old → HasLagged old new
lagged choice old new may e = ((both (is_in old.state Tran) old.lags may).1, ap (λ (c : Card). c.polled) e)

lagging_shown : (choice : Choice) (old new : Card) → new ≡ lagging choice old → HasShown old new
lagging_shown choice old new e = subst (HasShown old) (sym e) refl

-- Errors of the programming, and that a switch failed, show at once, or are to show yet: what stands for none of either.
late_none : {X : Type 0} (none : X) (late : Bool) (errors : X) → (if late then none else errors) ≡ none
    → (if late then errors else none) ≡ none → errors ≡ none
late_none none true errors seen left = left
late_none none false errors seen left = seen

late_gets : {X : Type 0} (none : X) (late : Bool) (errors : X) → errors ≡ none → (if late then errors else none) ≡ none
late_gets none true errors is_none = is_none
late_gets none false errors is_none = refl

late_seen : {X : Type 0} (none : X) (late : Bool) (errors : X) → errors ≡ none → (if late then none else errors) ≡ none
late_seen none true errors is_none = refl
late_seen none false errors is_none = is_none

-- what such a status leaves, which shows errors that are cleared by it
lags_at_work : (kind : Kind) (choice : Choice) (left found : ℕ) (old new : Card) → (found ≡ 0) ⊎ (new.errors ≡ 0)
    → may_lag old ≡ true → new ≡ lagging choice (showing left found old)
    → HasNoErrorOfItsOwn kind (at_work choice (showing left found old)) → WasAtWork kind old new
lags_at_work kind choice left found old new cleared may e seen =
    let met = showing left found old in
    let errors : new.errors ≡ (if choice.tells_late then met.errors else 0) = ap (λ (c : Card). c.errors) e in
    let switch : new.switch_error ≡ (if choice.tells_late then old.switch_error else false) =
    ap (λ (c : Card). c.switch_error) e in
    record {
      shown = lagging_shown choice met new e;
      held_none = λ none.
          let held = late_none 0 choice.tells_late met.errors seen.errors (sym errors ∙ none) in
          omega (arith, held, le_or_l old.errors found);
      held_no_switch_error = λ judged mmc none.
          late_none false choice.tells_late old.switch_error (seen.switch_error judged mmc) (sym switch ∙ none);
      gets_no_switch_error = λ unset. switch ∙ late_gets false choice.tells_late old.switch_error unset;
      gets_none = λ none. elim cleared [
        | inl nothing ↦ errors ∙ late_gets 0 choice.tells_late met.errors
            (ap (bit_or old.errors) nothing ∙ or_zero_r old.errors ∙ none)
        | inr clear ↦ clear
      ];
      counts = λ still. lagged choice met new may e;
    }

-- a card in order shows no error in it
seen_in_order : (kind : Kind) (choice : Choice) (card : Card) → HasNoErrorOfItsOwn kind card
    → HasNoErrorOfItsOwn kind (at_work choice card)
seen_in_order kind choice card none =
    record {
      errors = late_seen 0 choice.tells_late card.errors none.errors;
      switch_error = λ judged mmc. late_seen false choice.tells_late card.switch_error (none.switch_error judged mmc);
    }

-- a status that was heard, by the card that told it: as it is, or as it lags behind
told_by : (old new : Card) (heard : Result ℕ Unheard) → IsCard old
    → ((told : ℕ) → heard ≡ Ok told → Showing (λ card. TellsStatus card told new) old new)
    → (P : ℕ → Type 0) (X : Type 0) → (told : ℕ) × (heard ≡ Ok told) × P (own_status told)
    → ((left found told : ℕ) → IsCard (showing left found old) → ShowsItself (showing left found old) told → P (own_status told)
    → new ≡ shown old → X)
    → ((left found told : ℕ) (choice : Choice) → (found ≡ 0) ⊎ (new.errors ≡ 0) → IsCard (showing left found old)
    → ShowsItself (at_work choice (showing left found old)) told
    → P (own_status told) → may_lag old ≡ true → new ≡ lagging choice (showing left found old) → X)
    → X
told_by old new heard k tells P X judged itself lags =
    let says = tells judged.0 judged.1 in
    let met = card_showing says.left says.found old says.among says.errors k in
    elim says.is [
      | inl is ↦ itself says.left says.found judged.0 met is.0 judged.2 is.1
      | inr is ↦ lags says.left says.found judged.0 is.choice says.cleared met is.told_is judged.2 is.may is.card
    ]

-- a card that shows no error of its own holds none
none_showing : (kind : Kind) (left found : ℕ) (card : Card) → HasNoErrorOfItsOwn kind (showing left found card)
    → HasNoErrorOfItsOwn kind card
none_showing kind left found card none = record {
  errors = (let held = none.errors in omega (arith, held, le_or_l card.errors found));
  switch_error = none.switch_error;
}

order_showing : (kind : Kind) (left found : ℕ) (card : Card) → IsInOrder kind (showing left found card) → IsInOrder kind card
order_showing kind left found card order = record {
  no_error = none_showing kind left found card order.no_error;
  tran = order.tran;
  rests = order.rests;
}

pub told_closing : {E : Type 0} (kind : Kind) (old new : Card) (heard : Result ℕ Unheard) (r : Result Closing E) → IsCard old
    → OwnLaw → CleanLaw → LagLaw → UncleanLaw
    → ((told : ℕ) → heard ≡ Ok told → Showing (λ card. TellsStatus card told new) old new)
    → (r ≡ Ok Clean → (told : ℕ) × (heard ≡ Ok told) × IsClean kind (own_status told))
    → (r ≡ Ok AtWork → (told : ℕ) × (heard ≡ Ok told) × IsAtWork kind (own_status told))
    → Closes kind r old new
told_closing kind old new heard r k own clean lag unclean tells is_clean is_work =
    closes_by kind r old new
    (λ is. told_by old new heard k tells (IsClean kind) _ (is_clean is)
    (λ left found told met shows says e. (order_showing kind left found old ((clean kind told _ met shows).0 says), e))
    (λ left found told choice cleared met shows says may e. absurd (unclean kind choice told _ met shows says)))
    (λ is. told_by old new heard k tells (IsAtWork kind) _ (is_work is)
    (λ left found told met shows says e.
    let none = none_showing kind left found old ((own kind told _ met shows).0 says.no_error) in
    record {
      shown = as_shown old new e;
      held_none = λ _. none.errors;
      held_no_switch_error = λ judged mmc _. none.switch_error judged mmc;
      gets_none = λ _. ap (λ (c : Card). c.errors) e;
      gets_no_switch_error = λ _. ap (λ (c : Card). c.switch_error) e;
      counts = λ still. cc (ap (λ (c : Card). c.lags) e, still);
    })
    (λ left found told choice cleared met shows says may e.
    lags_at_work kind choice left found old new cleared may e ((lag kind choice told _ met shows).0 says)))

pub told_soon : {E : Type 0} (kind : Kind) (old new : Card) (heard : Result ℕ Unheard) (r : Result Closing E) → IsCard old
    → CleanLaw → LagLaw → UncleanLaw → (told : ℕ) → heard ≡ Ok told → TellsStatus old told new
    → (new.lags ≡ true → old.polled < patience) → WillBeClean kind old
    → ((told : ℕ) → heard ≡ Ok told → IsClean kind (own_status told) → r ≡ Ok Clean)
    → ((told : ℕ) → heard ≡ Ok told → (IsClean kind (own_status told) → ⊥) → IsAtWork kind (own_status told)
    → r ≡ Ok AtWork)
    → ClosesSoon r old new
told_soon {E} kind old new heard r k clean lag unclean told is tells soon order all_clean all_work =
    elim tells [
      | inl itself ↦ subst (λ (r : Result Closing E). ClosesSoon r old new)
          (sym (all_clean told is ((clean kind told old k itself.0).1 order.0 order.1))) tt
      | inr lags ↦
          subst (λ (r : Result Closing E). ClosesSoon r old new)
          (sym (all_work told is (unclean kind lags.choice told old k lags.told_is)
          ((lag kind lags.choice told old k lags.told_is).1 order.0 (seen_in_order kind lags.choice old order.1.no_error)))) (
            lagged lags.choice old new lags.may lags.card,
            soon (ap (λ (c : Card). c.lags) lags.card),
            ap (λ (c : Card). c.errors) lags.card ∙ late_gets 0 lags.choice.tells_late old.errors order.1.no_error.errors,
          )
    ]

-- One status that has to be clean.

abbrev pub ConfirmsOnce : Kind → ℕ → Result Unit Cause → BusView → BusView → Type 0
ConfirmsOnce kind rca r =
    Worked Narrows
    (λ old new. IsOk r → AfterSomeTime old (λ card. IsInOrder kind card × (new.card ≡ shown card)))
    (λ old new. WillBeClean kind old.card → old.card.app ≡ false → old.card.rca ≡ rca → old.card.lags ≡ false → IsOk r)

pub asked_once : (kind : Kind) (rca : ℕ) (closing : Result Closing Cause) (r : Result Unit Cause) (a b : BusView)
    → (IsOk r → closing ≡ Ok Clean) → (closing ≡ Ok Clean → IsOk r) → Asks kind rca closing a b
    → ConfirmsOnce kind rca r a b
asked_once kind rca closing r a b only all p =
    worked_as a b p p.sectors
    (λ ok. subst (λ c. ClosesInTime kind c a b) (only ok) p.own)
    (λ same order app is up. all (comes_clean closing a.card b.card up (p.fine same order app is)))
