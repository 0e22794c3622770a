-- What polls in a row leave.
use Rattle.std.proofs.Common.{◌+◌, ◌<◌, ◌∙◌, ◌≡◌, ◌≤◌, Bool, add-one, ap, arith, false, refl, suc, sym, true}
use Rattle.std.proofs.Common.{ℕ, ◌⊎◌, inl, inr, zero}
use Rattle.std.specs.Prelude.{Err, IsOk, IsOkAnd, Ok, Result, is_ok}
use Rattle.mmc_bus.specs.declared.cause.Cause.{Cause}
use Rattle.mmc_card.specs.CardAnswer.{counted}
use Rattle.mmc_bus.proofs.WorkLemmas.{narrows_then, quiet_parts, set_then, stays_same, stays_then, worked_as}
use Rattle.mmc_card.specs.Blocks.{HasRested, rested}
use Rattle.mmc_card.specs.Card.{Card, IsCard, is_in, is_selected, patience}
use Rattle.mmc_bus.specs.Exchanges.{Kept}
use Rattle.mmc_card.specs.Faults.{NoFault}
use Rattle.mmc_bus.specs.Learned.{IsThereAfter, PollFacts, Stays, may_fail, polled_to}
use Rattle.mmc_bus.specs.Work.{Narrows, StaysSet, Worked}
use Rattle.mmc_card.specs.BusView.{BusView}
use Rattle.mmc_card.proofs.Conditions.{by_cond}
use Rattle.mmc_frame.specs.declared.card_state.State.TheVariants.{Prg}

-- Cards that differ in the count of polls alone.

abbrev pub polled_as : Card → ℕ → Card
polled_as card polls = record card { polled = polls }

-- so many polls more, counted up to `patience`
abbrev pub counted_up : ℕ → ℕ → ℕ
counted_up zero polls = polls
counted_up (suc more) polls = counted (counted_up more polls)

one_up : (more polls : ℕ) → counted (counted_up more polls) ≡ counted_up (more + 1) polls
one_up more polls = ap (λ n. counted_up n polls) (sym (add-one more))

-- from none on all are counted, up to `patience`
all_counted : (more : ℕ) → more ≤ patience → counted_up more 0 ≡ more
all_counted zero few = refl
all_counted (suc more) few = let e = all_counted more (omega (arith, few)) in omega (arith, e, few)

-- What was said is so: the card holds no error, or can't have failed, or no fault fell.
abbrev pub IsSure : BusView → BusView → Type 0
IsSure old now = (now.card.errors ≡ 0) ⊎ ((may_fail old.card ≡ false) ⊎ NoFault old now)

-- a poll raises no error of its own
errors_polled : (said : Bool) (card : Card) → (polled_to said card).errors ≡ card.errors
errors_polled true card = refl
errors_polled false card =
    by_cond (λ (c : Card). c.errors ≡ card.errors) (is_in card.state Prg) (λ _. refl) (λ _. refl)

-- So many polls were answered yes.
pub record Polling (old : BusView) (polls : ℕ) (now : BusView) : Type 0 where
  pub was_kept : old.is_kept ≡ true
  pub cards : 0 < polls → IsCard old.card × IsCard now.card
  pub none_yet : polls ≡ 0 → IsCard now.card → IsCard old.card
  pub stays : Stays old now
  pub set : StaysSet old now
  pub narrows : Narrows old now
  pub card : IsSure old now → now.card ≡ polled_as old.card (counted_up polls old.card.polled)
  -- without a fault no more than `patience`
  pub few : NoFault old now → old.card.polled ≡ 0 → polls ≤ patience

pub polling_none : (old : BusView) → old.is_kept ≡ true → Polling old 0 old
polling_none old kept =
    record {
      was_kept = kept;
      cards = λ h. absurd (omega (arith, h));
      none_yet = λ zero k. k;
      stays = stays_same old old.lines;
      set = record { lines = refl; stands = λ setting s. s };
      narrows = λ part sector value h. h;
      card = λ sure. refl;
      few = λ same zero. omega arith;
    }

-- what the next poll leaves
poll_set : (now : BusView) (said : Bool) (new : BusView) → new.lines ≡ now.lines → PollFacts now said new
    → StaysSet now new
poll_set now said new lines facts = record { lines = lines; stands = facts.stands }

was_card : (old : BusView) (polls : ℕ) (now : BusView) → Polling old polls now → IsCard now.card → IsCard old.card
was_card old zero now p k = p.none_yet refl k
was_card old (suc polls) now p k = (p.cards (omega arith)).0

-- it was so before the next poll too
sure_before : (old : BusView) (polls : ℕ) (now new : BusView) (said : Bool) → Polling old polls now → Kept now (PollFacts now said new) new
    → IsThereAfter said new.card → IsSure old new → IsSure old now × (new.card ≡ polled_to said now.card)
sure_before old polls now new said p k there (inl none) =
    let e = k.step.shown there none in
    (inl (sym (errors_polled said now.card) ∙ sym (ap (λ (c : Card). c.errors) e) ∙ none), e)
sure_before old polls now new said p k there (inr (inl quiet)) =
    let was : IsSure old now = inr (inl quiet) in
    (was, k.step.calm there (ap may_fail (p.card was) ∙ quiet))
sure_before old polls now new said p k there (inr (inr same)) =
    let parts = quiet_parts old now new p.stays k.step.stays same in
    (inr (inr parts.0), k.step.fine parts.1)

pub polling_yes : (old : BusView) (polls : ℕ) (now new : BusView) → Polling old polls now → new.lines ≡ now.lines
    → Kept now (PollFacts now true new) new
    → Polling old (polls + 1) new
polling_yes old polls now new p lines k =
    let facts = k.step in
    record {
      was_kept = p.was_kept;
      cards = λ h. (was_card old polls now p k.was_card, k.is_card);
      none_yet = λ zero. absurd (omega (arith, zero));
      stays = stays_then old now new p.stays facts.stays;
      set = set_then old now new p.set (poll_set now true new lines facts);
      narrows = narrows_then old now new p.narrows facts.narrows;
      card = λ sure.
          let was = sure_before old polls now new true p k (λ no. cc no) sure in
          was.1 ∙ ap (λ (c : Card). polled_as c (counted c.polled)) (p.card was.0)
          ∙ ap (polled_as old.card) (one_up polls old.card.polled);
      few = λ same zero.
          let parts = quiet_parts old now new p.stays facts.stays same in
          let below = facts.patient parts.1 refl in
          let few = p.few parts.0 zero in
          let count : now.card.polled ≡ counted_up polls old.card.polled = ap (λ (c : Card). c.polled) (p.card (inr (inr parts.0))) in
          let all : counted_up polls old.card.polled ≡ polls = ap (counted_up polls) zero ∙ all_counted polls few in
          omega (arith, below, count, all);
    }

-- What polls in a row tell, by how many were answered yes before a no.
abbrev pub Counts : Result ℕ Cause → BusView → BusView → Type 0
Counts r =
    Worked Narrows
    (λ old new. IsOk r → is_selected new.card.state ≡ true → new.card.errors ≡ 0 → HasRested old.card new.card)
    (λ old new. old.card.polled ≡ 0
    → IsOkAnd r (λ polls. (polls ≤ patience) × (new.card ≡ rested (record old.card { polled = polls }))))

-- the next poll is answered no
rests_now : (old : BusView) (polls : ℕ) (now : BusView) → Polling old polls now → IsSure old now
    → rested now.card ≡ rested (polled_as old.card (counted_up polls old.card.polled))
rests_now old polls now p sure = ap rested (p.card sure)

pub polled_no : {count : ℕ} (old : BusView) (polls : ℕ) (now new : BusView) → Polling old polls now
    → new.lines ≡ now.lines → count ≡ polls
    → Kept now (PollFacts now false new) new → Counts (Ok count) old new
polled_no old polls now new p lines is k = record {
  was_kept = p.was_kept;
  was_card = was_card old polls now p k.was_card;
  is_card = k.is_card;
  stays = stays_then old now new p.stays k.step.stays;
  set = set_then old now new p.set (poll_set now false new lines k.step);
  sectors = narrows_then old now new p.narrows k.step.narrows;
  own = λ ok up none.
      let was = sure_before old polls now new false p k (λ no. up) (inl none) in
      (counted_up polls old.card.polled, was.1 ∙ rests_now old polls now p was.0);
  fine = λ same zero.
      let parts = quiet_parts old now new p.stays k.step.stays same in
      let few = p.few parts.0 zero in
      let all : counted_up polls old.card.polled ≡ polls = ap (counted_up polls) zero ∙ all_counted polls few in (
        omega (arith, few, is),
        k.step.fine parts.1 ∙ rests_now old polls now p (inr (inr parts.0)) ∙ ap (λ n. rested (polled_as old.card n)) (all ∙ sym is),
      );
}

-- a no of a card that can't have failed
pub calm_no : (old : BusView) (polls : ℕ) (now new : BusView) → Polling old polls now
    → Kept now (PollFacts now false new) new → is_selected new.card.state ≡ true → may_fail old.card ≡ false
    → HasRested old.card new.card
calm_no old polls now new p k up quiet =
    let was = sure_before old polls now new false p k (λ no. up) (inr (inl quiet)) in
    (counted_up polls old.card.polled, was.1 ∙ rests_now old polls now p was.0)

-- so many times yes don't come without a fault
pub polled_out : {Own Fine : BusView → BusView → Type 0} (old : BusView) (polls : ℕ) (now : BusView)
    → Polling old polls now
    → patience < polls → Own old now → Worked Narrows Own (λ old new. old.card.polled ≡ 0 → Fine old new) old now
polled_out old polls now p many own =
    let cards = p.cards (omega (arith, many)) in
    record {
      was_kept = p.was_kept;
      was_card = cards.0;
      is_card = cards.1;
      stays = p.stays;
      set = p.set;
      sectors = p.narrows;
      own = own;
      fine = λ same zero. absurd (omega (arith, p.few same zero, many));
    }

-- polls whose number isn't wanted
rested_all : (counts : Result ℕ Cause) (old new : Card)
    → IsOkAnd counts (λ polls. (polls ≤ patience) × (new ≡ rested (record old { polled = polls })))
    → IsOk counts × HasRested old new
rested_all (Ok polls) old new told = (refl, (polls, told.1))
rested_all (Err cause) old new told = absurd told

pub waited_out : (counts : Result ℕ Cause) (r : Result Unit Cause) (a b : BusView) → is_ok r ≡ is_ok counts
    → Counts counts a b
    → Worked Narrows
    (λ old new. IsOk r → is_selected new.card.state ≡ true → new.card.errors ≡ 0 → HasRested old.card new.card)
    (λ old new. old.card.polled ≡ 0 → IsOk r × HasRested old.card new.card) a b
waited_out counts r a b same p =
    worked_as a b p p.sectors (λ ok. p.own (sym same ∙ ok))
    (λ quiet zero.
    let told = rested_all counts a.card b.card (p.fine quiet zero) in
    (same ∙ told.0, told.1))
