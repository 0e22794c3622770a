-- Parts of a host's work, and two of them one after the other.
use Rattle.std.proofs.Common.{◌<◌, ◌∙◌, ◌≡◌, arith, inl, inr, refl, subst, true, ℕ}
use Rattle.std.proofs.lemmas.Bool.{cases_lt}
use Rattle.std.specs.Prelude.{Err, IsErr, IsOk, None, Ok, Result, Some}
use Rattle.mmc_card.specs.BusView.{BusView}
use Rattle.mmc_card.specs.CardAnswer.{CardAnswer}
use Rattle.mmc_card.specs.Faults.{NoFault}
use Rattle.mmc_card.specs.Card.{IsCard, holds}
use Rattle.mmc_card.specs.Laws.{erased_by, is_frame_of_run, maybe_erased}
use Rattle.mmc_card.specs.Sectors.{Within}
use Rattle.mmc_card.specs.declared.exchange.Lines.{Lines}
use Rattle.mmc_card.specs.declared.exchange.Reply.{Reply}
use Rattle.mmc_bus.specs.declared.host.Unheard.{Unheard}
use Rattle.mmc_bus.specs.Exchanges.{Kept}
use Rattle.mmc_bus.specs.Learned.{Asked, CommandFacts, CommandMet, Stays}
use Rattle.mmc_bus.specs.Work.{Anything, Done, Moved, Narrows, StaysSet, Worked}

pub stays_then : (a b c : BusView) → Stays a b → Stays b c → Stays a c
stays_then a b c p q =
    let l = p.later in
    let m = q.later in
    record {
      carried = record { made = q.carried.made ∙ p.carried.made; sizes = λ i. q.carried.sizes i ∙ p.carried.sizes i };
      later = omega (arith, l, m);
      bounded = λ most h. q.bounded most (p.bounded most h);
      limits = q.limits ∙ p.limits;
    }

-- a bus that stays as it is, but for the lines of the host
pub stays_same : (a : BusView) (lines : Lines) → Stays a (record a { lines = lines })
stays_same a lines = record {
  carried = record { made = refl; sizes = λ part. refl };
  later = omega arith;
  bounded = λ most h. h;
  limits = refl;
}

pub set_then : (a b c : BusView) → StaysSet a b → StaysSet b c → StaysSet a c
set_then a b c p q = record { lines = q.lines ∙ p.lines; stands = λ setting s. q.stands setting (p.stands setting s) }

pub narrows_then : (a b c : BusView) → Narrows a b → Narrows b c → Narrows a c
narrows_then a b c p q part sector value h = p part sector value (q part sector value h)

-- no fault in the whole is none in its parts
pub quiet_parts : (a b c : BusView) → Stays a b → Stays b c → NoFault a c → NoFault a b × NoFault b c
quiet_parts a b c p q same =
    let l = p.later in
    let m = q.later in
    (omega (arith, l, m, same), omega (arith, l, m, same))

-- Work is done by one exchange.
pub done_by : {Facts : Type 0} {Stands Holds Own Fine : BusView → BusView → Type 0} (old new : BusView)
    → Kept old Facts new → Stays old new → Stands old new → Holds old new → Own old new
    → (NoFault old new → Fine old new) → Done Stands Holds Own Fine old new
done_by old new k stays set sectors own fine = record {
  was_kept = k.was_kept;
  was_card = k.was_card;
  is_card = k.is_card;
  stays = stays;
  set = set;
  sectors = sectors;
  own = own;
  fine = fine;
}

-- Work in two parts.
pub done_then : {Stands Holds Own Fine Set More Gained Easy Still All Whole Calm : BusView → BusView → Type 0}
    (a b c : BusView) → Done Stands Holds Own Fine a b → Done Set More Gained Easy b c → Still a c → All a c
    → Whole a c → (NoFault a c → Calm a c) → Done Still All Whole Calm a c
done_then a b c p q set sectors own fine = record {
  was_kept = p.was_kept;
  was_card = p.was_card;
  is_card = q.is_card;
  stays = stays_then a b c p.stays q.stays;
  set = set;
  sectors = sectors;
  own = own;
  fine = fine;
}

-- Of the same work something else holds.
pub done_as : {Stands Holds Own Fine Still All Whole Calm : BusView → BusView → Type 0} (a b : BusView)
    → Done Stands Holds Own Fine a b → Still a b → All a b → Whole a b → (NoFault a b → Calm a b)
    → Done Still All Whole Calm a b
done_as a b p set sectors own fine = record {
  was_kept = p.was_kept;
  was_card = p.was_card;
  is_card = p.is_card;
  stays = p.stays;
  set = set;
  sectors = sectors;
  own = own;
  fine = fine;
}

-- Work with a card that stays as it is set.

-- a command of a run, other than one that erases
pub command_worked : {X : Type 0} {hears : Reply → Result X Unheard} {answers : CardAnswer → Result X Unheard}
    {Own Fine : BusView → BusView → Type 0} {old : BusView} {index argument : ℕ} {heard : Result X Unheard}
    {new : BusView}
    → Asked hears answers old index argument heard new → erased_by old.card (Some (index, argument)) ≡ None
    → is_frame_of_run old.card (Some (index, argument)) ≡ true → new.is_kept ≡ true → Own old new
    → (NoFault old new → Fine old new) → Worked Narrows Own Fine old new
command_worked {old} {new} asked none of_run kept own fine =
    let e = asked.exchanged in
    let k = e.kept kept in
    done_by old new k k.step.stays (record { lines = e.lines; stands = k.step.stands of_run })
    (rw none at k.step.narrows) own fine

-- one part after the other
pub joined : {Holds Own Fine More Gained Easy All Whole Calm : BusView → BusView → Type 0} (a b c : BusView)
    → Worked Holds Own Fine a b
    → Worked More Gained Easy b c → All a c → Whole a c → (NoFault a c → Calm a c) → Worked All Whole Calm a c
joined a b c p q sectors own fine = done_then a b c p q (set_then a b c p.set q.set) sectors own fine

-- two parts, of which nothing is said but that they are work
pub in_two : {Holds Own Fine More Gained Easy : BusView → BusView → Type 0} (a b c : BusView) → Worked Holds Own Fine a b
    → Worked More Gained Easy b c → Worked Anything Anything Anything a c
in_two a b c p q = joined a b c p q tt tt (λ same. tt)

-- of the same work something else holds
pub worked_as : {Holds Own Fine All Whole Calm : BusView → BusView → Type 0} (a b : BusView) → Worked Holds Own Fine a b
    → All a b → Whole a b → (NoFault a b → Calm a b) → Worked All Whole Calm a b
worked_as a b p sectors own fine = done_as a b p p.set sectors own fine

-- Work while the card goes from state to state.

-- a command that erases nothing
pub moved_by : {X : Type 0} {Own Fine : BusView → BusView → Type 0} {answers : CardAnswer → Result X Unheard}
    (old : BusView) (index argument : ℕ) (heard : Result X Unheard) (new : BusView)
    → erased_by old.card (Some (index, argument)) ≡ None
    → Kept old (CommandMet answers old index argument heard new) new
    → Own old new → (NoFault old new → Fine old new) → Moved Own Fine old new
moved_by old index argument heard new none k own fine =
    done_by old new k k.step.stays tt
    (subst (λ e. Within (holds new.card) (maybe_erased e (holds old.card))) none k.step.narrows) own fine

-- one part after the other
pub moved_then : {Stands Own Fine Set More Easy All Calm : BusView → BusView → Type 0} (a b c : BusView)
    → Done Stands Narrows Own Fine a b → Done Set Narrows More Easy b c → All a c → (NoFault a c → Calm a c)
    → Moved All Calm a c
moved_then a b c p q own fine = done_then a b c p q tt (narrows_then a b c p.sectors q.sectors) own fine

-- of the same work something else holds
pub moved_as : {Stands Own Fine All Calm : BusView → BusView → Type 0} (a b : BusView)
    → Done Stands Narrows Own Fine a b → All a b → (NoFault a b → Calm a b) → Moved All Calm a b
moved_as a b p own fine = done_as a b p tt p.sectors own fine

-- no exchange at all
pub moved_none : {Own Fine : BusView → BusView → Type 0} (a : BusView) → a.is_kept ≡ true → IsCard a.card → Own a a
    → Fine a a → Moved Own Fine a a
moved_none a kept card own fine = record {
  was_kept = kept;
  was_card = card;
  is_card = card;
  stays = stays_same a a.lines;
  set = tt;
  sectors = λ part sector value h. h;
  own = own;
  fine = λ same. fine;
}

-- two parts, of each of which its own holds
pub both : {Own Fine More Easy : BusView → BusView → Type 0} (a b c : BusView) → Moved Own Fine a b
    → Moved More Easy b c → Moved (λ old new. Own a b × More b c) (λ old new. Fine a b × Easy b c) a c
both a b c p q =
    moved_then a b c p q (p.own, q.own)
    (λ same. let parts = quiet_parts a b c p.stays q.stays same in (p.fine parts.0, q.fine parts.1))

-- that the host sets its lines is nothing to the card
pub moved_on : {Stands Own Fine All Calm : BusView → BusView → Type 0} (a b : BusView) (lines : Lines)
    → Done Stands Narrows Own Fine a b → All a (record b { lines = lines })
    → (NoFault a b → Calm a (record b { lines = lines })) → Moved All Calm a (record b { lines = lines })
moved_on a b lines p own fine = record {
  was_kept = p.was_kept;
  was_card = p.was_card;
  is_card = p.is_card;
  stays = stays_then a b (record b { lines = lines }) p.stays (stays_same b lines);
  set = tt;
  sectors = p.sectors;
  own = own;
  fine = fine;
}

-- what is an error is no success
pub refuted : {X E P : Type 0} (r : Result X E) → IsErr r → IsOk r → P
refuted (Ok x) err ok = cc (err)
refuted (Err fault) err ok = cc (ok)

-- what can't be without a fault takes one
pub fell : (a b : BusView) → Stays a b → (NoFault a b → ⊥) → a.faults < b.faults
fell a b stays not =
    let l = stays.later in
    elim (cases_lt a.faults b.faults) [
      | inl less ↦ less
      | inr more
          ↦ (let same : b.faults ≡ a.faults = omega (arith, l, more) in absurd (not same))
    ]
