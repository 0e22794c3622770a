-- A card that was opened, over a bus and over its host.
use Rattle.std.proofs.Common.{◌&&◌, ◌*◌, ◌∙◌, ◌==◌, ◌≡◌, ◌||◌, ◌+◌, ◌≤◌, ◌⊎◌, ap, arith, inl, inr, refl, suc, zero, subst, sym, true, false, ℕ, ℤ}
use Rattle.std.proofs.lemmas.Bool.{false≢true}
use Rattle.std.specs.Prelude.{Bool, negsuc, pos}
use Rattle.mmc_bus.specs.Wires.{bus_view_with}
use Rattle.mmc_bus.specs.Work.{Anything, Moved, Moves}
use Rattle.mmc_bus.specs.declared.wire.Wire.{Wire}
use Rattle.mmc_card.proofs.Narrow.{carried_then}
use Rattle.mmc_card.specs.BusView.{BusView}
use Rattle.mmc_card.specs.Card.{Card, holds}
use Rattle.mmc_card.specs.Laws.{Carried}
use Rattle.mmc_card.specs.Made.{Made}
use Rattle.mmc_card.specs.Profile.{InProfile}
use Rattle.mmc_card.specs.Sectors.{Within}
use Rattle.mmc_card.specs.declared.exchange.Lines.{Lines}
use Rattle.mmc_direct.proofs.NotedLemmas.{stands_too}
use Rattle.mmc_direct.specs.Noted.{IsNotedOf, bus_going_on, lines_in}
use Rattle.mmc_direct.specs.Opened.{IsReadyAs, heedful}
use Rattle.mmc_direct.specs.declared.opening.TheConstants.{ROUNDS_OF_AN_OPENING}
use Rattle.mmc_host.specs.Hosts.{HostView, bus_over}
use Rattle.mmc_record.specs.Note.{has_info, is_note}
use Rattle.mmc_record.specs.declared.record.CardRecord.{CardRecord}
use Rattle.mmc_switch.specs.Info.{IsInfo}
use Rattle.mmc_switch.specs.declared.stands.Stands.TheVariants as Stands
use Rattle.kelifandro.specs.Done.{IsLeft, OnlyTold}
use Rattle.kelifandro.specs.History.{GoesOn, HasServed, HasStayed, IsOpened}
use Rattle.kelifandro.specs.History.Call.{Opened}
use Rattle.kelifandro.proofs.GoesOnLemmas.{both}
use Rattle.kelifandro.proofs.HistoryLemmas.{opened_more}

pub not_zero : (n : ℕ) → negsuc n ≡ pos 0 → ⊥
not_zero n is = absurd (cc)

-- the same moves, of which another fact is told
pub moves_as : {Own Fine Other : BusView → BusView → Type 0} (old new : BusView) → (Own old new → Other old new)
    → Moves Own Fine old new → Moves Other Anything old new
moves_as old new then moves kept =
    let moved = moves kept in
    record {
      was_kept = moved.was_kept;
      was_card = moved.was_card;
      is_card = moved.is_card;
      stays = moved.stays;
      set = moved.set;
      sectors = moved.sectors;
      own = then moved.own;
      fine = λ none. tt;
    }

-- A host to which nothing was done, over whose bus a card was opened, and what the end of that has left of it.
module _ (Done : Type 0) (was host left now : HostView) (wire begins : Wire) (misused : Bool) (Own Fine : BusView → BusView → Type 0)
    (told : OnlyTold was host) (ended : now.is_kept ≡ true → (misused ≡ false) × IsLeft Done left now) where
  abbrev from : BusView
  from = bus_view_with host.card host.faults host.may_fall host.is_kept begins

  abbrev end : BusView
  end = bus_over left wire misused

  pub end_kept : now.is_kept ≡ true → end.is_kept ≡ true
  end_kept is = let e = ended is in both left.is_kept misused e.1.was_kept e.0

  moved_by : (start : BusView) → start ≡ from → Moves Own Fine start end → now.is_kept ≡ true → Moved Own Fine from end
  moved_by start same moves is = subst (λ (v : BusView). Moves Own Fine v end) same moves (end_kept is)

  pub stayed : (start : BusView) → start ≡ from → Moves Own Fine start end → now.is_kept ≡ true → HasStayed was now
  stayed start same moves is =
      let m = moved_by start same moves is in
      let l = (ended is).1 in
      let t = told m.was_kept in
      let card : host.card ≡ was.card = ap (λ (h : HostView). h.card) t.1 in
      let faults : host.faults ≡ was.faults = ap (λ (h : HostView). h.faults) t.1 in
      let first : host.faults ≤ left.faults = m.stays.later in
      let then : left.faults ≤ now.faults = l.later in
      record {
        was_true = t.0;
        carried = carried_then (subst (λ (c : Card). Carried c left.card) card m.stays.carried) l.carried;
        later = omega (arith, faults, first, then);
        narrows = λ p n v i. subst (λ (c : Card). Within (holds left.card) (holds c)) card m.sectors p n v (l.narrows p n v i);
      }

  -- what is ready over the bus is ready behind its host
  pub ready_by : (start : BusView) → start ≡ from → Moves Own Fine start end → (is : now.is_kept ≡ true) → Done → (note : CardRecord)
      → (host.is_kept ≡ true → begins.limits ≡ host.limits) → now.limits ≡ was.limits
      → (end.is_kept ≡ true → IsReadyAs note end) → IsOpened now note
  ready_by start same moves is done note within stay so =
      let ready = so (end_kept is) in
      let m = moved_by start same moves is in
      let card : now.card ≡ left.card = (ended is).1.same done in
      let limits : now.limits ≡ wire.limits =
      stay ∙ sym (ap (λ (h : HostView). h.limits) (told m.was_kept).1) ∙ sym (within m.was_kept) ∙ sym m.stays.limits in
      record {
        lines = wire.lines;
        ready = record {
          session = ready.session;
          initialized = record {
            ready = stands_too (Stands.Ready ready.session) end (bus_going_on now wire.lines) card
                limits ready.initialized.ready.set.on_lines ready.initialized.ready;
            selected = ready.initialized.selected;
            info = subst (λ (l : Lines). IsInfo l now.card.made ready.session.info) (sym limits)
                (subst (λ (c : Card). IsInfo wire.limits c.made ready.session.info) (sym card) ready.initialized.info);
          };
          says = ready.says;
          ready = stands_too (Stands.Ready (heedful ready.session)) end (bus_going_on now wire.lines) card limits
              ready.ready.set.on_lines ready.ready;
        };
      }

  pub refused_by : (start : BusView) → start ≡ from → Moves Own Fine start end → now.is_kept ≡ true → InProfile was.card.made
      → (end.is_kept ≡ true → InProfile start.card.made → start.faults + ROUNDS_OF_AN_OPENING ≤ end.faults) → was.faults + ROUNDS_OF_AN_OPENING ≤ now.faults
  refused_by start same moves is profile fell =
      let m = moved_by start same moves is in
      let t = told m.was_kept in
      let card : start.card ≡ was.card = ap (λ (v : BusView). v.card) same ∙ ap (λ (h : HostView). h.card) t.1 in
      let faults : start.faults ≡ was.faults = ap (λ (v : BusView). v.faults) same ∙ ap (λ (h : HostView). h.faults) t.1 in
      let first : start.faults + ROUNDS_OF_AN_OPENING ≤ left.faults =
      fell (end_kept is) (subst (λ (c : Card). InProfile c.made) (sym card) profile) in
      let then : left.faults ≤ now.faults = (ended is).1.later in
      omega (arith, faults, first, then)

-- where nothing is new but what the host was told
pub stayed_told : (old new : HostView) → OnlyTold old new → new.is_kept ≡ true → HasStayed old new
stayed_told old new told is =
    let t = told is in
    let card : new.card ≡ old.card = ap (λ (h : HostView). h.card) t.1 in
    let faults : new.faults ≡ old.faults = ap (λ (h : HostView). h.faults) t.1 in
    record {
      was_true = t.0;
      carried = subst (λ (c : Card). Carried old.card c) (sym card) (record { made = refl; sizes = λ p. refl });
      later = omega (arith, faults);
      narrows = subst (λ (c : Card). Within (holds c) (holds old.card)) (sym card) (λ p n v i. i);
    }

-- Openings, one after the other.

pub stayed_then : {a b c : HostView} → HasStayed a b → HasStayed b c → HasStayed a c
stayed_then {a} {b} {c} first then = record {
  was_true = first.was_true;
  carried = carried_then first.carried then.carried;
  later = let x = first.later in let y = then.later in omega (arith, x, y);
  narrows = λ p s v i. first.narrows p s v (then.narrows p s v i);
}

pub refused_then : (a b c : HostView) → HasStayed a b → (InProfile b.card.made → b.faults + ROUNDS_OF_AN_OPENING ≤ c.faults) → InProfile a.card.made
    → a.faults + ROUNDS_OF_AN_OPENING ≤ c.faults
refused_then a b c first refused profile =
    let x = first.later in
    let y = refused (subst (λ (made : Made). InProfile made) (sym first.carried.made) profile) in omega (arith, x, y)

-- where both failed the faults of both have fallen
pub refused_both : (a b c d : HostView) → HasStayed a b → a.faults + ROUNDS_OF_AN_OPENING ≤ b.faults → HasStayed b c
    → (InProfile c.card.made → c.faults + ROUNDS_OF_AN_OPENING ≤ d.faults) → InProfile a.card.made → a.faults + 2 * ROUNDS_OF_AN_OPENING ≤ d.faults
refused_both a b c d first fell off refused profile =
    let x = off.later in
    let y =
    refused (subst (λ (made : Made). InProfile made) (sym off.carried.made)
    (subst (λ (made : Made). InProfile made) (sym first.carried.made) profile)) in omega (arith, fell, x, y)

and_false : (b : Bool) → (b && false) ≡ false
and_false true = refl
and_false false = refl

pub closed : (note : CardRecord) → note.state ≡ 0 → is_note note ≡ false
closed note is =
    ap (λ (state : ℕ). has_info note && (state == 1 || state == 2 || state == 3)) is ∙ and_false (has_info note)

zero_or_not : (number : ℤ) → (number ≡ pos 0) ⊎ (number ≡ pos 0 → ⊥)
zero_or_not (pos zero) = inl refl
zero_or_not (pos (suc n)) = inr (λ is. absurd (cc))
zero_or_not (negsuc n) = inr (λ is. absurd (cc))

-- a card that was opened is noted as it stands
opened_noted : (now : HostView) (note : CardRecord) → IsOpened now note → IsNotedOf note now
opened_noted now note o =
    let how = Stands.Ready (heedful o.ready.session) in
    record {
      how = how;
      says = o.ready.says;
      stands = stands_too how (bus_going_on now o.lines) (bus_going_on now (lines_in how)) refl refl refl o.ready.ready;
    }

pub opened_goes_on : (was now : HostView) (note new : CardRecord) (number : ℤ) → now.limits ≡ was.limits
    → HasStayed was now → (number ≡ pos 0 → IsOpened now new)
    → ((number ≡ pos 0 → ⊥) → new.state ≡ 0) → GoesOn (Opened number) was note now new
opened_goes_on was now note new number same stays ready not = record {
  was_true = stays.was_true;
  kept = λ at noted.
      elim (zero_or_not number) as (λ (w : (number ≡ pos 0) ⊎ (number ≡ pos 0 → ⊥)). IsNotedOf new now) [
        | inl done ↦ opened_noted now new (ready done)
        | inr other ↦ absurd (false≢true (sym (closed new (not other)) ∙ noted))
      ];
  left = λ at. tt;
  served = λ at start earlier h.
      opened_more now.limits start was.card now.card earlier number stays.carried stays.narrows
      (subst (λ (l : Lines). HasServed l start was.card earlier) (sym same) h);
}
