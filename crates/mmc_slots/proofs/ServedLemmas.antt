-- What becomes of those that were in service together.
use Rattle.std.proofs.Common.{◌+◌, ◌<◌, ◌∙◌, ◌≡◌, ◌≢◌, ◌≤◌, ◌∷◌, ◌++◌, Bool, List, [], ap, arith, drop, false, inl, inr, length, map}
use Rattle.std.proofs.Common.{refl, subst, sym, take, ℕ}
use Rattle.std.specs.List.{AllByRecursion}
use Rattle.std.specs.Prelude.{◌==◌, filter, not}
use Rattle.std.proofs.lemmas.Bool.{cases_eq, eq-eqb, ne_eqb}
use Rattle.std.proofs.lemmas.List.{drop-set-lt, map_more, take_more, take_more_set}
use Rattle.mmc_slots.specs.Served.{IsAnswered, IsSplit, all_moved_on, moved_on}
use Rattle.mmc_slots.specs.Slots.{AscendWithin, Memory, SameButStates, entries_in, entry_of, free_slot, in_state, slot_at, tickets}
use Rattle.mmc_slots.specs.declared.slot.Slot.{Slot}
use Rattle.mmc_slots.proofs.SlotLemmas.{is_free, is_taken, kept_append, kept_no, kept_yes, marked, rest_more, same_there}
use Rattle.mmc_slots.proofs.TicketLemmas.{from_lower}

pub moved_yes : (state : ℕ) (s : Slot) → s.state ≡ 2 → moved_on state s ≡ in_state state s
moved_yes state s h = rw (eq-eqb s.state 2 h) refl

pub moved_no : (state : ℕ) (s : Slot) → s.state ≢ 2 → moved_on state s ≡ s
moved_no state s h = rw (ne_eqb s.state 2 h) refl

-- What is kept of slots that were changed one by one.

changed : {B : Type 0} (f : Slot → B) (p q : Slot → Bool) (g : Slot → Slot) (ss : List Slot)
    → AllByRecursion (λ s. map f (filter p (g s ∷ [])) ≡ map f (filter q (s ∷ []))) ss
    → map f (filter p (map g ss)) ≡ map f (filter q ss)
changed f p q g [] all = refl
changed f p q g (s ∷ ss) all =
    kept_append f p (g s ∷ []) (map g ss) ∙ ap (λ xs. xs ++ map f (filter p (map g ss))) all.0
    ∙ ap (λ xs. map f (filter q (s ∷ [])) ++ xs) (changed f p q g ss all.1) ∙ sym (kept_append f q (s ∷ []) ss)

each : (P : Slot → Type 0) → ((s : Slot) → P s) → (ss : List Slot) → AllByRecursion P ss
each P h [] = tt
each P h (s ∷ ss) = (h s, each P h ss)

one_stays : (m : Memory) (other state : ℕ) → other ≢ 2 → state ≢ other → (s : Slot)
    → entries_in m other (moved_on state s ∷ []) ≡ entries_in m other (s ∷ [])
one_stays m other state apart unlike s =
    elim (cases_eq s.state 2) [
      | inl two ↦ ap (λ (x : Slot). entries_in m other (x ∷ [])) (moved_yes state s two)
          ∙ kept_no (entry_of m) (λ x. x.state == other) (in_state state s) [] (ne_eqb state other unlike)
          ∙ sym (kept_no (entry_of m) (λ x. x.state == other) s [] (ne_eqb s.state other (λ h. apart (sym h ∙ two))))
      | inr h ↦ ap (λ (x : Slot). entries_in m other (x ∷ [])) (moved_no state s h)
    ]

-- those of other states stay
pub others_stay : (m : Memory) (other state : ℕ) (ss : List Slot) → other ≢ 2 → state ≢ other
    → entries_in m other (all_moved_on state ss) ≡ entries_in m other ss
others_stay m other state ss apart unlike =
    changed (entry_of m) (λ s. s.state == other) (λ s. s.state == other) (moved_on state) ss
    (each (λ s. entries_in m other (moved_on state s ∷ []) ≡ entries_in m other (s ∷ [])) (one_stays m other state apart unlike) ss)

not_together : (state : ℕ) (s : Slot) → state ≢ 2 → ((moved_on state s).state == 2) ≡ false
not_together state s apart =
    elim (cases_eq s.state 2) [
      | inl two ↦ ap (λ (x : Slot). x.state == 2) (moved_yes state s two) ∙ ne_eqb state 2 apart
      | inr h ↦ ap (λ (x : Slot). x.state == 2) (moved_no state s h) ∙ ne_eqb s.state 2 h
    ]

-- none is in service
none_together : (m : Memory) (state : ℕ) (ss : List Slot) → state ≢ 2 → entries_in m 2 (all_moved_on state ss) ≡ []
none_together m state [] apart = refl
none_together m state (s ∷ ss) apart =
    kept_no (entry_of m) (λ x. x.state == 2) (moved_on state s) (all_moved_on state ss) (not_together state s apart)
    ∙ none_together m state ss apart

-- those that were in service are to be served alone, where apart other is
one_follows : (m : Memory) (s : Slot) → s.state ≢ 3 → entries_in m 3 (moved_on 3 s ∷ []) ≡ entries_in m 2 (s ∷ [])
one_follows m s apart =
    elim (cases_eq s.state 2) [
      | inl two ↦ ap (λ (x : Slot). entries_in m 3 (x ∷ [])) (moved_yes 3 s two)
          ∙ sym (kept_yes (entry_of m) (λ x. x.state == 2) s [] (eq-eqb s.state 2 two))
      | inr h ↦ ap (λ (x : Slot). entries_in m 3 (x ∷ [])) (moved_no 3 s h)
          ∙ kept_no (entry_of m) (λ x. x.state == 3) s [] (ne_eqb s.state 3 apart)
          ∙ sym (kept_no (entry_of m) (λ x. x.state == 2) s [] (ne_eqb s.state 2 h))
    ]

none_alone : (m : Memory) (ss : List Slot) → entries_in m 3 ss ≡ []
    → AllByRecursion (λ s. entries_in m 3 (moved_on 3 s ∷ []) ≡ entries_in m 2 (s ∷ [])) ss
none_alone m [] none = tt
none_alone m (s ∷ ss) none =
    let three : s.state ≢ 3 = λ h. let e = sym (kept_yes (entry_of m) (λ x. x.state == 3) s ss (eq-eqb s.state 3 h)) ∙ none in cc in
    (one_follows m s three, none_alone m ss (sym (kept_no (entry_of m) (λ x. x.state == 3) s ss (ne_eqb s.state 3 three)) ∙ none))

pub all_answered : (m : Memory) (ss : List Slot) → IsAnswered m ss (all_moved_on 0 ss)
all_answered m ss = record {
  none = none_together m 0 ss (λ h. omega (arith, h));
  waits = others_stay m 1 0 ss (λ h. omega (arith, h)) (λ h. omega (arith, h));
  alone = others_stay m 3 0 ss (λ h. omega (arith, h)) (λ h. omega (arith, h));
}

pub all_split : (m : Memory) (ss : List Slot) → entries_in m 3 ss ≡ [] → IsSplit m ss (all_moved_on 3 ss)
all_split m ss none = record {
  none = none_together m 3 ss (λ h. omega (arith, h));
  waits = others_stay m 1 3 ss (λ h. omega (arith, h)) (λ h. omega (arith, h));
  alone = changed (entry_of m) (λ s. s.state == 3) (λ s. s.state == 2) (moved_on 3) ss (none_alone m ss none);
}

same_by : (state : ℕ) (s : Slot) → in_state 0 (moved_on state s) ≡ in_state 0 s
same_by state s =
    elim (cases_eq s.state 2) [
      | inl two ↦ ap (in_state 0) (moved_yes state s two)
      | inr h ↦ ap (in_state 0) (moved_no state s h)
    ]

pub all_same : (state : ℕ) (ss : List Slot) → SameButStates ss (all_moved_on state ss)
all_same state [] = refl
all_same state (s ∷ ss) =
    ap (λ (x : Slot). x ∷ map (in_state 0) (all_moved_on state ss)) (same_by state s)
    ∙ ap (λ (xs : List Slot). in_state 0 s ∷ xs) (all_same state ss)

-- How far it has come.
pub record MovedOn (state k : ℕ) (now was : List Slot) : Type 0 where
  pub done : take k now ≡ all_moved_on state (take k was)
  pub rest : drop k now ≡ drop k was

moved_more : (state k : ℕ) (was : List Slot) → k < length was
    → all_moved_on state (take (k + 1) was) ≡ all_moved_on state (take k was) ++ moved_on state (slot_at was k) ∷ []
moved_more state k was below = map_more (moved_on state) was k free_slot below

pub one_moved : (state k : ℕ) (now was : List Slot) → MovedOn state k now was → k < length was → length now ≡ length was
    → (slot_at now k).state ≡ 2 → MovedOn state (k + 1) (marked state now k) was
one_moved state k now was g below long two =
    let s : Slot = slot_at now k in
    let one : in_state state s ≡ moved_on state (slot_at was k) =
    sym (moved_yes state s two) ∙ ap (moved_on state) (same_there k now was g.rest) in
    record {
      done = take_more_set now k (in_state state s) (omega (arith, below, long))
          ∙ ap (λ (xs : List Slot). xs ++ in_state state s ∷ []) g.done
          ∙ ap (λ (x : Slot). all_moved_on state (take k was) ++ x ∷ []) one ∙ sym (moved_more state k was below);
      rest = drop-set-lt (k + 1) now k (in_state state s) (omega arith) ∙ rest_more k now was g.rest;
    }

pub one_left : (state k : ℕ) (now was : List Slot) → MovedOn state k now was → k < length was → length now ≡ length was
    → (slot_at now k).state ≢ 2 → MovedOn state (k + 1) now was
one_left state k now was g below long apart =
    let s : Slot = slot_at now k in
    let one : s ≡ moved_on state (slot_at was k) = sym (moved_no state s apart) ∙ ap (moved_on state) (same_there k now was g.rest) in
    record {
      done = take_more now k free_slot (omega (arith, below, long)) ∙ ap (λ (xs : List Slot). xs ++ s ∷ []) g.done
          ∙ ap (λ (x : Slot). all_moved_on state (take k was) ++ x ∷ []) one ∙ sym (moved_more state k was below);
      rest = rest_more k now was g.rest;
    }

-- Tickets.

ticket_stays : (state : ℕ) (s : Slot) → (moved_on state s).ticket ≡ s.ticket
ticket_stays state s =
    elim (cases_eq s.state 2) [
      | inl two ↦ ap (λ (x : Slot). x.ticket) (moved_yes state s two)
      | inr h ↦ ap (λ (x : Slot). x.ticket) (moved_no state s h)
    ]

free_stays : (state : ℕ) (s : Slot) → s.state ≡ 0 → (moved_on state s).state ≡ 0
free_stays state s h = ap (λ (x : Slot). x.state) (moved_no state s (λ two. omega (arith, h, two))) ∙ h

ordered_by : (state low next : ℕ) (s : Slot) (ss : List Slot) → low ≤ s.ticket → AscendWithin (s.ticket + 1) next (tickets ss)
    → AscendWithin low next (tickets (moved_on state s ∷ ss))
ordered_by state low next s ss least up =
    let same = ticket_stays state s in
    let x : Slot = moved_on state s in
    elim (cases_eq x.state 0) [
      | inl free ↦ subst (AscendWithin low next) (sym (kept_no (λ s. s.ticket) (λ s. not (s.state == 0)) x ss (is_free x free)))
          (from_lower low (s.ticket + 1) next (tickets ss) (omega (arith, least)) up)
      | inr taken ↦ subst (AscendWithin low next) (sym (kept_yes (λ s. s.ticket) (λ s. not (s.state == 0)) x ss (is_taken x taken)))
          (omega (arith, same, least), subst (λ t. AscendWithin (t + 1) next (tickets ss)) (sym same) up)
    ]

pub all_ordered : (state low next : ℕ) (ss : List Slot) → AscendWithin low next (tickets ss)
    → AscendWithin low next (tickets (all_moved_on state ss))
all_ordered state low next [] up = up
all_ordered state low next (s ∷ ss) up =
    elim (cases_eq s.state 0) [
      | inl free ↦ subst (AscendWithin low next)
          (sym (kept_no (λ s. s.ticket) (λ s. not (s.state == 0)) (moved_on state s) (all_moved_on state ss)
          (is_free (moved_on state s) (free_stays state s free))))
          (all_ordered state low next ss
          (subst (AscendWithin low next) (kept_no (λ s. s.ticket) (λ s. not (s.state == 0)) s ss (is_free s free)) up))
      | inr taken ↦ let rest : AscendWithin low next (s.ticket ∷ tickets ss) =
          subst (AscendWithin low next) (kept_yes (λ s. s.ticket) (λ s. not (s.state == 0)) s ss (is_taken s taken)) up in
          ordered_by state low next s (all_moved_on state ss) rest.0 (all_ordered state (s.ticket + 1) next ss rest.1)
    ]
