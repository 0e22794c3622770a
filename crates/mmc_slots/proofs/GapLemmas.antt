-- Slots that move to the front.
use Rattle.std.proofs.Common.{◌++◌, ◌+◌, ◌<◌, ◌∙◌, ◌∷◌, ◌≡◌, ◌≢◌, ◌≤◌, Bool, List, [], ap, arith, cond, drop, false, inl, inr, length}
use Rattle.std.proofs.Common.{map, refl, subst, suc, sym, take, true, zero, ℕ}
use Rattle.std.specs.Prelude.{◌==◌, not, slice_set}
use Rattle.std.proofs.lemmas.Bool.{cases_eq, ne_eqb}
use Rattle.std.proofs.lemmas.List.{append-nil, drop-set-lt, get_or-set_other, get_or-set_same, length-set, length_push, map_push, set_split}
use Rattle.std.proofs.lemmas.List.{take-append-drop, take-set-le, take_all, take_more_set}
use Rattle.std.proofs.lemmas.List.Elements.{filter-append, filter_more}
use Rattle.mmc_queue.specs.declared.entry.Entry.{Entry}
use Rattle.mmc_slots.specs.Slots.{AreFreeFrom, AreOrdered, AscendWithin, Memory, entries_in, entry_of, free_slot, in_state, slot_at}
use Rattle.mmc_slots.specs.Slots.{taken, tickets}
use Rattle.mmc_slots.specs.declared.slot.Slot.{Slot}
use Rattle.mmc_slots.proofs.SlotLemmas.{is_free, is_taken, kept_after, kept_append, kept_no, rest_more, same_there}
use Rattle.mmc_slots.proofs.TicketLemmas.{with_next}

taken_append : (xs ys : List Slot) → taken (xs ++ ys) ≡ taken xs ++ taken ys
taken_append xs ys = filter-append (λ s. not (s.state == 0)) xs ys

-- Slots that are free at the end.

none_taken : (first : ℕ) (ss : List Slot) → AreFreeFrom first ss → taken (drop first ss) ≡ []
none_taken zero [] free = refl
none_taken zero (s ∷ ss) free =
    rw (is_free s (free 0 (omega arith) (omega arith)))
    (none_taken zero ss (λ k low below. free (suc k) (omega arith) (omega (arith, below))))
none_taken (suc first) [] free = refl
none_taken (suc first) (s ∷ ss) free = none_taken first ss (λ k low below. free (suc k) (omega (arith, low)) (omega (arith, below)))

taken_below : (first : ℕ) (ss : List Slot) → AreFreeFrom first ss → taken ss ≡ taken (take first ss)
taken_below first ss free =
    ap taken (sym (take-append-drop first ss)) ∙ taken_append (take first ss) (drop first ss)
    ∙ ap (λ (xs : List Slot). taken (take first ss) ++ xs) (none_taken first ss free) ∙ append-nil (taken (take first ss))

free_after : (first : ℕ) (ss : List Slot) → AreFreeFrom first ss → AreFreeFrom (suc first) ss
free_after first ss free k low below = free k (omega (arith, low)) below

-- a request in the first of them
pub placed : (ss : List Slot) (first : ℕ) (s : Slot) → AreFreeFrom first ss → first < length ss → s.state ≢ 0
    → taken (slice_set ss first s) ≡ taken ss ++ s ∷ []
placed ss first s free below used =
    let rest : taken (s ∷ drop (suc first) ss) ≡ s ∷ [] =
    rw (is_taken s used) (ap (λ (xs : List Slot). s ∷ xs) (none_taken (suc first) ss (free_after first ss free))) in
    ap taken (set_split ss first s below) ∙ taken_append (take first ss) (s ∷ drop (suc first) ss)
    ∙ ap (λ (xs : List Slot). taken (take first ss) ++ xs) rest
    ∙ ap (λ (xs : List Slot). xs ++ s ∷ []) (sym (taken_below first ss free))

few_by : (s : Slot) (ss : List Slot) (b : Bool) → length (taken ss) ≤ length ss
    → length (cond b (s ∷ taken ss) (taken ss)) ≤ suc (length ss)
few_by s ss true h = omega (arith, h)
few_by s ss false h = omega (arith, h)

few_taken : (ss : List Slot) → length (taken ss) ≤ length ss
few_taken [] = omega arith
few_taken (s ∷ ss) = few_by s ss (not (s.state == 0)) (few_taken ss)

all_by : (s : Slot) (ss : List Slot) (b : Bool) → (length (taken ss) ≡ length ss → taken ss ≡ ss)
    → length (cond b (s ∷ taken ss) (taken ss)) ≡ suc (length ss) → cond b (s ∷ taken ss) (taken ss) ≡ s ∷ ss
all_by s ss true rest h = ap (λ (xs : List Slot). s ∷ xs) (rest (omega (arith, h)))
all_by s ss false rest h = let few = few_taken ss in absurd (omega (arith, h, few))

-- all slots are taken
pub all_taken : (ss : List Slot) → length (taken ss) ≡ length ss → taken ss ≡ ss
all_taken [] h = refl
all_taken (s ∷ ss) h = all_by s ss (not (s.state == 0)) (all_taken ss) h

-- How far the closing of gaps has come: so many requests stand at the front, of as many slots as were looked at.
pub record Closed (to from : ℕ) (now was : List Slot) : Type 0 where
  pub most : to ≤ from
  pub count : to ≡ length (taken (take from was))
  pub rest : drop from now ≡ drop from was
  pub free : (j : ℕ) → to ≤ j → j < from → (slot_at now j).state ≡ 0
  pub front : take to now ≡ taken (take from was)

pub none_closed : (ss : List Slot) → Closed 0 0 ss ss
none_closed ss = record {
  most = omega arith;
  count = refl;
  rest = refl;
  free = λ j low below. absurd (omega (arith, below));
  front = refl;
}

-- a slot that is free is left
pub left_free : (to from : ℕ) (now was : List Slot) → Closed to from now was → from < length was → (slot_at now from).state ≡ 0
    → Closed to (from + 1) now was
left_free to from now was g below is =
    let most = g.most in
    let same : slot_at was from ≡ slot_at now from = sym (same_there from now was g.rest) in
    let more : taken (take (from + 1) was) ≡ taken (take from was) =
    filter_more (λ s. not (s.state == 0)) was from free_slot below
    ∙ rw (is_free (slot_at was from) (ap (λ (s : Slot). s.state) same ∙ is)) (append-nil (taken (take from was))) in
    record {
      most = omega (arith, most);
      count = g.count ∙ ap (λ (xs : List Slot). length xs) (sym more);
      rest = rest_more from now was g.rest;
      free = λ j low high. elim (cases_eq j from) [
        | inl e ↦ ap (λ k. (slot_at now k).state) e ∙ is
        | inr apart ↦ g.free j low (omega (arith, high, apart))
      ];
      front = g.front ∙ sym more;
    }

freed : (to from : ℕ) (now : List Slot) (s : Slot) (j : ℕ) → to + 1 ≤ j → j < from + 1 → from < length now
    → ((j : ℕ) → to ≤ j → j < from → (slot_at now j).state ≡ 0)
    → (slot_at (slice_set (slice_set now from (in_state 0 s)) to s) j).state ≡ 0
freed to from now s j low high within free =
    ap (λ (t : Slot). t.state)
    (get_or-set_other (slice_set now from (in_state 0 s)) to j s free_slot (λ h. omega (arith, h, low)))
    ∙ elim (cases_eq j from) [
      | inl e ↦ ap (λ k. (slot_at (slice_set now from (in_state 0 s)) k).state) e
          ∙ ap (λ (t : Slot). t.state) (get_or-set_same now from (in_state 0 s) free_slot within)
      | inr apart ↦ ap (λ (t : Slot). t.state) (get_or-set_other now from j (in_state 0 s) free_slot apart)
          ∙ free j (omega (arith, low)) (omega (arith, high, apart))
    ]

-- a request goes to the front
pub moved_up : (to from : ℕ) (now was : List Slot) → Closed to from now was → from < length was → length now ≡ length was
    → (slot_at now from).state ≢ 0
    → Closed (to + 1) (from + 1) (slice_set (slice_set now from (in_state 0 (slot_at now from))) to (slot_at now from)) was
moved_up to from now was g below long not_free =
    let most = g.most in
    let s : Slot = slot_at now from in
    let x : List Slot = slice_set now from (in_state 0 s) in
    let same : slot_at was from ≡ s = sym (same_there from now was g.rest) in
    let more : taken (take (from + 1) was) ≡ taken (take from was) ++ s ∷ [] =
    filter_more (λ s. not (s.state == 0)) was from free_slot below
    ∙ rw same (rw (is_taken s not_free) refl) in
    let n = length-set now from (in_state 0 s) in
    let within : to < length x = omega (arith, most, below, long, n) in
    let front : take (to + 1) (slice_set x to s) ≡ taken (take from was) ++ s ∷ [] =
    take_more_set x to s within ∙ ap (λ (ys : List Slot). ys ++ s ∷ []) (take-set-le to now from (in_state 0 s) most ∙ g.front) in
    let count = g.count in
    let longer = ap (λ (xs : List Slot). length xs) more ∙ length_push (taken (take from was)) s in
    record {
      most = omega (arith, most);
      count = omega (arith, count, longer);
      rest = drop-set-lt (from + 1) x to s (omega (arith, most)) ∙ drop-set-lt (from + 1) now from (in_state 0 s) (omega arith)
          ∙ rest_more from now was g.rest;
      free = λ j low high. freed to from now s j low high (omega (arith, below, long)) g.free;
      front = front ∙ sym more;
    }

taken_by : (s : Slot) (ss : List Slot) (b : Bool) → not (s.state == 0) ≡ b → taken ss ≡ ss
    → taken (cond b (s ∷ ss) ss) ≡ cond b (s ∷ ss) ss
taken_by s ss true is rest = rw is (ap (λ (ts : List Slot). s ∷ ts) rest)
taken_by s ss false is rest = rest

taken_taken : (ss : List Slot) → taken (taken ss) ≡ taken ss
taken_taken [] = refl
taken_taken (s ∷ ss) = taken_by s (taken ss) (not (s.state == 0)) refl (taken_taken ss)

pub all_closed : (to from : ℕ) (now was : List Slot) → Closed to from now was → length now ≡ length was → length was ≤ from
    → taken now ≡ taken was
all_closed to from now was g long past =
    let whole : take from was ≡ was = take_all from was past in
    let free : AreFreeFrom to now = λ k low below. g.free k low (omega (arith, below, long, past)) in
    taken_below to now free ∙ ap taken (g.front ∙ ap taken whole) ∙ taken_taken was

-- where all slots are taken nothing was moved
pub all_unchanged : (now was : List Slot) → taken now ≡ taken was → length now ≡ length was → length (taken was) ≡ length was
    → now ≡ was
all_unchanged now was same long full =
    sym (all_taken now (ap (λ (xs : List Slot). length xs) same ∙ full ∙ sym long)) ∙ same ∙ all_taken was full

-- The requests are those of the slots that are taken.

entries_by : (m : Memory) (state : ℕ) (s : Slot) (ss : List Slot) → state ≢ 0 → entries_in m state (taken ss) ≡ entries_in m state ss
    → entries_in m state (taken (s ∷ ss)) ≡ entries_in m state (s ∷ ss)
entries_by m state s ss apart rest =
    elim (cases_eq s.state 0) [
      | inl free ↦ ap (λ (b : Bool). entries_in m state (cond b (s ∷ taken ss) (taken ss))) (is_free s free) ∙ rest
          ∙ sym (kept_no (entry_of m) (λ x. x.state == state) s ss (ne_eqb s.state state (λ h. apart (sym h ∙ free))))
      | inr is ↦ ap (λ (b : Bool). entries_in m state (cond b (s ∷ taken ss) (taken ss))) (is_taken s is)
          ∙ kept_after (entry_of m) (λ x. x.state == state) s (taken ss) ss rest
    ]

entries_taken : (m : Memory) (state : ℕ) (ss : List Slot) → state ≢ 0 → entries_in m state (taken ss) ≡ entries_in m state ss
entries_taken m state [] apart = refl
entries_taken m state (s ∷ ss) apart = entries_by m state s ss apart (entries_taken m state ss apart)

-- one more
pub entries_more : (m : Memory) (state : ℕ) (now was : List Slot) (s : Slot) → state ≢ 0 → taken now ≡ taken was ++ s ∷ []
    → entries_in m state now ≡ entries_in m state was ++ entries_in m state (s ∷ [])
entries_more m state now was s apart more =
    sym (entries_taken m state now apart) ∙ ap (entries_in m state) more
    ∙ kept_append (entry_of m) (λ x. x.state == state) (taken was) (s ∷ [])
    ∙ ap (λ (es : List Entry). es ++ entries_in m state (s ∷ [])) (entries_taken m state was apart)

pub ordered_more : (next : ℕ) (now was : List Slot) (s : Slot) → s.ticket ≡ next → taken now ≡ taken was ++ s ∷ []
    → AreOrdered next was → AreOrdered (next + 1) now
ordered_more next now was s is more up =
    subst (AscendWithin 0 (next + 1))
    (sym (ap (map (λ s. s.ticket)) more ∙ map_push (λ s. s.ticket) (taken was) s ∙ ap (λ t. tickets was ++ t ∷ []) is))
    (with_next 0 next (tickets was) up)
