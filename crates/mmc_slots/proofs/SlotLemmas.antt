-- What one slot is among all.
use Rattle.std.proofs.Common.{◌++◌, ◌+◌, ◌<◌, ◌∙◌, ◌≡◌, ◌≢◌, ◌∷◌, Bool, List, [], ap, arith, drop, false, length, map, refl, subst, suc}
use Rattle.std.proofs.Common.{sym, take, true, ℕ}
use Rattle.std.specs.Prelude.{◌==◌, filter, not, slice_set}
use Rattle.std.proofs.lemmas.Bool.{eq-eqb, ne_eqb}
use Rattle.std.proofs.lemmas.List.{drop-drop, get_or-drop, map-append, map-set, set-get_or, set_split, take_more}
use Rattle.std.proofs.lemmas.List.Elements.{filter-append}
use Rattle.mmc_queue.specs.Waiting.{Takes}
use Rattle.mmc_slots.specs.Slots.{AreOrdered, AscendWithin, Memory, SameButStates, entries_in, entry_of, free_slot, in_state, slot_at}
use Rattle.mmc_slots.specs.Slots.{tickets}
use Rattle.mmc_slots.specs.declared.slot.Slot.{Slot}
use Rattle.mmc_slots.proofs.TicketLemmas.{without_one}

-- What is kept of slots: of those that pass a test, some number or entry.

pub kept_append : {B : Type 0} (f : Slot → B) (p : Slot → Bool) (xs ys : List Slot)
    → map f (filter p (xs ++ ys)) ≡ map f (filter p xs) ++ map f (filter p ys)
kept_append f p xs ys = ap (map f) (filter-append p xs ys) ∙ map-append f (filter p xs) (filter p ys)

pub kept_yes : {B : Type 0} (f : Slot → B) (p : Slot → Bool) (x : Slot) (xs : List Slot) → p x ≡ true
    → map f (filter p (x ∷ xs)) ≡ f x ∷ map f (filter p xs)
kept_yes f p x xs h = rw h refl

pub kept_no : {B : Type 0} (f : Slot → B) (p : Slot → Bool) (x : Slot) (xs : List Slot) → p x ≡ false
    → map f (filter p (x ∷ xs)) ≡ map f (filter p xs)
kept_no f p x xs h = rw h refl

kept_put : {B : Type 0} (f : Slot → B) (p : Slot → Bool) (ss : List Slot) (k : ℕ) (x : Slot) → k < length ss
    → map f (filter p (slice_set ss k x)) ≡ map f (filter p (take k ss)) ++ map f (filter p (x ∷ drop (suc k) ss))
kept_put f p ss k x below =
    ap (λ (xs : List Slot). map f (filter p xs)) (set_split ss k x below) ∙ kept_append f p (take k ss) (x ∷ drop (suc k) ss)

-- one more of them, where the slot that is put passes
pub put_yes : {B : Type 0} (f : Slot → B) (p : Slot → Bool) (ss : List Slot) (k : ℕ) (x : Slot) → k < length ss → p x ≡ true
    → map f (filter p (slice_set ss k x)) ≡ map f (filter p (take k ss)) ++ f x ∷ map f (filter p (drop (suc k) ss))
put_yes f p ss k x below h =
    kept_put f p ss k x below ∙ ap (λ ys. map f (filter p (take k ss)) ++ ys) (kept_yes f p x (drop (suc k) ss) h)

pub put_no : {B : Type 0} (f : Slot → B) (p : Slot → Bool) (ss : List Slot) (k : ℕ) (x : Slot) → k < length ss → p x ≡ false
    → map f (filter p (slice_set ss k x)) ≡ map f (filter p (take k ss)) ++ map f (filter p (drop (suc k) ss))
put_no f p ss k x below h =
    kept_put f p ss k x below ∙ ap (λ ys. map f (filter p (take k ss)) ++ ys) (kept_no f p x (drop (suc k) ss) h)

-- the same of a slot as it stands
pub split_yes : {B : Type 0} (f : Slot → B) (p : Slot → Bool) (ss : List Slot) (k : ℕ) → k < length ss → p (slot_at ss k) ≡ true
    → map f (filter p ss) ≡ map f (filter p (take k ss)) ++ f (slot_at ss k) ∷ map f (filter p (drop (suc k) ss))
split_yes f p ss k below h =
    ap (λ (xs : List Slot). map f (filter p xs)) (sym (set-get_or ss k free_slot)) ∙ put_yes f p ss k (slot_at ss k) below h

pub split_no : {B : Type 0} (f : Slot → B) (p : Slot → Bool) (ss : List Slot) (k : ℕ) → k < length ss → p (slot_at ss k) ≡ false
    → map f (filter p ss) ≡ map f (filter p (take k ss)) ++ map f (filter p (drop (suc k) ss))
split_no f p ss k below h =
    ap (λ (xs : List Slot). map f (filter p xs)) (sym (set-get_or ss k free_slot)) ∙ put_no f p ss k (slot_at ss k) below h

pub kept_after : {B : Type 0} (f : Slot → B) (p : Slot → Bool) (x : Slot) (xs ys : List Slot)
    → map f (filter p xs) ≡ map f (filter p ys) → map f (filter p (x ∷ xs)) ≡ map f (filter p (x ∷ ys))
kept_after f p x xs ys h =
    kept_append f p (x ∷ []) xs ∙ ap (λ zs. map f (filter p (x ∷ [])) ++ zs) h ∙ sym (kept_append f p (x ∷ []) ys)

pub kept_more : {B : Type 0} (f : Slot → B) (p : Slot → Bool) (ss : List Slot) (k : ℕ) → k < length ss
    → map f (filter p (take (k + 1) ss)) ≡ map f (filter p (take k ss)) ++ map f (filter p (slot_at ss k ∷ []))
kept_more f p ss k below =
    ap (λ (xs : List Slot). map f (filter p xs)) (take_more ss k free_slot below) ∙ kept_append f p (take k ss) (slot_at ss k ∷ [])

-- Slots that are the same from one on.

pub rest_more : (k : ℕ) (xs ys : List Slot) → drop k xs ≡ drop k ys → drop (k + 1) xs ≡ drop (k + 1) ys
rest_more k xs ys h = sym (drop-drop 1 k xs) ∙ ap (drop 1) h ∙ drop-drop 1 k ys

pub same_there : (k : ℕ) (xs ys : List Slot) → drop k xs ≡ drop k ys → slot_at xs k ≡ slot_at ys k
same_there k xs ys h =
    let still : k + 0 ≡ k = omega arith in
    ap (slot_at xs) (sym still) ∙ sym (get_or-drop k xs 0 free_slot) ∙ ap (λ (zs : List Slot). slot_at zs 0) h
    ∙ get_or-drop k ys 0 free_slot ∙ ap (slot_at ys) still

-- A slot that gets another state.

abbrev pub marked : ℕ → List Slot → ℕ → List Slot
marked state ss k = slice_set ss k (in_state state (slot_at ss k))

pub same_marked : (state : ℕ) (ss : List Slot) (k : ℕ) → SameButStates ss (marked state ss k)
same_marked state ss k =
    map-set (in_state 0) ss k (in_state state (slot_at ss k)) ∙ sym (map-set (in_state 0) ss k (slot_at ss k))
    ∙ ap (map (in_state 0)) (set-get_or ss k free_slot)

-- it leaves those of the state that it had
pub one_leaves : (m : Memory) (was state : ℕ) (ss : List Slot) (k : ℕ) → k < length ss → (slot_at ss k).state ≡ was → state ≢ was
    → Takes (entries_in m was ss) (entry_of m (slot_at ss k)) (entries_in m was (marked state ss k))
one_leaves m was state ss k below is other = (
  entries_in m was (take k ss),
  entries_in m was (drop (suc k) ss),
  split_yes (entry_of m) (λ s. s.state == was) ss k below (eq-eqb (slot_at ss k).state was is),
  put_no (entry_of m) (λ s. s.state == was) ss k (in_state state (slot_at ss k)) below (ne_eqb state was other),
)

-- it comes among those of the state that it gets
pub one_comes : (m : Memory) (state : ℕ) (ss : List Slot) (k : ℕ) → k < length ss
    → entries_in m state (marked state ss k)
    ≡ entries_in m state (take k ss) ++ entry_of m (slot_at ss k) ∷ entries_in m state (drop (suc k) ss)
one_comes m state ss k below =
    put_yes (entry_of m) (λ s. s.state == state) ss k (in_state state (slot_at ss k)) below (eq-eqb state state refl)

-- which were those before it and those after it
pub before_after : (m : Memory) (state : ℕ) (ss : List Slot) (k : ℕ) → k < length ss → (slot_at ss k).state ≢ state
    → entries_in m state ss ≡ entries_in m state (take k ss) ++ entries_in m state (drop (suc k) ss)
before_after m state ss k below other =
    split_no (entry_of m) (λ s. s.state == state) ss k below (ne_eqb (slot_at ss k).state state other)

-- those of any other state stay
pub others_stay : (m : Memory) (other state : ℕ) (ss : List Slot) (k : ℕ) → k < length ss → (slot_at ss k).state ≢ other
    → state ≢ other
    → entries_in m other (marked state ss k) ≡ entries_in m other ss
others_stay m other state ss k below was apart =
    put_no (entry_of m) (λ s. s.state == other) ss k (in_state state (slot_at ss k)) below (ne_eqb state other apart)
    ∙ sym (before_after m other ss k below was)

-- Tickets.

pub is_free : (s : Slot) → s.state ≡ 0 → not (s.state == 0) ≡ false
is_free s h = ap not (eq-eqb s.state 0 h)

pub is_taken : (s : Slot) → s.state ≢ 0 → not (s.state == 0) ≡ true
is_taken s h = ap not (ne_eqb s.state 0 h)

pub tickets_of : (ss : List Slot) (k : ℕ) → k < length ss → (slot_at ss k).state ≢ 0
    → tickets ss ≡ tickets (take k ss) ++ (slot_at ss k).ticket ∷ tickets (drop (suc k) ss)
tickets_of ss k below was = split_yes (λ s. s.ticket) (λ s. not (s.state == 0)) ss k below (is_taken (slot_at ss k) was)

-- they stay, where it is taken still
pub ordered_still : (next state : ℕ) (ss : List Slot) (k : ℕ) → k < length ss → (slot_at ss k).state ≢ 0 → state ≢ 0
    → AreOrdered next ss → AreOrdered next (marked state ss k)
ordered_still next state ss k below was apart up =
    subst (AscendWithin 0 next)
    (tickets_of ss k below was
    ∙ sym (put_yes (λ s. s.ticket) (λ s. not (s.state == 0)) ss k (in_state state (slot_at ss k)) below
    (is_taken (in_state state (slot_at ss k)) apart)))
    up

-- and all others', where it is free then
pub ordered_without : (next : ℕ) (ss : List Slot) (k : ℕ) → k < length ss → (slot_at ss k).state ≢ 0
    → AreOrdered next ss → AreOrdered next (marked 0 ss k)
ordered_without next ss k below was up =
    subst (AscendWithin 0 next)
    (sym (put_no (λ s. s.ticket) (λ s. not (s.state == 0)) ss k (in_state 0 (slot_at ss k)) below refl))
    (without_one 0 next (tickets (take k ss)) (slot_at ss k).ticket (tickets (drop (suc k) ss))
    (subst (AscendWithin 0 next) (tickets_of ss k below was) up))
