-- What goes into service: one that is to be served alone, or a group that begins with the oldest and grows by one after the other.
use Rattle.std.proofs.Common.{◌&&◌, ◌++◌, ◌+◌, ◌<◌, ◌∙◌, ◌∷◌, ◌≡◌, ◌≢◌, Bool, List, [], ap, arith, drop, false, inl, inr, length, refl}
use Rattle.std.proofs.Common.{subst, suc, sym, take, true, ℕ}
use Rattle.std.specs.List.{AllByRecursion}
use Rattle.std.specs.Prelude.{◌==◌, if◌then◌else◌, nat_le, nat_lt, not}
use Rattle.std.proofs.lemmas.Bool.{and_parts, cases_eq, eq-eqb, le-ltb, lt-ltb, ltb-true, ne_eqb, true≢false}
use Rattle.std.proofs.lemmas.List.Elements.{All-head, All-tail}
use Rattle.mmc_queue.specs.Requests.{can_merge, count_of, end_of, start_of}
use Rattle.mmc_queue.specs.Rule.{Grows, NoneLower, NoneMay, begins, extent_of, fits, has_room, is_alike, is_beside, joins, passes_none}
use Rattle.mmc_queue.specs.Rule.{widened, with_member}
use Rattle.mmc_queue.specs.Waiting.{Ascend}
use Rattle.mmc_queue.specs.declared.entry.Entry.{Entry}
use Rattle.mmc_queue.specs.declared.extent.Extent.{Extent}
use Rattle.mmc_queue.specs.declared.request.Request.{Request}
use Rattle.mmc_slots.specs.Slots.{AreOrdered, AscendWithin, Memory, entries_in, entry_of, request_of, slot_at, tickets}
use Rattle.mmc_slots.specs.Search.{IsFirst, IsNext, NoneIn}
use Rattle.mmc_slots.specs.Started.{StartsAlone}
use Rattle.mmc_slots.specs.declared.slot.Slot.{Slot}
use Rattle.mmc_slots.proofs.SlotLemmas.{before_after, is_free, is_taken, kept_no, kept_yes, marked, one_comes, one_leaves, others_stay}
use Rattle.mmc_slots.proofs.SlotLemmas.{put_no, split_yes, tickets_of}
use Rattle.mmc_slots.proofs.TicketLemmas.{after_one, before_one, from_lower}

-- The first slot of a state.

pub none_in : (m : Memory) (state : ℕ) (ss : List Slot) → NoneIn state ss → entries_in m state ss ≡ []
none_in m state [] none = refl
none_in m state (s ∷ ss) none =
    kept_no (entry_of m) (λ x. x.state == state) s ss (ne_eqb s.state state (All-head (λ x. x.state ≢ state) s ss none))
    ∙ none_in m state ss (All-tail (λ x. x.state ≢ state) s ss none)

first_is : (m : Memory) (state : ℕ) (ss : List Slot) (k : ℕ) → IsFirst state ss k
    → entries_in m state ss ≡ entry_of m (slot_at ss k) ∷ entries_in m state (drop (suc k) ss)
first_is m state ss k first =
    split_yes (entry_of m) (λ s. s.state == state) ss k first.below (eq-eqb (slot_at ss k).state state first.is)
    ∙ ap (λ (es : List Entry). es ++ entry_of m (slot_at ss k) ∷ entries_in m state (drop (suc k) ss))
    (none_in m state (take k ss) first.none_before)

first_leaves : (m : Memory) (state : ℕ) (ss : List Slot) (k : ℕ) → IsFirst state ss k → 2 ≢ state
    → entries_in m state (marked 2 ss k) ≡ entries_in m state (drop (suc k) ss)
first_leaves m state ss k first apart =
    put_no (entry_of m) (λ s. s.state == state) ss k (record (slot_at ss k) { state = 2 }) first.below (ne_eqb 2 state apart)
    ∙ ap (λ (es : List Entry). es ++ entries_in m state (drop (suc k) ss)) (none_in m state (take k ss) first.none_before)

pub not_none : (m : Memory) (state : ℕ) (ss : List Slot) (k : ℕ) → IsFirst state ss k → entries_in m state ss ≡ [] → ⊥
not_none m state ss k first none = let e = sym (first_is m state ss k first) ∙ none in cc

-- It goes into service, where none is.

both_nil : (xs ys : List Entry) → xs ++ ys ≡ [] → (xs ≡ []) × (ys ≡ [])
both_nil [] ys h = (refl, h)
both_nil (x ∷ xs) ys h = cc

one_served : (m : Memory) (ss : List Slot) (k : ℕ) → k < length ss → (slot_at ss k).state ≢ 2 → entries_in m 2 ss ≡ []
    → entries_in m 2 (marked 2 ss k) ≡ entry_of m (slot_at ss k) ∷ []
one_served m ss k below apart none =
    let nil = both_nil (entries_in m 2 (take k ss)) (entries_in m 2 (drop (suc k) ss)) (sym (before_after m 2 ss k below apart) ∙ none) in
    one_comes m 2 ss k below ∙ rw nil.0 (ap (λ (es : List Entry). entry_of m (slot_at ss k) ∷ es) nil.1)

pub alone_starts : (m : Memory) (e : Entry) (es : List Entry) (ss : List Slot) (k : ℕ) → IsFirst 3 ss k → entries_in m 2 ss ≡ []
    → entries_in m 3 ss ≡ e ∷ es
    → StartsAlone m e es ss (marked 2 ss k) (extent_of (request_of m (slot_at ss k)))
alone_starts m e es ss k first none are =
    let is = first.is in
    let same : e ∷ es ≡ entry_of m (slot_at ss k) ∷ entries_in m 3 (drop (suc k) ss) = sym are ∙ first_is m 3 ss k first in
    let head : entry_of m (slot_at ss k) ≡ e = cc in
    let rest : entries_in m 3 (drop (suc k) ss) ≡ es = cc in
    record {
      together = one_served m ss k first.below (λ h. omega (arith, is, h)) none ∙ ap (λ (x : Entry). x ∷ []) head;
      alone = first_leaves m 3 ss k first (λ h. omega (arith, h)) ∙ rest;
      waits = others_stay m 1 2 ss k first.below (λ h. omega (arith, is, h)) (λ h. omega (arith, h));
      extent_is = ap (λ (x : Entry). extent_of x.request) head;
    }

pub group_begins : (m : Memory) (most : ℕ) (ss : List Slot) (k : ℕ) → IsFirst 1 ss k → entries_in m 2 ss ≡ []
    → Grows most (entries_in m 1 ss) (entries_in m 2 (marked 2 ss k)) (extent_of (request_of m (slot_at ss k)))
    (entries_in m 1 (marked 2 ss k))
group_begins m most ss k first none =
    let is = first.is in
    rw (one_served m ss k first.below (λ h. omega (arith, is, h)) none, first_leaves m 1 ss k first (λ h. omega (arith, h)))
    (begins (entry_of m (slot_at ss k)) (entries_in m 1 (drop (suc k) ss)) (first_is m 1 ss k first))

-- Tickets of requests.

pub entries_by : (P : ℕ → Type 0) (m : Memory) (state : ℕ) (ss : List Slot) → state ≢ 0 → AllByRecursion P (tickets ss)
    → AllByRecursion (λ (e : Entry). P e.ticket) (entries_in m state ss)
entries_by P m state [] apart all = tt
entries_by P m state (s ∷ ss) apart all =
    let Q : Entry → Type 0 = λ (e : Entry). P e.ticket in
    elim (cases_eq s.state state) [
      | inl is ↦
          let more : AllByRecursion P (s.ticket ∷ tickets ss) = subst (AllByRecursion P)
          (kept_yes (λ s. s.ticket) (λ s. not (s.state == 0)) s ss (is_taken s (λ h. apart (sym is ∙ h)))) all in
          subst (AllByRecursion Q) (sym (kept_yes (entry_of m) (λ x. x.state == state) s ss (eq-eqb s.state state is)))
          (more.0, entries_by P m state ss apart more.1)
      | inr no_one ↦ subst (AllByRecursion Q) (sym (kept_no (entry_of m) (λ x. x.state == state) s ss (ne_eqb s.state state no_one)))
          (entries_by P m state ss apart (rest_by P s ss all))
    ]
  where
    rest_by : (P : ℕ → Type 0) (s : Slot) (ss : List Slot) → AllByRecursion P (tickets (s ∷ ss)) → AllByRecursion P (tickets ss)
    rest_by P s ss all =
        elim (cases_eq s.state 0) [
          | inl free ↦ subst (AllByRecursion P) (kept_no (λ s. s.ticket) (λ s. not (s.state == 0)) s ss (is_free s free)) all
          | inr taken ↦ let more : AllByRecursion P (s.ticket ∷ tickets ss) =
              subst (AllByRecursion P) (kept_yes (λ s. s.ticket) (λ s. not (s.state == 0)) s ss (is_taken s taken)) all in
              more.1
        ]

-- those of one state ascend too
pub ascend_in : (m : Memory) (state low next : ℕ) (ss : List Slot) → state ≢ 0 → AscendWithin low next (tickets ss)
    → Ascend low (entries_in m state ss)
ascend_in m state low next [] apart up = tt
ascend_in m state low next (s ∷ ss) apart up =
    elim (cases_eq s.state 0) [
      | inl free ↦ subst (Ascend low)
          (sym (kept_no (entry_of m) (λ x. x.state == state) s ss (ne_eqb s.state state (λ h. apart (sym h ∙ free)))))
          (ascend_in m state low next ss apart
          (subst (AscendWithin low next) (kept_no (λ s. s.ticket) (λ s. not (s.state == 0)) s ss (is_free s free)) up))
      | inr taken ↦
          let more : AscendWithin low next (s.ticket ∷ tickets ss) =
          subst (AscendWithin low next) (kept_yes (λ s. s.ticket) (λ s. not (s.state == 0)) s ss (is_taken s taken)) up in
          let least = more.0 in
          elim (cases_eq s.state state) [
            | inl is ↦ subst (Ascend low) (sym (kept_yes (entry_of m) (λ x. x.state == state) s ss (eq-eqb s.state state is)))
                (least, ascend_in m state (s.ticket + 1) next ss apart more.1)
            | inr unlike ↦ subst (Ascend low) (sym (kept_no (entry_of m) (λ x. x.state == state) s ss (ne_eqb s.state state unlike)))
                (ascend_in m state low next ss apart (from_lower low (s.ticket + 1) next (tickets ss) (omega (arith, least)) more.1))
          ]
    ]

-- One more joins.

with_between : (xs ys : List Entry) (e : Entry) → AllByRecursion (λ (x : Entry). x.ticket < e.ticket) xs
    → AllByRecursion (λ (y : Entry). e.ticket < y.ticket) ys → with_member (xs ++ ys) e ≡ xs ++ e ∷ ys
with_between [] [] e below above = refl
with_between [] (y ∷ ys) e below above = rw (lt-ltb e.ticket y.ticket above.0) refl
with_between (x ∷ xs) ys e below above =
    let less = below.0 in
    rw (le-ltb e.ticket x.ticket (omega (arith, less))) (ap (λ (es : List Entry). x ∷ es) (with_between xs ys e below.1 above))

-- it comes among the members by ticket
member_joins : (m : Memory) (next : ℕ) (ss : List Slot) (k : ℕ) → AreOrdered next ss → k < length ss → (slot_at ss k).state ≡ 1
    → with_member (entries_in m 2 ss) (entry_of m (slot_at ss k)) ≡ entries_in m 2 (marked 2 ss k)
member_joins m next ss k up below is =
    let e : Entry = entry_of m (slot_at ss k) in
    let parts : AscendWithin 0 next (tickets (take k ss) ++ e.ticket ∷ tickets (drop (suc k) ss)) =
    subst (AscendWithin 0 next) (tickets_of ss k below (λ h. omega (arith, is, h))) up in
    ap (λ (es : List Entry). with_member es e) (before_after m 2 ss k below (λ h. omega (arith, is, h)))
    ∙ with_between (entries_in m 2 (take k ss)) (entries_in m 2 (drop (suc k) ss)) e
    (entries_by (λ t. t < e.ticket) m 2 (take k ss) (λ h. omega (arith, h))
    (before_one 0 next (tickets (take k ss)) e.ticket (tickets (drop (suc k) ss)) parts))
    (entries_by (λ t. e.ticket < t) m 2 (drop (suc k) ss) (λ h. omega (arith, h))
    (after_one 0 next (tickets (take k ss)) e.ticket (tickets (drop (suc k) ss)) parts))
    ∙ sym (one_comes m 2 ss k below)

lower_append : (most : ℕ) (extent : Extent) (ws : List Entry) (t : ℕ) (xs ys : List Entry) → NoneMay most extent ws xs
    → NoneLower most extent ws t ys → NoneLower most extent ws t (xs ++ ys)
lower_append most extent ws t [] ys none rest = rest
lower_append most extent ws t (x ∷ xs) ys none rest =
    ((λ may. absurd (true≢false (sym may ∙ none.0))), lower_append most extent ws t xs ys none.1 rest)

lower_above : (most : ℕ) (extent : Extent) (ws : List Entry) (t : ℕ) (xs : List Entry)
    → AllByRecursion (λ (x : Entry). t < x.ticket) xs → NoneLower most extent ws t xs
lower_above most extent ws t [] above = tt
lower_above most extent ws t (x ∷ xs) above =
    let less = above.0 in ((λ may. omega (arith, less)), lower_above most extent ws t xs above.1)

-- it is the one with the lowest ticket of those that may
is_lowest : (m : Memory) (most next : ℕ) (extent : Extent) (ss : List Slot) (k : ℕ) → AreOrdered next ss → IsNext m most extent ss k
    → NoneLower most extent (entries_in m 1 ss) (slot_at ss k).ticket (entries_in m 1 ss)
is_lowest m most next extent ss k up n =
    let e : Entry = entry_of m (slot_at ss k) in
    let is = n.is in
    let parts : AscendWithin 0 next (tickets (take k ss) ++ e.ticket ∷ tickets (drop (suc k) ss)) =
    subst (AscendWithin 0 next) (tickets_of ss k n.below (λ h. omega (arith, is, h))) up in
    subst (NoneLower most extent (entries_in m 1 ss) e.ticket)
    (sym (split_yes (entry_of m) (λ s. s.state == 1) ss k n.below (eq-eqb (slot_at ss k).state 1 is)))
    (lower_append most extent (entries_in m 1 ss) e.ticket (entries_in m 1 (take k ss)) (e ∷ entries_in m 1 (drop (suc k) ss))
    n.none_before (
      (λ may. omega arith),
      lower_above most extent (entries_in m 1 ss) e.ticket (entries_in m 1 (drop (suc k) ss))
          (entries_by (λ t. e.ticket < t) m 1 (drop (suc k) ss) (λ h. omega (arith, h))
          (after_one 0 next (tickets (take k ss)) e.ticket (tickets (drop (suc k) ss)) parts)),
    ))

pub one_joins : (m : Memory) (most next : ℕ) (waits : List Entry) (extent : Extent) (ss : List Slot) (k : ℕ) → AreOrdered next ss
    → IsNext m most extent ss k → Grows most waits (entries_in m 2 ss) extent (entries_in m 1 ss)
    → Grows most waits (entries_in m 2 (marked 2 ss k)) (widened extent (request_of m (slot_at ss k))) (entries_in m 1 (marked 2 ss k))
one_joins m most next waits extent ss k up n g =
    let e : Entry = entry_of m (slot_at ss k) in
    rw (← member_joins m next ss k up n.below n.is)
    (joins (entries_in m 2 ss) extent (entries_in m 1 ss) e (entries_in m 1 (marked 2 ss k)) g
    (record {
      may = n.may;
      lowest = is_lowest m most next extent ss k up n;
      leaves = one_leaves m 1 2 ss k n.below n.is (λ h. omega (arith, h));
    }))

-- How many they are.

pub few_members : (m : Memory) (most : ℕ) (extent : Extent) (ss : List Slot) (k : ℕ) → IsNext m most extent ss k → extent.members < 16
few_members m most extent ss k n =
    let e : Entry = entry_of m (slot_at ss k) in
    let r : Request = e.request in
    let fitting = (and_parts (fits most extent r) (passes_none e (entries_in m 1 ss)) n.may).0 in
    let limits = (and_parts (is_alike extent r && can_merge extent.kind) (is_beside extent r && has_room most extent r) fitting).1 in
    let room = (and_parts (is_beside extent r) (has_room most extent r) limits).1 in
    ltb-true extent.members 16
    (and_parts (nat_lt extent.members 16) (nat_le (extent.end + count_of r) (extent.start + most)) room).0

widened_by : (extent : Extent) (r : Request) (b : Bool)
    → (if b then record extent { end = end_of r; members = extent.members + 1 }
    else record extent { start = start_of r; members = extent.members + 1 }).members
    ≡ extent.members + 1
widened_by extent r true = refl
widened_by extent r false = refl

pub one_more : (extent : Extent) (r : Request) → (widened extent r).members ≡ extent.members + 1
one_more extent r = widened_by extent r (start_of r == extent.end)
