-- In order: what is known of a machine after these requests and these answers, whatever its sectors hold.
use Rattle.std.proofs.Common.{◌+◌, ◌++◌, ◌<◌, ◌∙◌, ◌∷◌, ◌≡◌, ◌≤◌, ◌⊎◌, List, None, Option, [], ap, arith, false, inl}
use Rattle.std.proofs.Common.{inr, refl, subst, sym, ℕ}
use Rattle.std.proofs.lemmas.Bool.{cases_eq}
use Rattle.mmc_block.specs.declared.completion.Answer.{Answer}
use Rattle.mmc_block.specs.declared.completion.Completion.{Completion}
use Rattle.mmc_switch.specs.declared.info.Info.{Info}
use Rattle.mmc_queue.specs.declared.request.Request.{Request}
use Rattle.mmc_block.specs.Machine.{Completes, GivesBack, IsAmong, Machine, PassesNone, Starts, StartsIfIdle, Waiting}
use Rattle.mmc_queue.specs.Requests.{conflicts}
use Rattle.mmc_block.proofs.OrderLemmas.{Ascending, among_back, among_counts, among_front, among_last, among_merged}
use Rattle.mmc_block.proofs.OrderLemmas.{among_within, ascending_append}
use Rattle.mmc_block.proofs.TicketLemmas.{answered_held, given_held, group_held, held, one, one_or_none, one_same}

-- it waits or is in service
abbrev pub Pends : Machine → Waiting → Type 0
Pends m w = IsAmong m.waits w ⊎ IsAmong m.in_service w

-- Of two requests the first has no answer, or doesn't conflict with the second.
abbrev pub IsPassed : Option Answer → Request → Request → Type 0
IsPassed answer late early = (answer ≡ None) ⊎ (conflicts early late ≡ false)

-- These were submitted, in order of ticket; each that waits or is in service is one of them and has no answer; none
-- that was answered has passed one that waits or is in service and conflicts.
pub record Books (ws : List Waiting) (answer : ℕ → Option Answer) (m : Machine) : Type 0 where
  pub below_next : (w : Waiting) → IsAmong ws w → w.ticket < m.next
  pub ascending : Ascending ws
  pub known : (w : Waiting) → Pends m w → IsAmong ws w
  pub once : (t : ℕ) → held m t ≤ 1
  pub none_held : (t : ℕ) → m.next ≤ t → held m t ≡ 0
  pub no_answer : (w : Waiting) → Pends m w → answer w.ticket ≡ None
  pub none_answered : (t : ℕ) → m.next ≤ t → answer t ≡ None
  pub passed : (w v : Waiting) → Pends m w → IsAmong ws v → w.ticket < v.ticket
      → IsPassed (answer v.ticket) v.request w.request

pends_counts : (m : Machine) (w : Waiting) → Pends m w → 1 ≤ held m w.ticket
pends_counts m w (inl h) = let k = among_counts m.waits w h in omega (arith, k)
pends_counts m w (inr h) = let k = among_counts m.in_service w h in omega (arith, k)

-- Fewer may wait, and others be in service.
pub fewer_books : (ws : List Waiting) (answer : ℕ → Option Answer) (old new : Machine) → new.next ≡ old.next
    → ((w : Waiting) → Pends new w → Pends old w) → ((t : ℕ) → held new t ≤ held old t)
    → Books ws answer old → Books ws answer new
fewer_books ws answer old new next pends less b = record {
  below_next = λ w h. (let l = b.below_next w h in omega (arith, l, next));
  ascending = b.ascending;
  known = λ w h. b.known w (pends w h);
  once = λ t. (let l = b.once t in let k = less t in omega (arith, l, k));
  none_held = λ t l. (let z = b.none_held t (omega (arith, l, next)) in let k = less t in omega (arith, z, k));
  no_answer = λ w h. b.no_answer w (pends w h);
  none_answered = λ t l. b.none_answered t (omega (arith, l, next));
  passed = λ w v h. b.passed w v (pends w h);
}

-- Start.

started_pends : (old new : Machine) → Starts old new → (w : Waiting) → Pends new w → Pends old w
started_pends old new s w (inl h) =
    inl (subst (λ ws. IsAmong ws w) (sym s.first) (inr (among_merged s.later s.others new.waits w s.left (inr h))))
started_pends old new s w (inr h) =
    elim (subst (λ ws. IsAmong ws w) s.group h) [
      | inl e ↦ inl (subst (λ ws. IsAmong ws w) (sym s.first) (inl e))
      | inr k ↦ inl (subst (λ ws. IsAmong ws w) (sym s.first)
          (inr (among_merged s.later s.others new.waits w s.left (inl k))))
    ]

pub start_books : (ws : List Waiting) (answer : ℕ → Option Answer) (old started : Machine) → StartsIfIdle old started
    → Books ws answer old → Books ws answer started
start_books ws answer old started (inl s) b =
    fewer_books ws answer old started s.next (started_pends old started s)
    (λ t. (let e = group_held old started s t in omega (arith, e))) b
start_books ws answer old started (inr same) b = subst (Books ws answer) (sym same.0) b

-- Cancel.

given_pends : (old : Machine) (ticket : ℕ) (request : Request) (new : Machine) → GivesBack old ticket request new
    → (w : Waiting) → Pends new w → Pends old w
given_pends old ticket request new g w (inl h) =
    inl (subst (λ ws. IsAmong ws w) (sym g.waited)
    (among_within g.before g.w g.after w (subst (λ (m : Machine). IsAmong m.waits w) g.leaves h)))
given_pends old ticket request new g w (inr h) = inr (subst (λ (m : Machine). IsAmong m.in_service w) g.leaves h)

pub given_books : (ws : List Waiting) (answer : ℕ → Option Answer) (old : Machine) (ticket : ℕ) (request : Request)
    (new : Machine)
    → GivesBack old ticket request new → Books ws answer old → Books ws answer new
given_books ws answer old ticket request new g b =
    fewer_books ws answer old new (ap (λ (m : Machine). m.next) g.leaves) (given_pends old ticket request new g)
    (λ t. (let e = given_held old ticket request new g t in omega (arith, e))) b

-- Submit.

-- it waits under the next ticket
abbrev pub queued : Machine → Waiting → Machine
queued m w = record m { waits = m.waits ++ w ∷ []; next = m.next + 1 }

queued_pends : (m : Machine) (w v : Waiting) → Pends (queued m w) v → Pends m v ⊎ (v ≡ w)
queued_pends m w v (inr h) = inl (inr h)
queued_pends m w v (inl h) =
    elim (among_last m.waits w v h) [
      | inl k ↦ inl (inl k)
      | inr e ↦ inr e
    ]

pub queued_books : (ws : List Waiting) (answer : ℕ → Option Answer) (m : Machine) (w : Waiting) → w.ticket ≡ m.next
    → ((t : ℕ) → held (queued m w) t ≡ held m t + one m.next t) → Books ws answer m
    → Books (ws ++ w ∷ []) answer (queued m w)
queued_books ws answer m w is more b = record {
  below_next = λ v h. elim (among_last ws w v h) [
    | inl k ↦ (let l = b.below_next v k in omega (arith, l))
    | inr e ↦ (let i = ap (λ (z : Waiting). z.ticket) e in omega (arith, i, is))
  ];
  ascending = ascending_append ws w b.ascending (λ v h. (let l = b.below_next v h in omega (arith, l, is)));
  known = λ v h. elim (queued_pends m w v h) [
    | inl k ↦ among_front ws (w ∷ []) v (b.known v k)
    | inr e ↦ among_back ws (w ∷ []) v (inl e)
  ];
  once = λ t. (let l = b.once t in let s = more t in elim (one_or_none m.next t) [
    | inl i ↦ (let z = b.none_held t (let e = i.0 in omega (arith, e)) in let e = i.1 in omega (arith, z, s, e))
    | inr n ↦ omega (arith, l, s, n)
  ]);
  none_held = λ t l. (let z = b.none_held t (omega (arith, l)) in let s = more t in elim (one_or_none m.next t) [
    | inl i ↦ (let e = i.0 in absurd (omega (arith, e, l)))
    | inr n ↦ omega (arith, z, s, n)
  ]);
  no_answer = λ v h. elim (queued_pends m w v h) [
    | inl k ↦ b.no_answer v k
    | inr e ↦ b.none_answered v.ticket (let i = ap (λ (z : Waiting). z.ticket) e in omega (arith, i, is))
  ];
  none_answered = λ t l. b.none_answered t (omega (arith, l));
  passed = λ v x h k l. elim (among_last ws w x k) [
    | inl old ↦ elim (queued_pends m w v h) [
      | inl p ↦ b.passed v x p old l
      | inr e ↦ (let i = ap (λ (z : Waiting). z.ticket) e in let u = b.below_next x old in
          absurd (omega (arith, i, u, is, l)))
    ]
    | inr e ↦ inl (b.none_answered x.ticket (let i = ap (λ (z : Waiting). z.ticket) e in omega (arith, i, is)))
  ];
}

-- Complete.

completed_pends : (info : Info) (old : Machine) (completion : Completion) (new : Machine)
    → Completes info old completion new
    → (w : Waiting) → Pends new w → Pends old w
completed_pends info old completion new c w (inl h) = inl (subst (λ ws. IsAmong ws w) c.waits h)
completed_pends info old completion new c w (inr h) =
    inr (subst (λ ws. IsAmong ws w) (sym c.served)
    (among_within c.before c.w c.after w (subst (λ ws. IsAmong ws w) c.leaves h)))

pub completed_pended : (info : Info) (old : Machine) (completion : Completion) (new : Machine)
    (c : Completes info old completion new) → IsAmong old.in_service c.w
completed_pended info old completion new c = subst (λ ws. IsAmong ws c.w) (sym c.served)
    (among_back c.before (c.w ∷ c.after) c.w (inl refl))

-- what is left has another ticket
left_other : (info : Info) (old : Machine) (completion : Completion) (new : Machine) → Completes info old completion new
    → ((t : ℕ) → held old t ≤ 1) → (w : Waiting) → Pends new w → w.ticket ≡ completion.ticket → ⊥
left_other info old completion new c once w h e =
    let k = pends_counts new w h in
    let a = answered_held info old completion new c w.ticket in
    let l = once w.ticket in
    let s = one_same w.ticket in
    let i : one completion.ticket w.ticket ≡ one w.ticket w.ticket = ap (λ t. one t w.ticket) (sym e) in
    omega (arith, k, a, l, s, i)

passes_one : (w : Waiting) (ws : List Waiting) (v : Waiting) → PassesNone w ws → IsAmong ws v → v.ticket < w.ticket
    → conflicts v.request w.request ≡ false
passes_one w [] v p h l = absurd h
passes_one w (x ∷ xs) v p (inl e) l = subst
    (λ (z : Waiting). z.ticket < w.ticket → conflicts z.request w.request ≡ false) (sym e) p.0 l
passes_one w (x ∷ xs) v p (inr h) l = passes_one w xs v p.1 h l

passes_pending : (info : Info) (old : Machine) (completion : Completion) (new : Machine)
    (c : Completes info old completion new)
    → (v : Waiting) → Pends old v → v.ticket < c.w.ticket → conflicts v.request c.w.request ≡ false
passes_pending info old completion new c v (inl h) l = passes_one c.w old.waits v c.passes_none_waiting h l
passes_pending info old completion new c v (inr h) l = passes_one c.w old.in_service v c.passes_none_served h l

pub completed_books : (ws : List Waiting) (answer answer_now : ℕ → Option Answer) (info : Info) (old : Machine)
    (completion : Completion) (new : Machine)
    → (c : Completes info old completion new) → ((t : ℕ) → (t ≡ completion.ticket → ⊥) → answer_now t ≡ answer t)
    → ((v : Waiting) → IsAmong ws v → v.ticket ≡ c.w.ticket → v ≡ c.w)
    → Books ws answer old → Books ws answer_now new
completed_books ws answer answer_now info old completion new c others is b =
    let pends = completed_pends info old completion new c in
    let was : Pends old c.w = inr (completed_pended info old completion new c) in
    let next = c.next in
    record {
      below_next = λ w h. (let l = b.below_next w h in omega (arith, l, next));
      ascending = b.ascending;
      known = λ w h. b.known w (pends w h);
      once = λ t. (let l = b.once t in let k = answered_held info old completion new c t in omega (arith, l, k));
      none_held = λ t l. (let z = b.none_held t (omega (arith, l, next)) in
          let k = answered_held info old completion new c t in omega (arith, z, k));
      no_answer = λ w h. others w.ticket (left_other info old completion new c b.once w h)
          ∙ b.no_answer w (pends w h);
      none_answered = λ t l. others t (λ e. (let u = b.below_next c.w (b.known c.w was) in let i = c.ticket in
          omega (arith, e, u, i, l, next)))
          ∙ b.none_answered t (omega (arith, l, next));
      passed = λ w v h k l. elim (cases_eq v.ticket completion.ticket) [
        | inl e ↦ (let same = is v k (e ∙ c.ticket) in
            inr (subst (λ (z : Waiting). conflicts w.request z.request ≡ false) (sym same)
            (passes_pending info old completion new c w (pends w h) (let i = c.ticket in omega (arith, e, i, l)))))
        | inr n ↦ subst (λ a. IsPassed a v.request w.request) (sym (others v.ticket n)) (b.passed w v (pends w h) k l)
      ];
    }
