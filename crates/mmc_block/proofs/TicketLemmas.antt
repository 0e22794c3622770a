-- Tickets over a run: each is accepted at most once, and ends at most once.
use Rattle.std.proofs.Common.{◌+◌, ◌++◌, ◌<◌, ◌∷◌, ◌≡◌, ◌≤◌, ◌⊎◌, List, [], ap, arith, cond, inl, inr, refl, subst, sym}
use Rattle.std.proofs.Common.{ℕ}
use Rattle.std.specs.Prelude.{◌==◌}
use Rattle.std.proofs.lemmas.Bool.Decides.{nat_tests}
use Rattle.mmc_block.specs.declared.completion.Completion.{Completion}
use Rattle.mmc_switch.specs.declared.info.Info.{Info}
use Rattle.mmc_queue.specs.declared.request.Request.{Request}
use Rattle.mmc_block.specs.Machine.{Accepts, Completes, CompletesAll, GivesBack, IsAmong, IsMerged, Machine, Starts}
use Rattle.mmc_block.specs.Machine.{StartsIfIdle, Turns, Waiting}
use Rattle.mmc_block.specs.MachineLaws.{AreNew, AreOpen, EachOnce, accepted_by, answered_by, ended_by, noted}
use Rattle.mmc_block.specs.Execution.{Event, Reply, IsExecution, Steps}
use Rattle.mmc_block.specs.Execution.Event.{Cancel, Submit, Turn}
use Rattle.mmc_block.specs.Execution.Reply.{Accepted, Answers, GivenBack, InService, RefusedFor, Unknown}

-- How often a list has a ticket.

-- 1 where the two are the same
abbrev pub one : ℕ → ℕ → ℕ
one a t = cond (a == t) 1 0

pub one_same : (a : ℕ) → one a a ≡ 1
one_same a = grind (arith, nat_tests)

pub one_or_none : (a t : ℕ) → ((t ≡ a) × (one a t ≡ 1)) ⊎ (one a t ≡ 0)
one_or_none a t = grind (arith, nat_tests)

abbrev pub count : List Waiting → ℕ → ℕ
count [] t = 0
count (w ∷ ws) t = one w.ticket t + count ws t

pub count_append : (xs ys : List Waiting) (t : ℕ) → count (xs ++ ys) t ≡ count xs t + count ys t
count_append [] ys t = omega arith
count_append (x ∷ xs) ys t = let h = count_append xs ys t in omega (arith, h)

pub count_without : (before : List Waiting) (w : Waiting) (after : List Waiting) (t : ℕ)
    → count (before ++ w ∷ after) t ≡ count (before ++ after) t + one w.ticket t
count_without before w after t =
    let p = count_append before (w ∷ after) t in
    let q = count_append before after t in
    omega (arith, p, q)

pub count_with : (ws : List Waiting) (w : Waiting) (t : ℕ) → count (ws ++ w ∷ []) t ≡ count ws t + one w.ticket t
count_with ws w t = let p = count_append ws (w ∷ []) t in omega (arith, p)

pub count_merged : (zs xs ys : List Waiting) (t : ℕ) → IsMerged zs xs ys → count zs t ≡ count xs t + count ys t
count_merged [] xs ys t m = rw (m.0, m.1) refl
count_merged (z ∷ zs) xs ys t (inl m) =
    let h = count_merged zs m.0 ys t m.2 in
    let e = ap (λ ws. count ws t) m.1 in
    omega (arith, h, e)
count_merged (z ∷ zs) xs ys t (inr m) =
    let h = count_merged zs xs m.0 t m.2 in
    let e = ap (λ ws. count ws t) m.1 in
    omega (arith, h, e)

-- What is known of a machine that has each ticket so often, once these tickets were accepted and those have ended.
pub record Book (accepted ended : List ℕ) (held : ℕ → ℕ) (next : ℕ) : Type 0 where
  pub accepted_below : (t : ℕ) → IsAmong accepted t → t < next
  pub ended_below : (t : ℕ) → IsAmong ended t → t < next
  pub is_open : (t : ℕ) → 1 ≤ held t → IsAmong accepted t × (IsAmong ended t → ⊥)
  pub once : (t : ℕ) → held t ≤ 1

same_book : (accepted ended : List ℕ) (f g : ℕ → ℕ) (n m : ℕ) → ((t : ℕ) → g t ≡ f t) → m ≡ n → Book accepted ended f n
    → Book accepted ended g m
same_book accepted ended f g n m same e b = record {
  accepted_below = λ t i. (let h = b.accepted_below t i in omega (arith, h, e));
  ended_below = λ t i. (let h = b.ended_below t i in omega (arith, h, e));
  is_open = λ t l. (let s = same t in b.is_open t (omega (arith, s, l)));
  once = λ t. (let s = same t in let h = b.once t in omega (arith, s, h));
}

-- the next ticket is not there yet
none_next : (accepted ended : List ℕ) (f : ℕ → ℕ) (n : ℕ) → Book accepted ended f n → 1 ≤ f n → ⊥
none_next accepted ended f n b l = let h = b.accepted_below n (b.is_open n l).0 in omega (arith, h)

next_new : (accepted ended : List ℕ) (f : ℕ → ℕ) (n : ℕ) → Book accepted ended f n → IsAmong accepted n → ⊥
next_new accepted ended f n b i = let h = b.accepted_below n i in omega (arith, h)

opened_open : (accepted ended : List ℕ) (f g : ℕ → ℕ) (n t : ℕ) → g t ≡ f t + one n t → Book accepted ended f n
    → 1 ≤ g t
    → ((t ≡ n) ⊎ IsAmong accepted t) × (IsAmong ended t → ⊥)
opened_open accepted ended f g n t more b l =
    elim (one_or_none n t) [
      | inl is ↦ (inl is.0, (λ i. (let h = b.ended_below t i in let e = is.0 in omega (arith, h, e))))
      | inr other ↦ (let q = b.is_open t (omega (arith, more, other, l)) in (inr q.0, q.1))
    ]

opened_once : (accepted ended : List ℕ) (f g : ℕ → ℕ) (n t : ℕ) → g t ≡ f t + one n t → Book accepted ended f n
    → g t ≤ 1
opened_once accepted ended f g n t more b =
    elim (one_or_none n t) [
      | inl is ↦ (let none : 1 ≤ f t → ⊥ = λ l. none_next accepted ended f n b (subst (λ k. 1 ≤ f k) is.0 l) in
          let e = is.1 in omega (arith, more, none, e))
      | inr other ↦ (let h = b.once t in omega (arith, more, other, h))
    ]

opened_below : (accepted ended : List ℕ) (f : ℕ → ℕ) (n t : ℕ) → Book accepted ended f n → (t ≡ n) ⊎ IsAmong accepted t
    → t < n + 1
opened_below accepted ended f n t b (inl e) = omega (arith, e)
opened_below accepted ended f n t b (inr i) = let h = b.accepted_below t i in omega (arith, h)

opened : (accepted ended : List ℕ) (f g : ℕ → ℕ) (n : ℕ) → ((t : ℕ) → g t ≡ f t + one n t) → Book accepted ended f n
    → Book (n ∷ accepted) ended g (n + 1)
opened accepted ended f g n more b = record {
  accepted_below = λ t i. opened_below accepted ended f n t b i;
  ended_below = λ t i. (let h = b.ended_below t i in omega (arith, h));
  is_open = λ t l. opened_open accepted ended f g n t (more t) b l;
  once = λ t. opened_once accepted ended f g n t (more t) b;
}

was_open : (accepted ended : List ℕ) (f g : ℕ → ℕ) (n a : ℕ) → ((t : ℕ) → f t ≡ g t + one a t) → Book accepted ended f n
    → IsAmong accepted a × (IsAmong ended a → ⊥)
was_open accepted ended f g n a less b = let l = less a in let s = one_same a in b.is_open a (omega (arith, l, s))

-- it is gone, since it was there once
closed_gone : (accepted ended : List ℕ) (f g : ℕ → ℕ) (n a : ℕ) → ((t : ℕ) → f t ≡ g t + one a t)
    → Book accepted ended f n → 1 ≤ g a → ⊥
closed_gone accepted ended f g n a less b l = let h = b.once a in let e = less a in let s = one_same a in
    omega (arith, h, e, s, l)

closed_open : (accepted ended : List ℕ) (f g : ℕ → ℕ) (n a t : ℕ) → ((t : ℕ) → f t ≡ g t + one a t)
    → Book accepted ended f n → 1 ≤ g t
    → (t ≡ a) ⊎ IsAmong ended t → ⊥
closed_open accepted ended f g n a t less b l (inl e) = closed_gone accepted ended f g n a less b
    (subst (λ k. 1 ≤ g k) e l)
closed_open accepted ended f g n a t less b l (inr i) = let e = less t in (b.is_open t (omega (arith, e, l))).1 i

closed_below : (accepted ended : List ℕ) (f : ℕ → ℕ) (n a t : ℕ) → Book accepted ended f n → IsAmong accepted a
    → (t ≡ a) ⊎ IsAmong ended t → t < n
closed_below accepted ended f n a t b was (inl e) = let h = b.accepted_below a was in omega (arith, e, h)
closed_below accepted ended f n a t b was (inr i) = b.ended_below t i

closed : (accepted ended : List ℕ) (f g : ℕ → ℕ) (n a : ℕ) → ((t : ℕ) → f t ≡ g t + one a t) → Book accepted ended f n
    → Book accepted (a ∷ ended) g n
closed accepted ended f g n a less b = record {
  accepted_below = b.accepted_below;
  ended_below = λ t i. closed_below accepted ended f n a t b (was_open accepted ended f g n a less b).0 i;
  is_open = λ t l. (let e = less t in (
    (b.is_open t (omega (arith, e, l))).0,
    closed_open accepted ended f g n a t less b l,
  ));
  once = λ t. (let e = less t in let h = b.once t in omega (arith, e, h));
}

-- Steps.

abbrev pub held : Machine → ℕ → ℕ
held machine t = count machine.waits t + count machine.in_service t

abbrev pub BookOf : List ℕ → List ℕ → Machine → Type 0
BookOf accepted ended machine = Book accepted ended (held machine) machine.next

pub group_held : (old new : Machine) → Starts old new → (t : ℕ) → held new t ≡ held old t
group_held old new s t =
    let idle = ap (λ ws. count ws t) s.idle in
    let group = ap (λ ws. count ws t) s.group in
    let first = ap (λ ws. count ws t) s.first in
    let left = count_merged s.later s.others new.waits t s.left in
    omega (arith, idle, group, first, left)

start_book : (accepted ended : List ℕ) (old started : Machine) → StartsIfIdle old started → BookOf accepted ended old
    → BookOf accepted ended started
start_book accepted ended old started (inl s) b = same_book accepted ended (held old)
    (held started) old.next started.next (group_held old started s) s.next b
start_book accepted ended old started (inr same) b = subst (BookOf accepted ended) (sym same.0) b

pub answered_held : (info : Info) (old : Machine) (completion : Completion) (new : Machine)
    → Completes info old completion new
    → (t : ℕ) → held old t ≡ held new t + one completion.ticket t
answered_held info old completion new c t =
    let served = ap (λ ws. count ws t) c.served in
    let leaves = ap (λ ws. count ws t) c.leaves in
    let waits = ap (λ ws. count ws t) c.waits in
    let ticket = ap (λ a. one a t) c.ticket in
    let without = count_without c.before c.w c.after t in
    omega (arith, served, leaves, waits, ticket, without)

answered_book : (accepted ended : List ℕ) (info : Info) (old : Machine) (completion : Completion) (new : Machine)
    → Completes info old completion new
    → BookOf accepted ended old → BookOf accepted (completion.ticket ∷ ended) new
answered_book accepted ended info old completion new c b =
    same_book accepted (completion.ticket ∷ ended) (held new) (held new) old.next new.next (λ t. refl) c.next
    (closed accepted ended (held old) (held new) old.next completion.ticket (answered_held info old completion new c) b)

all_answered : (accepted ended : List ℕ) (info : Info) (old : Machine) (completions : List Completion) (new : Machine)
    → CompletesAll info old completions new
    → BookOf accepted ended old → AreOpen accepted ended (answered_by completions)
    × BookOf accepted (noted (answered_by completions) ended) new
all_answered accepted ended info old [] new same b = (tt, subst (BookOf accepted ended) (sym same) b)
all_answered accepted ended info old (c ∷ cs) new steps b =
    let was = was_open accepted ended (held old) (held steps.0) old.next c.ticket
    (answered_held info old c steps.0 steps.1) b in
    let rest = all_answered accepted (c.ticket ∷ ended) info steps.0 cs new steps.2
    (answered_book accepted ended info old c steps.0 steps.1 b) in
    ((was.0, was.1, rest.0), rest.1)

turn_book : (accepted ended : List ℕ) (info : Info) (old : Machine) (completions : List Completion) (new : Machine)
    → Turns info old completions new → BookOf accepted ended old
    → AreOpen accepted ended (answered_by completions) × BookOf accepted (noted (answered_by completions) ended) new
turn_book accepted ended info old completions new turn b =
    all_answered accepted ended info turn.started completions new turn.answers.completes
    (start_book accepted ended old turn.started turn.start b)

pub accepted_held : (old : Machine) (client : ℕ) (request : Request) (ticket : ℕ) (new : Machine)
    → Accepts old client request ticket new
    → (t : ℕ) → held new t ≡ held old t + one old.next t
accepted_held old client request ticket new a t =
    let waits = ap (λ (m : Machine). count m.waits t) a.waits in
    let served = ap (λ (m : Machine). count m.in_service t) a.waits in
    let with = count_with old.waits (record { ticket = old.next; client = client; request = request }) t in
    omega (arith, waits, served, with)

accepted_book : (accepted ended : List ℕ) (old : Machine) (client : ℕ) (request : Request) (ticket : ℕ) (new : Machine)
    → Accepts old client request ticket new
    → BookOf accepted ended old → (IsAmong accepted ticket → ⊥) × BookOf (ticket ∷ accepted) ended new
accepted_book accepted ended old client request ticket new a b =
    subst (λ t. (IsAmong accepted t → ⊥) × BookOf (t ∷ accepted) ended new) (sym a.ticket_is) (
      next_new accepted ended (held old) old.next b,
      same_book (old.next ∷ accepted) ended (held new) (held new) (old.next + 1) new.next (λ t. refl)
          (ap (λ (m : Machine). m.next) a.waits)
          (opened accepted ended (held old) (held new) old.next (accepted_held old client request ticket new a) b),
    )

pub given_held : (old : Machine) (ticket : ℕ) (request : Request) (new : Machine) → GivesBack old ticket request new
    → (t : ℕ) → held old t ≡ held new t + one ticket t
given_held old ticket request new g t =
    let waited = ap (λ ws. count ws t) g.waited in
    let waits = ap (λ (m : Machine). count m.waits t) g.leaves in
    let served = ap (λ (m : Machine). count m.in_service t) g.leaves in
    let is = ap (λ a. one a t) g.ticket_is in
    let without = count_without g.before g.w g.after t in
    omega (arith, waited, waits, served, is, without)

given_book : (accepted ended : List ℕ) (old : Machine) (ticket : ℕ) (request : Request) (new : Machine)
    → GivesBack old ticket request new
    → BookOf accepted ended old → BookOf accepted (ticket ∷ ended) new
given_book accepted ended old ticket request new g b =
    same_book accepted (ticket ∷ ended) (held new) (held new) old.next new.next (λ t. refl)
    (ap (λ (m : Machine). m.next) g.leaves)
    (closed accepted ended (held old) (held new) old.next ticket (given_held old ticket request new g) b)

-- Executions.

pub record Noted (accepted ended : List ℕ) (event : Event) (reply : Reply) (new : Machine) : Type 0 where
  pub fresh : AreNew accepted (accepted_by reply)
  pub is_open : AreOpen accepted ended (ended_by event reply)
  pub book : BookOf (noted (accepted_by reply) accepted) (noted (ended_by event reply) ended) new

nothing_noted : (accepted ended : List ℕ) (event : Event) (reply : Reply) (old new : Machine) → accepted_by reply ≡ []
    → ended_by event reply ≡ []
    → new ≡ old → BookOf accepted ended old → Noted accepted ended event reply new
nothing_noted accepted ended event reply old new none_accepted none_ended same b = record {
  fresh = rw none_accepted tt;
  is_open = rw none_ended tt;
  book = rw (none_accepted, none_ended) (subst (BookOf accepted ended) (sym same) b);
}

pub event_noted : (accepted ended : List ℕ) (info : Info) (old : Machine) (event : Event) (reply : Reply) (new : Machine)
    → BookOf accepted ended old → Steps info old event reply new → Noted accepted ended event reply new
event_noted accepted ended info old (Submit client request) (Accepted ticket) new b h =
    let q = accepted_book accepted ended old client request ticket new h.1 b in
    record { fresh = (q.0, tt); is_open = tt; book = q.1 }
event_noted accepted ended info old (Submit client request) (RefusedFor why) new b h =
    nothing_noted accepted ended (Submit client request) (RefusedFor why) old new refl refl h.1 b
event_noted accepted ended info old Turn (Answers completions) new b h =
    let q = turn_book accepted ended info old completions new h b in
    record { fresh = tt; is_open = q.0; book = q.1 }
event_noted accepted ended info old (Cancel ticket) (GivenBack request) new b h =
    let was = was_open accepted ended (held old) (held new) old.next ticket (given_held old ticket request new h) b in
    record { fresh = tt; is_open = (was.0, was.1, tt); book = given_book accepted ended old ticket request new h b }
event_noted accepted ended info old (Cancel ticket) InService new b h =
    nothing_noted accepted ended (Cancel ticket) InService old new refl refl h.1 b
event_noted accepted ended info old (Cancel ticket) Unknown new b h =
    nothing_noted accepted ended (Cancel ticket) Unknown old new refl refl h.2 b
event_noted accepted ended info old _ _ new b h = absurd h

events_once : (accepted ended : List ℕ) (info : Info) (old : Machine) (events : List Event) (replies : List Reply)
    (new : Machine)
    → BookOf accepted ended old → IsExecution info old events replies new → EachOnce accepted ended events replies
events_once accepted ended info old [] [] new b run = tt
events_once accepted ended info old (e ∷ es) (r ∷ rs) new b (mid, first, rest) =
    let n = event_noted accepted ended info old e r mid b first in (
      n.fresh,
      n.is_open,
      events_once (noted (accepted_by r) accepted)
          (noted (ended_by e r) ended) info mid es rs new n.book rest,
    )
events_once accepted ended info old _ _ new b run = absurd run

pub empty_book : (old : Machine) → old.waits ≡ [] → old.in_service ≡ [] → BookOf [] [] old
empty_book old no_waits no_serves =
    let none : (t : ℕ) → held old t ≡ 0 = λ t. rw (no_waits, no_serves) refl in
    record {
      accepted_below = λ t i. absurd i;
      ended_below = λ t i. absurd i;
      is_open = λ t l. (let z = none t in absurd (omega (arith, z, l)));
      once = λ t. (let z = none t in omega (arith, z));
    }

pub run_each_once : (info : Info) (old : Machine) (events : List Event) (replies : List Reply) (new : Machine)
    → old.waits ≡ [] → old.in_service ≡ [] → IsExecution info old events replies new → EachOnce [] [] events replies
run_each_once info old events replies new no_waits no_serves run =
    events_once [] [] info old events replies new (empty_book old no_waits no_serves) run
