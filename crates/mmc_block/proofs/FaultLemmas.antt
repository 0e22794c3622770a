-- Own faults over a run: those of the requests without an answer, and four for each failure, are faults that fell.
use Rattle.std.proofs.Common.{◌*◌, ◌++◌, ◌+◌, ◌∙◌, ◌∷◌, ◌≡◌, ◌≤◌, ◌||◌, Bool, List, [], ap, arith, cond, false, inl}
use Rattle.std.proofs.Common.{inr, refl, suc, true, zero, ℕ}
use Rattle.std.proofs.lemmas.Bool.Decides.{nat_tests}
use Rattle.std.specs.Prelude.{◌==◌, None, Option, Some, if◌then◌else◌}
use Rattle.mmc_queue.specs.declared.request.Request.{Request}
use Rattle.mmc_switch.specs.declared.info.Info.{Info}
use Rattle.mmc_block.specs.Answers.{any_failed, failures, is_failed}
use Rattle.mmc_block.specs.InOrder.{answers, answers_in}
use Rattle.mmc_block.specs.Machine.{Accepts, CompletesAll, GivesBack, IsMerged, Machine}
use Rattle.mmc_block.specs.Machine.{StartsIfIdle, Waiting}
use Rattle.mmc_block.specs.MachineLaws.{accepted_by, ended_by, noted}
use Rattle.mmc_block.specs.Execution.{AllHaveFour, AreCounted, Counted, IsCountedExecution, CountedSteps, CountedTurn, Event}
use Rattle.mmc_block.specs.Execution.{HasFour, Reply, own_after}
use Rattle.mmc_block.specs.Execution.Event.{Cancel, Submit, Turn}
use Rattle.mmc_block.specs.Execution.Reply.{Accepted, Answers, GivenBack, InService, RefusedFor, Unknown}
use Rattle.mmc_block.specs.declared.completion.Answer.{Answer}
use Rattle.mmc_block.specs.declared.completion.Answer.TheVariants.{Data, Done, Failed}
use Rattle.mmc_block.specs.declared.completion.Completion.{Completion}
use Rattle.mmc_block.proofs.ExecutionLemmas.{counted_step}
use Rattle.mmc_block.proofs.TicketLemmas.{BookOf, count, empty_book, event_noted, group_held, held}

-- Numbers of tickets, added up.

-- of these
abbrev pub total : (ℕ → ℕ) → List Waiting → ℕ
total own [] = 0
total own (w ∷ ws) = own w.ticket + total own ws

-- of those that wait, and those in service
abbrev pub open_total : (ℕ → ℕ) → Machine → ℕ
open_total own machine = total own machine.waits + total own machine.in_service

total_append : (own : ℕ → ℕ) (xs ys : List Waiting) → total own (xs ++ ys) ≡ total own xs + total own ys
total_append own [] ys = omega arith
total_append own (x ∷ xs) ys = let h = total_append own xs ys in omega (arith, h)

total_without : (own : ℕ → ℕ) (before : List Waiting) (w : Waiting) (after : List Waiting)
    → total own (before ++ w ∷ after) ≡ total own (before ++ after) + own w.ticket
total_without own before w after =
    let p = total_append own before (w ∷ after) in
    let q = total_append own before after in
    omega (arith, p, q)

total_merged : (own : ℕ → ℕ) (zs xs ys : List Waiting) → IsMerged zs xs ys → total own zs ≡ total own xs + total own ys
total_merged own [] xs ys m = rw (m.0, m.1) refl
total_merged own (z ∷ zs) xs ys (inl m) =
    let h = total_merged own zs m.0 ys m.2 in
    let e = ap (total own) m.1 in
    omega (arith, h, e)
total_merged own (z ∷ zs) xs ys (inr m) =
    let h = total_merged own zs xs m.0 m.2 in
    let e = ap (total own) m.1 in
    omega (arith, h, e)

total_less : (new old : ℕ → ℕ) (ws : List Waiting) → ((t : ℕ) → new t ≤ old t) → total new ws ≤ total old ws
total_less new old [] less = omega arith
total_less new old (w ∷ ws) less =
    let here = less w.ticket in
    let rest = total_less new old ws less in
    omega (arith, here, rest)

open_less : (new old : ℕ → ℕ) (machine : Machine) → ((t : ℕ) → new t ≤ old t)
    → open_total new machine ≤ open_total old machine
open_less new old machine less =
    let waits = total_less new old machine.waits less in
    let served = total_less new old machine.in_service less in
    omega (arith, waits, served)

-- A turn.

start_total : (own : ℕ → ℕ) (old started : Machine) → StartsIfIdle old started
    → open_total own started ≡ open_total own old
start_total own old started (inl s) =
    let idle = ap (total own) s.idle in
    let group = ap (total own) s.group in
    let first = ap (total own) s.first in
    let left = total_merged own s.later s.others started.waits s.left in
    omega (arith, idle, group, first, left)
start_total own old started (inr same) = ap (open_total own) same.0

start_held : (old started : Machine) (t : ℕ) → StartsIfIdle old started → held started t ≡ held old t
start_held old started t (inl s) = group_held old started s t
start_held old started t (inr same) = ap (λ (m : Machine). held m t) same.0

more_by : (b : Bool) (fell k o n olds news : ℕ) → n ≡ (if b then o + fell else o) → news ≡ olds + k * fell
    → n + news ≡ o + olds + (cond b 1 0 + k) * fell
more_by true fell k o n olds news is all = omega (arith, is, all)
more_by false fell k o n olds news is all = omega (arith, is, all)

-- so many more for one ticket
total_more : (fell whose : ℕ) (new old : ℕ → ℕ) (ws : List Waiting)
    → ((t : ℕ) → new t ≡ own_after fell (Some whose) old t) → total new ws ≡ total old ws + count ws whose * fell
total_more fell whose new old [] more = omega arith
total_more fell whose new old (w ∷ ws) more =
    let rest = total_more fell whose new old ws more in
    let here = more w.ticket in
    more_by (w.ticket == whose) fell (count ws whose) (old w.ticket) (new w.ticket) (total old ws) (total new ws) here
    rest

once_by : (a b fell : ℕ) → a + b ≤ 1 → a * fell + b * fell ≤ fell
once_by zero zero fell once = omega arith
once_by zero (suc zero) fell once = omega arith
once_by (suc zero) zero fell once = omega arith
once_by zero (suc (suc b)) fell once = absurd (omega (arith, once))
once_by (suc zero) (suc b) fell once = absurd (omega (arith, once))
once_by (suc (suc a)) b fell once = absurd (omega (arith, once))

open_more : (fell : ℕ) (whose : Option ℕ) (new old : ℕ → ℕ) (m : Machine) → ((t : ℕ) → held m t ≤ 1)
    → ((t : ℕ) → new t ≡ own_after fell whose old t) → open_total new m ≤ open_total old m + fell
open_more fell None new old m once more =
    let less = open_less new old m (λ t. (let e = more t in omega (arith, e))) in
    omega (arith, less)
open_more fell (Some whose) new old m once more =
    let waits = total_more fell whose new old m.waits more in
    let served = total_more fell whose new old m.in_service more in
    let all = once_by (count m.waits whose) (count m.in_service whose) fell (once whose) in
    omega (arith, waits, served, all)

-- a failure has four of its own
four_by : (answer : Answer) (own : ℕ) → HasFour own answer → 4 * (if is_failed answer then 1 else 0) ≤ own
four_by Done own h = omega arith
four_by (Data bytes) own h = omega arith
four_by (Failed cause) own h = omega (arith, h)

completes_four : (info : Info) (own : ℕ → ℕ) (old : Machine) (cs : List Completion) (new : Machine)
    → CompletesAll info old cs new → AllHaveFour own cs → open_total own new + 4 * failures cs ≤ open_total own old
completes_four info own old [] new same four = let e = ap (open_total own) same in omega (arith, e)
completes_four info own old (c ∷ cs) new (mid, step, later) four =
    let served = ap (total own) step.served in
    let leaves = ap (total own) step.leaves in
    let waits = ap (total own) step.waits in
    let ticket = ap own step.ticket in
    let without = total_without own step.before step.w step.after in
    let here = four_by c.answer (own c.ticket) four.0 in
    let rest = completes_four info own mid cs new later four.1 in
    omega (arith, served, leaves, waits, ticket, without, here, rest)

-- Events: what the requests without an answer have of their own grows by no more than the faults that fall.
abbrev pub Grows : Counted → ℕ → Counted → Type 0
Grows old failed new =
    open_total new.own_faults new.machine + 4 * failed + old.faults ≤ open_total old.own_faults old.machine + new.faults

turn_grows : (info : Info) (old : Counted) (cs : List Completion) (new : Counted) → ((t : ℕ) → held old.machine t ≤ 1)
    → old.in_profile ≡ true → CountedTurn info old cs new → Grows old (failures cs) new
turn_grows info old cs new once profile t =
    let start = start_total old.own_faults old.machine t.started t.start in
    let more = open_more t.fell t.whose new.own_faults old.own_faults t.started
    (λ a. (let k = once a in let e = start_held old.machine t.started a t.start in omega (arith, k, e))) t.counts in
    let four = completes_four info new.own_faults t.started cs new.machine t.answers.completes (t.four profile) in
    let faults = t.faults in
    omega (arith, start, more, four, faults)

fewer : (b : Bool) (old new : ℕ) → new ≡ (if b then 0 else old) → new ≤ old
fewer true old new is = omega (arith, is)
fewer false old new is = omega (arith, is)

same_ticket : (t : ℕ) → (t == t) ≡ true
same_ticket t = grind (arith, nat_tests)

accept_grows : (old : Counted) (client : ℕ) (request : Request) (ticket : ℕ) (new : Counted)
    → Accepts old.machine client request ticket new.machine
    → AreCounted (Submit client request) (Accepted ticket) old new → Grows old 0 new
accept_grows old client request ticket new a counted =
    let w : Waiting = record { ticket = old.machine.next; client = client; request = request } in
    let waits = ap (λ (m : Machine). total new.own_faults m.waits) a.waits in
    let served = ap (λ (m : Machine). total new.own_faults m.in_service) a.waits in
    let append = total_append new.own_faults old.machine.waits (w ∷ []) in
    let less = open_less new.own_faults old.own_faults old.machine
    (λ t. fewer (t == ticket) (old.own_faults t) (new.own_faults t) (counted.1 t)) in
    let none : new.own_faults ticket ≡ 0 =
    counted.1 ticket ∙ ap (λ b. if b then 0 else old.own_faults ticket) (same_ticket ticket) in
    let is = ap new.own_faults a.ticket_is in
    let faults = counted.0 in
    omega (arith, waits, served, append, less, none, is, faults)

give_back_grows : (old : Counted) (ticket : ℕ) (request : Request) (new : Counted)
    → GivesBack old.machine ticket request new.machine
    → AreCounted (Cancel ticket) (GivenBack request) old new → Grows old 0 new
give_back_grows old ticket request new g counted =
    let waited = ap (total old.own_faults) g.waited in
    let waits = ap (λ (m : Machine). total old.own_faults m.waits) g.leaves in
    let served = ap (λ (m : Machine). total old.own_faults m.in_service) g.leaves in
    let without = total_without old.own_faults g.before g.w g.after in
    let less = open_less new.own_faults old.own_faults new.machine (λ t. (let e = counted.1 t in omega (arith, e))) in
    let faults = counted.0 in
    omega (arith, waited, waits, served, without, less, faults)

stays_grows : (old new : Counted) → new.machine ≡ old.machine → new.faults ≡ old.faults
    → ((t : ℕ) → new.own_faults t ≡ old.own_faults t) → Grows old 0 new
stays_grows old new same faults own =
    let is = ap (open_total old.own_faults) same in
    let less = open_less new.own_faults old.own_faults new.machine (λ t. (let e = own t in omega (arith, e))) in
    omega (arith, is, less, faults)

event_grows : (info : Info) (old : Counted) (event : Event) (reply : Reply) (new : Counted)
    → ((t : ℕ) → held old.machine t ≤ 1) → old.in_profile ≡ true → CountedSteps info old event reply new
    → Grows old (failures (answers_in reply)) new
event_grows info old (Submit client request) (Accepted ticket) new once profile h =
    accept_grows old client request ticket new h.0.1 h.1
event_grows info old (Submit client request) (RefusedFor why) new once profile h =
    stays_grows old new h.0.1 h.1.0 h.1.1
event_grows info old Turn (Answers completions) new once profile h =
    turn_grows info old completions new once profile h.0
event_grows info old (Cancel ticket) (GivenBack request) new once profile h =
    give_back_grows old ticket request new h.0 h.1
event_grows info old (Cancel ticket) InService new once profile h = stays_grows old new h.0.1 h.1.0 h.1.1
event_grows info old (Cancel ticket) Unknown new once profile h = stays_grows old new h.0.2 h.1.0 h.1.1
event_grows info old _ _ new once profile h = absurd h.0

-- Executions.

failures_append : (cs ds : List Completion) → failures (cs ++ ds) ≡ failures cs + failures ds
failures_append [] ds = omega arith
failures_append (c ∷ cs) ds = let h = failures_append cs ds in omega (arith, h)

run_grows : (accepted ended : List ℕ) (info : Info) (old : Counted) (events : List Event) (replies : List Reply)
    (new : Counted)
    → BookOf accepted ended old.machine → old.in_profile ≡ true → IsCountedExecution info old events replies new
    → Grows old (failures (answers replies)) new
run_grows accepted ended info old [] [] new book profile same =
    let totals = ap (λ (c : Counted). open_total c.own_faults c.machine) same in
    let faults = ap (λ (c : Counted). c.faults) same in
    omega (arith, totals, faults)
run_grows accepted ended info old (e ∷ es) (r ∷ rs) new book profile (mid, first, later) =
    let here = event_grows info old e r mid book.once profile first in
    let n = event_noted accepted ended info old.machine e r mid.machine book (counted_step info old e r mid first) in
    let rest = run_grows (noted (accepted_by r) accepted) (noted (ended_by e r) ended) info mid es rs new n.book
    (first.2 ∙ profile) later in
    let both = failures_append (answers_in r) (answers rs) in
    omega (arith, here, rest, both)
run_grows accepted ended info old _ _ new book profile run = absurd run

pub failures_take_faults : (info : Info) (old : Counted) (events : List Event) (replies : List Reply) (new : Counted)
    → old.in_profile ≡ true → old.machine.waits ≡ [] → old.machine.in_service ≡ []
    → IsCountedExecution info old events replies new → old.faults + 4 * failures (answers replies) ≤ new.faults
failures_take_faults info old events replies new profile no_waits no_serves run =
    let grows = run_grows [] [] info old events replies new (empty_book old.machine no_waits no_serves) profile run in
    let waits = ap (total old.own_faults) no_waits in
    let served = ap (total old.own_faults) no_serves in
    omega (arith, grows, waits, served)

failures_by : (b : Bool) (any : Bool) (n : ℕ) → (b || any) ≡ true → (any ≡ true → 1 ≤ n) → 1 ≤ (if b then 1 else 0) + n
failures_by true any n some rest = omega arith
failures_by false any n some rest = let k = rest some in omega (arith, k)

some_failures : (cs : List Completion) → any_failed cs ≡ true → 1 ≤ failures cs
some_failures [] some = absurd cc
some_failures (c ∷ cs) some = failures_by (is_failed c.answer) (any_failed cs) (failures cs) some (some_failures cs)

pub failure_takes_faults : (info : Info) (old : Counted) (events : List Event) (replies : List Reply) (new : Counted)
    → old.in_profile ≡ true → old.machine.waits ≡ [] → old.machine.in_service ≡ []
    → IsCountedExecution info old events replies new → any_failed (answers replies) ≡ true → old.faults + 4 ≤ new.faults
failure_takes_faults info old events replies new profile no_waits no_serves run some =
    let all = failures_take_faults info old events replies new profile no_waits no_serves run in
    let one = some_failures (answers replies) some in
    omega (arith, all, one)
