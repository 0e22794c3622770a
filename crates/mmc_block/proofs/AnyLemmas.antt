-- What a turn does over any bus.
use Rattle.std.proofs.Common.{◌≤◌, ◌*◌, ◌++◌, ◌+◌, ◌<◌, ◌∙◌, ◌∷◌, ◌≡◌, ◌⊎◌, Bool, List, [], ap, append-nil, arith}
use Rattle.std.proofs.Common.{inl, inr, length, length-append, map, refl, subst, ℕ}
use Rattle.mmc_bus.specs.declared.cause.Cause.{Cause}
use Rattle.mmc_card.specs.BusView.{BusView}
use Rattle.mmc_queue.specs.Group.{IsFair}
use Rattle.mmc_queue.specs.Requests.{room_of}
use Rattle.mmc_queue.specs.declared.entry.Entry.{Entry}
use Rattle.mmc_queue.specs.declared.request.Request.{Request}
use Rattle.mmc_queue.specs.declared.request.Request.TheVariants.{Erase, Read, Trim, Write}
use Rattle.mmc_switch.specs.declared.broken.Broken.{Broken}
use Rattle.mmc_switch.specs.declared.info.Info.{Info}
use Rattle.mmc_block.specs.Any.{Answers, AreFor, Fits, IfEachFailed, IfFailed, holds_broken}
use Rattle.mmc_block.specs.Entries.{AreServable, completion_of, done_answer, waiting_of, waits_of}
use Rattle.mmc_block.specs.Groups.{AreInOrder, PassNone}
use Rattle.mmc_block.specs.Machine.{IsMerged, PassesNone, Waiting}
use Rattle.mmc_block.specs.Service.{AfterFailure, AreAll, AttemptOk, Concludes, HasStarted, IsNext}
use Rattle.mmc_block.specs.Service.{in_service_of}
use Rattle.mmc_block.specs.declared.service.Stage.TheVariants as at
use Rattle.mmc_recovery.specs.declared.settling.TheConstants.{EXCHANGES_OF_A_SETTLE}
use Rattle.mmc_transfer.specs.declared.pace.Pace.{Pace}
use Rattle.mmc_transfer.specs.declared.pace.Pace.TheVariants.{Exchange}
use Rattle.mmc_block.specs.Work.{IsCauseAfter, IsCausedBy, is_broken, most_at, most_exchanges, service_left}
use Rattle.mmc_block.specs.declared.completion.Answer.TheVariants.{Failed as FailedFor}
use Rattle.mmc_block.specs.declared.completion.Completion.{Completion}
use Rattle.mmc_block.specs.declared.service.Attempt.{Attempt}
use Rattle.mmc_switch.specs.declared.stands.Stands.{Stands}
use Rattle.mmc_switch.specs.declared.progress.Progress.{Progress}
use Rattle.mmc_switch.specs.declared.progress.Progress.TheVariants.{Done, Failed, More}
use Rattle.mmc_block.specs.Service.{Service}
use Rattle.mmc_block.specs.Service.Service.{Idle, Serving, Taken}
use Rattle.mmc_block.specs.declared.service.Stage.{Stage}
use Rattle.mmc_block.specs.declared.work.TheConstants.{TURNS_OF_A_REQUEST}
use Rattle.mmc_block.proofs.EntryLemmas.{length-waits_of, merged_waits, servable_parts}
use Rattle.mmc_block.proofs.ServiceLemmas.{all_served, first_serves, in_order-rest, merged_length, pass_first}

-- Who is answered.

fit : (r : Request) (bytes : List ℕ) → length bytes ≡ room_of r → Fits r (done_answer r bytes)
fit (Read part start count) bytes h = h
fit (Write part start count b) bytes h = tt
fit (Erase part start count) bytes h = tt
fit (Trim part start count) bytes h = tt

are_for : (info : Info) (es : List Entry) → AreServable info es → AreFor (waits_of es) (map completion_of es)
are_for info [] h = refl
are_for info (e ∷ es) h =
    (done_answer e.request e.buffer, map completion_of es, refl, fit e.request e.buffer h.0.room, are_for info es h.1)

failure_fits : (r : Request) (cause : Cause) → Fits r (FailedFor cause)
failure_fits (Read part start count) cause = tt
failure_fits (Write part start count b) cause = tt
failure_fits (Erase part start count) cause = tt
failure_fits (Trim part start count) cause = tt

-- those in service are the answered ones and those that stay
pub record Leaves (in_service : List Waiting) (cs : List Completion) (left : List Waiting) (waits : List Waiting)
    : Type 0 where
  pub answered : List Waiting
  pub served : in_service ≡ answered ++ left
  pub named : AreFor answered cs
  pub passes_none : PassNone answered waits

pub next_serves : (stands : Stands) (es : List Entry) (service : Service) → IsNext stands es service
    → in_service_of service ≡ waits_of es
next_serves stands [] service n = rw n refl
next_serves stands (e ∷ es) service n = rw n.1 (first_serves n.0 (e ∷ []) es n.2)

fails_leaves : (broken : Broken) (members others : List Entry) (service : Service) (cs : List Completion)
    (waits : List Waiting) → AreAll members others → PassNone (waits_of members ++ waits_of others) waits
    → AfterFailure broken members others service cs
    → Leaves (waits_of members ++ waits_of others) cs (in_service_of service) waits
fails_leaves broken [] others service cs waits all pass a = absurd a
fails_leaves broken (e ∷ []) others service cs waits all pass a =
    rw (next_serves (Stands.Broken broken) others service a.0, a.1) (record {
      answered = waiting_of e ∷ [];
      served = refl;
      named = (FailedFor broken.cause, [], refl, failure_fits e.request broken.cause, refl);
      passes_none = (pass.0, tt);
    })
fails_leaves broken (e ∷ f ∷ es) others service cs waits all pass a =
    rw (next_serves (Stands.Broken broken) (e ∷ f ∷ es) service a.0, a.1)
    (record { answered = []; served = all_served e f es others all; named = refl; passes_none = tt })

pub concluded_leaves : (info : Info) (o : Progress Stage) (attempt : Attempt) (service : Service) (cs : List Completion)
    (waits : List Waiting) → AttemptOk info attempt
    → PassNone (waits_of attempt.group.members.items ++ waits_of attempt.others.items) waits
    → Concludes o attempt service cs
    → Leaves (waits_of attempt.group.members.items ++ waits_of attempt.others.items) cs (in_service_of service) waits
concluded_leaves info (More stage) attempt service cs waits ok pass c =
    rw (c.0, c.1) (record { answered = []; served = refl; named = refl; passes_none = tt })
concluded_leaves info (Done session) attempt service cs waits ok pass c =
    let ms = attempt.group.members.items in
    let os = attempt.others.items in
    rw (next_serves (Stands.Ready session) os service c.0, c.1) (record {
      answered = waits_of ms;
      served = refl;
      named = are_for info ms (servable_parts info ms os ok.servable).0;
      passes_none = pass_first (waits_of ms) (waits_of os) waits pass;
    })
concluded_leaves info (Failed broken) attempt service cs waits ok pass (inl c) =
    rw (c.1, c.2) (record { answered = []; served = refl; named = refl; passes_none = tt })
concluded_leaves info (Failed broken) attempt service cs waits ok pass (inr c) =
    fails_leaves broken attempt.group.members.items attempt.others.items service cs waits ok.all pass c.1

-- a start of nothing, or of a group
start_of_waits : (old left : List Entry) (service new : Service) → HasStarted old service left new
    → ((in_service_of new ≡ in_service_of service) × (waits_of left ≡ waits_of old))
    ⊎ ((in_service_of service ≡ []) × IsMerged (waits_of old) (in_service_of new) (waits_of left))
start_of_waits old left (Idle stands) new (inl s) = inl (rw (s.0, s.1, s.2) (refl, refl))
start_of_waits old left (Idle stands) new (inr s) =
    let attempt : Attempt = s.0 in
    let members : List Entry = attempt.group.members.items in
    let fair : IsFair old members attempt.group.extent left = s.3 in
    let merged = merged_waits fair.later fair.others left fair.parts in
    let all : waits_of members ++ waits_of attempt.others.items ≡ waiting_of fair.oldest ∷ waits_of fair.others =
    rw s.2.others_are (append-nil (waits_of members)) ∙ ap waits_of fair.members_are in
    inr (refl, rw (s.1, fair.waits_are, all) (inl (waits_of fair.others, refl, merged)))
start_of_waits old left (Serving stage attempt) new s = inl (rw (s.0, s.1) (refl, refl))
start_of_waits old left Taken new s = absurd s

-- of requests by ticket none passes one after it
passes_after : (w : Waiting) (low : ℕ) (ws : List Waiting) (next : ℕ) → w.ticket < low → AreInOrder low ws next
    → PassesNone w ws
passes_after w low [] next above order = tt
passes_after w low (v ∷ vs) next above order =
    let least = order.0 in (
      λ earlier. absurd (omega (arith, above, least, earlier)),
      passes_after w (v.ticket + 1) vs next (omega (arith, above, least)) order.1,
    )

pass_after : (low : ℕ) (answered left : List Waiting) (next : ℕ) → AreInOrder low (answered ++ left) next
    → PassNone answered left
pass_after low [] left next order = tt
pass_after low (w ∷ ws) left next order = (
  passes_after w (w.ticket + 1) left next (omega arith) (in_order-rest (w.ticket + 1) ws left next order.1),
  pass_after (w.ticket + 1) ws left next order.1,
)

pub answers_of : (old left : List Entry) (service started new : Service) (cs : List Completion) (next : ℕ)
    → HasStarted old service left started → Leaves (in_service_of started) cs (in_service_of new) (waits_of left)
    → AreInOrder 0 (in_service_of started) next
    → Answers (waits_of old) (in_service_of service) cs (waits_of left) (in_service_of new)
answers_of old left service started new cs next s l order = record {
  started = in_service_of started;
  start = start_of_waits old left service started s;
  answered = l.answered;
  served = l.served;
  named = l.named;
  passes_none = l.passes_none;
  passes_none_served = pass_after 0 l.answered (in_service_of new) next
      (subst (λ ws. AreInOrder 0 ws next) l.served order);
}

pub answers_none : (old left : List Entry) (service : Service) (stands : Stands) (cs : List Completion)
    → HasStarted old service left (Idle stands) → cs ≡ []
    → Answers (waits_of old) (in_service_of service) cs (waits_of left) []
answers_none old left service stands cs s e =
    answers_of old left service (Idle stands) (Idle stands) cs 0 s
    (record { answered = []; served = refl; named = e; passes_none = tt }) (omega arith)

length_for : (ws : List Waiting) (cs : List Completion) → AreFor ws cs → length cs ≡ length ws
length_for [] cs a = rw a refl
length_for (w ∷ ws) cs a = let n = length_for ws a.1 a.4 in rw a.2 (omega (arith, n))

-- none is in service twice
pub left_length : (in_service : List Waiting) (cs : List Completion) (left waits : List Waiting)
    → Leaves in_service cs left waits → length in_service ≡ length cs + length left
left_length in_service cs left waits l =
    let n = length_for l.answered cs l.named in
    let k : length in_service ≡ length l.answered + length left =
    ap (λ (ws : List Waiting). length ws) l.served ∙ length-append l.answered left in
    omega (arith, n, k)

-- each leaves once
pub counted_answers : (waits in_service : List Waiting) (cs : List Completion) (waits' in_service' : List Waiting)
    → Answers waits in_service cs waits' in_service'
    → length waits' + length in_service' + length cs ≡ length waits + length in_service
counted_answers waits in_service cs waits' in_service' a =
    let n = length_for a.answered cs a.named in
    let k : length a.started ≡ length a.answered + length in_service' =
    ap (λ (ws : List Waiting). length ws) a.served ∙ length-append a.answered in_service' in
    elim a.start [
      | inl s ↦ (
          let p : length a.started ≡ length in_service = ap (λ (ws : List Waiting). length ws) s.0 in
          let q : length waits' ≡ length waits = ap (λ (ws : List Waiting). length ws) s.1 in
          omega (arith, n, k, p, q)
          )
      | inr s ↦ (
          let p = merged_length waits a.started waits' s.1 in
          let q : length in_service ≡ 0 = ap (λ (ws : List Waiting). length ws) s.0 in
          omega (arith, n, k, p, q)
          )
    ]

-- Where something is in service after a start, something was without an answer.

pub none_waits : (old left : List Entry) (service : Service) (stage : Stage) (attempt : Attempt)
    → HasStarted old service left (Serving stage attempt) → 0 < length attempt.group.members.items
    → length (waits_of old) + length (in_service_of service) ≡ 0 → ⊥
none_waits old left (Idle stands) stage attempt (inl s) some none = let e = s.2 in cc
none_waits old left (Idle stands) stage attempt (inr s) some none =
    let fair : IsFair old s.0.group.members.items s.0.group.extent left = s.3 in
    let n : length (waits_of old) ≡ length (waits_of (fair.oldest ∷ fair.later)) =
    ap (λ (es : List Entry). length (waits_of es)) fair.waits_are in
    omega (arith, n, none)
none_waits old left (Serving st attempt') stage attempt s some none =
    let ms = waits_of attempt.group.members.items in
    let os = waits_of attempt.others.items in
    let all : length (ms ++ os) ≡ length (in_service_of (Serving st attempt')) =
    ap (λ (v : Service). length (in_service_of v)) s.0 in
    let n = length-append ms os in
    let k = length-waits_of attempt.group.members.items in
    omega (arith, all, n, k, some, none)
none_waits old left Taken stage attempt s some none = absurd s

-- Where nothing is in service after a start, no work was left, and none is.
pub no_work : (old left : List Entry) (service : Service) (stands : Stands) → HasStarted old service left (Idle stands)
    → (TURNS_OF_A_REQUEST * length (waits_of old) + service_left service ≡ 0)
    × (TURNS_OF_A_REQUEST * length (waits_of left) + service_left (Idle stands) ≡ 0)
no_work old left (Idle last) stands (inl s) = (rw s.0 (omega arith), rw s.1 (omega arith))
no_work old left (Idle last) stands (inr s) = let e = s.1 in cc
no_work old left (Serving st attempt') stands s = let e = s.0 in cc
no_work old left Taken stands s = absurd s

-- Causes.

one_fails_not : (r : Request) (bytes : List ℕ) (P : Cause → Type 0) → IfFailed (done_answer r bytes) P
one_fails_not (Read part start count) bytes P = tt
one_fails_not (Write part start count b) bytes P = tt
one_fails_not (Erase part start count) bytes P = tt
one_fails_not (Trim part start count) bytes P = tt

answers_fail_not : (es : List Entry) (P : Cause → Type 0) → IfEachFailed (map completion_of es) P
answers_fail_not [] P = tt
answers_fail_not (e ∷ es) P = (one_fails_not e.request e.buffer P, answers_fail_not es P)

fails_cause : (broken : Broken) (members others : List Entry) (service : Service) (cs : List Completion)
    (P : Cause → Type 0) → AfterFailure broken members others service cs → P broken.cause → IfEachFailed cs P
fails_cause broken [] others service cs P a p = absurd a
fails_cause broken (e ∷ []) others service cs P a p = rw a.1 (p, tt)
fails_cause broken (e ∷ f ∷ es) others service cs P a p = rw a.1 tt

concluded_cause : (was_broken : Bool) (o : Progress Stage) (attempt : Attempt) (service : Service) (cs : List Completion)
    (view : BusView) → Concludes o attempt service cs → IsCausedBy was_broken o view
    → IfEachFailed cs (λ (cause : Cause). IsCauseAfter was_broken cause view)
concluded_cause was_broken (More stage) attempt service cs view c p = rw c.1 tt
concluded_cause was_broken (Done session) attempt service cs view c p =
    rw c.1 (answers_fail_not attempt.group.members.items (λ (cause : Cause). IsCauseAfter was_broken cause view))
concluded_cause was_broken (Failed broken) attempt service cs view (inl c) p = rw c.2 tt
concluded_cause was_broken (Failed broken) attempt service cs view (inr c) p =
    fails_cause broken attempt.group.members.items attempt.others.items service cs
    (λ (cause : Cause). IsCauseAfter was_broken cause view) c.1 p

started_broken : (old left : List Entry) (service : Service) (stage : Stage) (attempt : Attempt)
    → HasStarted old service left (Serving stage attempt) → is_broken stage ≡ holds_broken service
started_broken old left (Idle stands) stage attempt (inl s) = let e = s.2 in cc
started_broken old left (Idle stands) stage attempt (inr s) = let e = s.1 in ap holds_broken e
started_broken old left (Serving st attempt') stage attempt s = ap holds_broken s.0
started_broken old left Taken stage attempt s = absurd s

-- Exchanges.

pub started_most : (pace : Pace) (old left : List Entry) (service : Service) (stage : Stage) (attempt : Attempt)
    → HasStarted old service left (Serving stage attempt) → most_at pace stage ≡ most_exchanges pace service
started_most pace old left (Idle stands) stage attempt (inl s) = let e = s.2 in cc
started_most pace old left (Idle stands) stage attempt (inr s) = let e = s.1 in ap (most_exchanges pace) e
started_most pace old left (Serving st attempt') stage attempt s = ap (most_exchanges pace) s.0
started_most pace old left Taken stage attempt s = absurd s

-- one exchange, a select or a settle
few_at : (stage : Stage) → most_at Exchange stage ≤ EXCHANGES_OF_A_SETTLE
few_at (at.At (Stands.Broken broken)) = omega arith
few_at (at.At (Stands.Ready session)) = omega arith
few_at (at.Running run) = omega arith

pub few_exchanges : (service : Service) → most_exchanges Exchange service ≤ EXCHANGES_OF_A_SETTLE
few_exchanges (Idle stands) = few_at (at.At stands)
few_exchanges (Serving stage attempt) = few_at stage
few_exchanges Taken = omega arith

pub cause_served : (old left : List Entry) (service new : Service) (stage : Stage) (attempt after : Attempt)
    (o : Progress Stage) (cs : List Completion) (view : BusView) → HasStarted old service left (Serving stage attempt)
    → Concludes o after new cs → IsCausedBy (is_broken stage) o view
    → IfEachFailed cs (λ (cause : Cause). IsCauseAfter (holds_broken service) cause view)
cause_served old left service new stage attempt after o cs view s c p =
    subst (λ b. IfEachFailed cs (λ (cause : Cause). IsCauseAfter b cause view))
    (started_broken old left service stage attempt s) (concluded_cause (is_broken stage) o after new cs view c p)
