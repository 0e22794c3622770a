-- A script that is served, one call of the device after the other.
use Rattle.std.proofs.Common.{◌≡◌, ◌<◌, ◌+◌, ◌∙◌, ℕ, List, [], ◌∷◌, ◌++◌, Option, Result, Ok, Err, Bool, true, false, cond}
use Rattle.std.proofs.Common.{sym, refl, ap, subst, append_assoc, append-nil, arith, length, length-append}
use Rattle.std.specs.Prelude.{◌||◌, ◌-◌, ◌==◌, IfOk, IsErr}
use Rattle.std.proofs.lemmas.Bool.{false≢true, ne_eqb}
use Rattle.std.specs.Io.KnownBytes.{Appends}
use Rattle.text_out.specs.Writing.{AppendsFront, Writes}
use Rattle.text_out.proofs.WritingLemmas.{appends_none, appends_more, front_after}
use Rattle.mmc_bus.proofs.WorkLemmas.{stays_same, stays_then}
use Rattle.mmc_card.specs.BusView.{BusView}
use Rattle.mmc_block.specs.declared.completion.Completion.{Completion}
use Rattle.mmc_switch.specs.declared.info.Info.{Info}
use Rattle.mmc_block.specs.declared.refused.Refused.{Refused}
use Rattle.mmc_queue.specs.declared.request.Request.{Request}
use Rattle.mmc_block.specs.Device.{Comes, DeviceView, Queues, Withdraws, unanswered_of}
use Rattle.mmc_block.specs.Machine.{Waiting}
use Rattle.mmc_block.specs.Execution.{Counted, CountedSteps, Event as MachineEvent, Follow, IsCountedExecution, Reply, cancelled_reply}
use Rattle.mmc_block.specs.Execution.Event.{Cancel as MachineCancel, Submit as MachineSubmit, Turn as MachineTurn}
use Rattle.mmc_block.specs.Execution.Reply.{Accepted, Answers, GivenBack, InService, RefusedFor, Unknown}
use Rattle.mmc_block.specs.declared.cancel.CancelFault.{CancelFault}
use Rattle.mmc_block.specs.declared.cancel.CancelFault.TheVariants as fault
use Rattle.mmc_block.proofs.ExecutionLemmas.{follow_then}
use Rattle.card_text.specs.declared.event.ScriptEvent.{ScriptEvent}
use Rattle.card_text.specs.declared.event.ScriptEvent.TheVariants.{Submit, Cancel, Turn, Run}
use Rattle.card_text.specs.Output.{cancelled_text, queued_text, refused_text, uncancelled_text}
use Rattle.cardtool.specs.Serving.{IsNext, ServesEvents, ServesPrefix, ServesScript, ServesUpTo, Standing, TurnsAndPrints}
use Rattle.cardtool.specs.Serving.{answer_if_printed, any_bad, due_events, events_after, is_bad, machine_event}
use Rattle.cardtool.specs.Serving.{pending_after, print_result, standing_of, text_of, texts}

-- Where a script stands.

-- a `run` isn't over where a request has no answer
due_run : (pending : ℕ) (script : List ScriptEvent) → 0 < pending → due_events pending (Run ∷ script) ≡ Run ∷ script
due_run pending script some =
    ap (λ b. cond b (due_events pending script) (Run ∷ script)) (ne_eqb pending 0 (λ none. omega (arith, some, none)))

run_over : (pending : ℕ) → pending ≡ 0 → standing_of pending [] ≡ standing_of pending (Run ∷ [])
run_over pending none = subst (λ k. standing_of k [] ≡ standing_of k (Run ∷ [])) (sym none) refl

again_so : (b : Bool) (pending : ℕ) (script more : List ScriptEvent) → (pending == 0) ≡ b
    → due_events pending (due_events pending script ++ more) ≡ due_events pending (script ++ more)
    → due_events pending (cond b (due_events pending script) (Run ∷ script) ++ more)
    ≡ cond b (due_events pending (script ++ more)) (Run ∷ (script ++ more))
again_so true pending script more is again = again
again_so false pending script more is again =
    ap (λ b. cond b (due_events pending (script ++ more)) (Run ∷ (script ++ more))) is

due_again : (pending : ℕ) (script more : List ScriptEvent)
    → due_events pending (due_events pending script ++ more) ≡ due_events pending (script ++ more)
due_again pending [] more = refl
due_again pending (Submit c r ∷ script) more = refl
due_again pending (Cancel t ∷ script) more = refl
due_again pending (Turn ∷ script) more = refl
due_again pending (Run ∷ script) more = again_so (pending == 0) pending script more refl (due_again pending script more)

more_so : (b : Bool) (pending : ℕ) (script : List ScriptEvent) (next : ScriptEvent) (later more : List ScriptEvent)
    → (due_events pending script ≡ next ∷ later → due_events pending (script ++ more) ≡ next ∷ (later ++ more))
    → cond b (due_events pending script) (Run ∷ script) ≡ next ∷ later
    → cond b (due_events pending (script ++ more)) (Run ∷ (script ++ more)) ≡ next ∷ (later ++ more)
more_so true pending script next later more so h = so h
more_so false pending script next later more so h = ap (λ l. l ++ more) h

due_more : (pending : ℕ) (script : List ScriptEvent) (next : ScriptEvent) (later more : List ScriptEvent)
    → due_events pending script ≡ next ∷ later
    → due_events pending (script ++ more) ≡ next ∷ (later ++ more)
due_more pending [] next later more h = absurd cc
due_more pending (Submit c r ∷ script) next later more h = ap (λ l. l ++ more) h
due_more pending (Cancel t ∷ script) next later more h = ap (λ l. l ++ more) h
due_more pending (Turn ∷ script) next later more h = ap (λ l. l ++ more) h
due_more pending (Run ∷ script) next later more h =
    more_so (pending == 0) pending script next later more (due_more pending script next later more) h

after_more : (next : ScriptEvent) (later more : List ScriptEvent)
    → events_after next later ++ more ≡ events_after next (later ++ more)
after_more (Submit c r) later more = refl
after_more (Cancel t) later more = refl
after_more Turn later more = refl
after_more Run later more = refl

-- with more to come after it
abbrev with_more : List ScriptEvent → Standing → Standing
with_more more s = standing_of s.pending (s.left ++ more)

with_more_stands : (pending : ℕ) (script more : List ScriptEvent)
    → with_more more (standing_of pending script) ≡ standing_of pending (script ++ more)
with_more_stands pending script more =
    ap (λ (l : List ScriptEvent). let s : Standing = record { pending = pending; left = l } in s)
    (due_again pending script more)

-- what is to come changes nothing
script_goes_on : (pending : ℕ) (script : List ScriptEvent) (es : List MachineEvent) (rs : List Reply) (then : ℕ)
    (left more : List ScriptEvent)
    → Follow IsNext (standing_of pending script) es rs (standing_of then left)
    → Follow IsNext (standing_of pending (script ++ more)) es rs (standing_of then (left ++ more))
script_goes_on pending script [] [] then left more h =
    sym (with_more_stands then left more) ∙ ap (with_more more) h ∙ with_more_stands pending script more
script_goes_on pending script (e ∷ es) (r ∷ rs) then left more (mid, step, h) =
    let now = pending_after pending r in
    let rest = events_after step.next step.later in (
      standing_of now (rest ++ more),
      record {
        next = step.next;
        later = step.later ++ more;
        first = due_more pending script step.next step.later more step.first;
        event_is = step.event_is;
        new_is = ap (standing_of now) (after_more step.next step.later more);
      },
      script_goes_on now rest es rs then left more
          (subst (λ s. Follow IsNext s es rs (standing_of then left)) step.new_is h),
    )
script_goes_on pending script _ _ then left more h = absurd h

-- Joining.

texts_then : {S : Type 0} (Does : S → MachineEvent → Reply → S → Type 0) (old : S) (es : List MachineEvent)
    (rs : List Reply) (new : S) (fs : List MachineEvent) (ss : List Reply)
    → Follow Does old es rs new → texts (es ++ fs) (rs ++ ss) ≡ texts es rs ++ texts fs ss
unfolding texts
texts_then Does old [] [] new fs ss h = refl
texts_then Does old (e ∷ es) (r ∷ rs) new fs ss (mid, step, h) =
    ap (λ t. text_of e r ++ t) (texts_then Does mid es rs new fs ss h)
    ∙ sym (append_assoc (text_of e r) (texts es rs) (texts fs ss))
texts_then Does old _ _ new fs ss h = absurd h

or_more : (a b c : Bool) → (a || (b || c)) ≡ ((a || b) || c)
or_more true b c = refl
or_more false b c = refl

or_swap : (a b : Bool) → (a || b) ≡ (b || a)
or_swap true true = refl
or_swap true false = refl
or_swap false true = refl
or_swap false false = refl

bad_then : (rs ss : List Reply) → any_bad (rs ++ ss) ≡ (any_bad rs || any_bad ss)
unfolding any_bad
bad_then [] ss = refl
bad_then (r ∷ rs) ss = ap (λ b. is_bad r || b) (bad_then rs ss) ∙ or_more (is_bad r) (any_bad rs) (any_bad ss)

-- machines with own faults, from one device to the next
comes_then : {B : Type 0} (view : B → BusView) (i : Info) (start mid now : DeviceView B)
    (es : List MachineEvent) (rs : List Reply) (us : List MachineEvent) (vs : List Reply)
    → Comes view start (λ (c n : Counted). IsCountedExecution i c es rs n) mid
    → Comes view mid (λ (c n : Counted). IsCountedExecution i c us vs n) now
    → Comes view start (λ (c n : Counted). IsCountedExecution i c (es ++ us) (rs ++ vs) n) now
comes_then view i start mid now es rs us vs first second = λ c agrees.
    let f = first c agrees in
    let (k, run, agrees_between) = f.1 in
    let s = second k agrees_between in
    let (n, more, agrees_then) = s.1 in (
      stays_then (view start.bus) (view mid.bus) (view now.bus) f.0 s.0,
      (n, follow_then (CountedSteps i) c es rs k us vs n run more, agrees_then),
    )

served_then : {B : Type 0} (view : B → BusView) (start mid now : DeviceView B) (script fs left rest : List ScriptEvent)
    (es : List MachineEvent) (rs : List Reply) (us : List MachineEvent) (vs : List Reply) → mid.info ≡ start.info
    → ServesEvents view start mid script (fs ++ left) es rs → ServesEvents view mid now fs rest us vs
    → ServesEvents view start now script (rest ++ left) (es ++ us) (rs ++ vs)
served_then view start mid now script fs left rest es rs us vs same first second = record {
  of_script = follow_then IsNext (standing_of (unanswered_of start) script) es rs
      (standing_of (unanswered_of mid) (fs ++ left)) us vs
      (standing_of (unanswered_of now) (rest ++ left)) first.of_script
      (script_goes_on (unanswered_of mid) fs us vs (unanswered_of now) rest left second.of_script);
  executed = comes_then view start.info start mid now es rs us vs first.executed
      (subst (λ i. Comes view mid (λ (c n : Counted). IsCountedExecution i c us vs n) now) same second.executed);
}

pub serves_none : {B : Type 0} (view : B → BusView) (d : DeviceView B) (script : List ScriptEvent)
    (old : Option (List ℕ))
    → ServesUpTo view d d script script old old false
unfolding texts any_bad
serves_none view d script old = record {
  events = [];
  replies = [];
  execution = record { of_script = refl; executed = λ c agrees. (stays_same (view d.bus) (view d.bus).lines, (c, refl, agrees)) };
  printed = appends_none old;
  bad_is = refl;
}

-- more of a script, served after the rest
pub serves_then : {B : Type 0} (view : B → BusView) (start mid now : DeviceView B)
    (script fs left rest : List ScriptEvent)
    (old between new : Option (List ℕ)) (x y : Bool) → mid.info ≡ start.info
    → ServesUpTo view start mid script (fs ++ left) old between x → ServesUpTo view mid now fs rest between new y
    → ServesUpTo view start now script (rest ++ left) old new (y || x)
serves_then view start mid now script fs left rest old between new x y same f s =
    let text_is = texts_then IsNext (standing_of (unanswered_of start) script) f.events f.replies
    (standing_of (unanswered_of mid) (fs ++ left)) s.events s.replies f.execution.of_script in
    record {
      events = f.events ++ s.events;
      replies = f.replies ++ s.replies;
      execution = served_then view start mid now script fs left rest f.events f.replies s.events s.replies same f.execution s.execution;
      printed = subst (Appends old new) (sym text_is)
          (appends_more old between new (texts f.events f.replies) (texts s.events s.replies) f.printed s.printed);
      bad_is = or_swap y x ∙ ap (λ b. b || y) f.bad_is ∙ ap (λ b. any_bad f.replies || b) s.bad_is
          ∙ sym (bad_then f.replies s.replies);
    }

-- a write fault in a script, of which a prefix was served before
pub breaks_then : {B : Type 0} (view : B → BusView) (start mid now : DeviceView B) (script fs left : List ScriptEvent)
    (old between new : Option (List ℕ)) (x : Bool) → mid.info ≡ start.info
    → ServesUpTo view start mid script (fs ++ left) old between x → ServesPrefix view mid now fs between new
    → ServesPrefix view start now script old new
breaks_then view start mid now script fs left old between new x same f s =
    let text_is = texts_then IsNext (standing_of (unanswered_of start) script) f.events f.replies
    (standing_of (unanswered_of mid) (fs ++ left)) s.events s.replies f.execution.of_script in
    record {
      events = f.events ++ s.events;
      replies = f.replies ++ s.replies;
      left = s.left ++ left;
      execution = served_then view start mid now script fs left s.left f.events f.replies s.events s.replies same f.execution s.execution;
      printed = subst (AppendsFront old new) (sym text_is)
          (front_after old between new (texts f.events f.replies) (texts s.events s.replies) f.printed s.printed);
    }

-- a write fault, whichever it is
pub serves_broken : {B E : Type 0} (view : B → BusView) (start now : DeviceView B) (script : List ScriptEvent)
    (old new : Option (List ℕ)) (r : Result Bool E)
    → IsErr r → ServesPrefix view start now script old new → ServesScript view start now script old new r
serves_broken view start now script old new (Ok y) failed h = absurd (false≢true failed)
serves_broken view start now script old new (Err e) failed h = h

-- One event.

-- an event of a script is due and a step of the machine, and leaves so many without an answer
record IsStepOfScript {B : Type 0} (view : B → BusView) (old : DeviceView B) (e : ScriptEvent) (r : Reply)
    (new : DeviceView B) : Type 0 where
  steps : Comes view old (λ (c n : Counted). CountedSteps old.info c (machine_event e) r n) new
  is_due : due_events (unanswered_of old) (e ∷ []) ≡ e ∷ []
  count : unanswered_of new ≡ pending_after (unanswered_of old) r

executed_one : {B : Type 0} (view : B → BusView) (old new : DeviceView B) (e : ScriptEvent) (r : Reply)
    → IsStepOfScript view old e r new
    → ServesEvents view old new (e ∷ []) (events_after e []) (machine_event e ∷ []) (r ∷ [])
executed_one view old new e r h = record {
  of_script = (
    standing_of (unanswered_of new) (events_after e []),
    record {
      next = e;
      later = [];
      first = h.is_due;
      event_is = refl;
      new_is = ap (λ k. standing_of k (events_after e [])) h.count;
    },
    refl,
  );
  executed = λ c agrees.
      let s = h.steps c agrees in let (n, step, agrees_then) = s.1 in (s.0, (n, (n, step, refl), agrees_then));
}

serves_one : {B : Type 0} (view : B → BusView) (start now : DeviceView B) (e : ScriptEvent) (r : Reply)
    (old new : Option (List ℕ)) → IsStepOfScript view start e r now
    → Appends old new (text_of (machine_event e) r)
    → ServesUpTo view start now (e ∷ []) (events_after e []) old new (is_bad r)
unfolding texts any_bad
serves_one view start now e r old new step wrote = record {
  events = machine_event e ∷ [];
  replies = r ∷ [];
  execution = executed_one view start now e r step;
  printed = subst (Appends old new) (sym (append-nil (text_of (machine_event e) r))) wrote;
  bad_is = or_swap false (is_bad r);
}

breaks_one : {B : Type 0} (view : B → BusView) (start now : DeviceView B) (e : ScriptEvent) (r : Reply)
    (old new : Option (List ℕ)) → IsStepOfScript view start e r now
    → AppendsFront old new (text_of (machine_event e) r) → ServesPrefix view start now (e ∷ []) old new
unfolding texts
breaks_one view start now e r old new step wrote = record {
  events = machine_event e ∷ [];
  replies = r ∷ [];
  left = events_after e [];
  execution = executed_one view start now e r step;
  printed = subst (AppendsFront old new) (sym (append-nil (text_of (machine_event e) r))) wrote;
}

one_event : {B E : Type 0} (view : B → BusView) (start now : DeviceView B) (e : ScriptEvent) (r : Reply)
    (old new : Option (List ℕ)) (printed : Result Unit E) → IsStepOfScript view start e r now
    → events_after e [] ≡ [] → Writes old new printed (text_of (machine_event e) r)
    → ServesScript view start now (e ∷ []) old new (answer_if_printed (is_bad r) printed)
one_event view start now e r old new (Ok x) step none wrote =
    subst (λ l. ServesUpTo view start now (e ∷ []) l old new (is_bad r)) none
    (serves_one view start now e r old new step wrote)
one_event view start now e r old new (Err d) step none wrote = breaks_one view start now e r old new step wrote

-- Turns.

-- lines that were printed, or were not, beside what is answered
pub printed_as : {E : Type 0} (bad : Bool) (r : Result Unit E) (old new : Option (List ℕ)) (text : List ℕ)
    → Writes old new r text → Writes old new (print_result (answer_if_printed bad r)) text
printed_as bad (Ok x) old new text wrote = wrote
printed_as bad (Err e) old new text wrote = wrote

pub answered_as : {E : Type 0} (bad : Bool) (r : Result Unit E) → IfOk (answer_if_printed bad r) (λ b. b ≡ bad)
answered_as bad (Ok x) = refl
answered_as bad (Err e) = tt

-- a turn without an answer prints nothing
pub turned_in_silence : {B E : Type 0} (view : B → BusView) (start now : DeviceView B) (cs : List Completion)
    (out : Option (List ℕ)) → Comes view start (λ (c n : Counted). CountedSteps start.info c MachineTurn (Answers cs) n) now
    → unanswered_of now + length cs ≡ unanswered_of start → length cs ≡ 0
    → TurnsAndPrints {B = B} {E = E} view start now out out (Ok false)
turned_in_silence view start now [] out turns leaves none =
    record { completions = []; turns = turns; leaves = leaves; printed = appends_none out; bad_is = refl }
turned_in_silence view start now (c ∷ cs) out turns leaves none = absurd (omega (arith, none))

-- a single turn of the script
turn_is_step : {B E : Type 0} (view : B → BusView) (start now : DeviceView B) (old new : Option (List ℕ))
    (r : Result Bool E) (t : TurnsAndPrints view start now old new r)
    → IsStepOfScript view start Turn (Answers t.completions) now
turn_is_step view start now old new r t =
    record { steps = t.turns; is_due = refl; count = omega (arith, t.leaves) }

pub one_turn : {B E : Type 0} (view : B → BusView) (start now : DeviceView B) (old new : Option (List ℕ))
    (r : Result Bool E) → TurnsAndPrints view start now old new r → ServesScript view start now (Turn ∷ []) old new r
unfolding text_of is_bad
one_turn view start now old new (Ok bad) t =
    subst (λ b. ServesUpTo view start now (Turn ∷ []) [] old new b) (sym t.bad_is)
    (serves_one view start now Turn (Answers t.completions) old new
    (turn_is_step view start now old new (Ok bad) t) t.printed)
one_turn view start now old new (Err e) t =
    breaks_one view start now Turn (Answers t.completions) old new
    (turn_is_step view start now old new (Err e) t) t.printed

-- a turn of a `run` that isn't over
run_is_step : {B E : Type 0} (view : B → BusView) (start now : DeviceView B) (old new : Option (List ℕ))
    (r : Result Bool E) → 0 < unanswered_of start → (t : TurnsAndPrints view start now old new r)
    → IsStepOfScript view start Run (Answers t.completions) now
run_is_step view start now old new r some t =
    record { steps = t.turns; is_due = due_run (unanswered_of start) [] some; count = omega (arith, t.leaves) }

pub run_turn : {B E : Type 0} (view : B → BusView) (start now : DeviceView B) (old new : Option (List ℕ))
    (bad : Bool) → 0 < unanswered_of start → TurnsAndPrints {B = B} {E = E} view start now old new (Ok bad)
    → ServesUpTo view start now (Run ∷ []) (Run ∷ []) old new bad
unfolding text_of is_bad
run_turn view start now old new bad some t =
    subst (λ b. ServesUpTo view start now (Run ∷ []) (Run ∷ []) old new b) (sym t.bad_is)
    (serves_one view start now Run (Answers t.completions) old new
    (run_is_step view start now old new (Ok bad) some t) t.printed)

pub run_turn_broken : {B E : Type 0} (view : B → BusView) (start now : DeviceView B) (old new : Option (List ℕ))
    (e : E) → 0 < unanswered_of start → TurnsAndPrints view start now old new (Err e)
    → ServesPrefix view start now (Run ∷ []) old new
unfolding text_of
run_turn_broken view start now old new e some t =
    breaks_one view start now Run (Answers t.completions) old new
    (run_is_step view start now old new (Err e) some t) t.printed

-- a `run` is over where no request is without an answer
pub run_idle : {B : Type 0} (view : B → BusView) (d : DeviceView B) (old : Option (List ℕ)) → unanswered_of d ≡ 0
    → ServesUpTo view d d (Run ∷ []) [] old old false
unfolding texts any_bad
run_idle view d old none = record {
  events = [];
  replies = [];
  execution = record { of_script = run_over (unanswered_of d) none; executed = λ c agrees. (stays_same (view d.bus) (view d.bus).lines, (c, refl, agrees)) };
  printed = appends_none old;
  bad_is = refl;
}

-- Submissions.

queued_count : {B : Type 0} (old : DeviceView B) (client ticket : ℕ) (q : Request) (new : DeviceView B)
    → Queues old client q ticket new → unanswered_of new ≡ unanswered_of old + 1
queued_count old client ticket q new queues =
    let w : Waiting = record { ticket = old.next; client = client; request = q } in
    let all : length (old.waits ++ w ∷ []) ≡ length old.waits + 1 = length-append old.waits (w ∷ []) in
    ap unanswered_of queues.waits ∙ omega (arith, all)

pub queued : {B E : Type 0} (view : B → BusView) (start now : DeviceView B) (client ticket : ℕ) (request : Request)
    (old new : Option (List ℕ)) (r : Result Unit E) → Queues start client request ticket now
    → Comes view start
    (λ (c n : Counted). CountedSteps start.info c (MachineSubmit client request) (Accepted ticket) n) now
    → Writes old new r (queued_text ticket client)
    → ServesScript view start now (Submit client request ∷ []) old new (answer_if_printed false r)
unfolding text_of is_bad
queued view start now client ticket request old new r queues steps wrote =
    one_event view start now (Submit client request) (Accepted ticket) old new r
    (record { steps = steps; is_due = refl; count = queued_count start client ticket request now queues })
    refl wrote

pub refused : {B E : Type 0} (view : B → BusView) (start now : DeviceView B) (client : ℕ) (request : Request)
    (why : Refused) (old new : Option (List ℕ)) (r : Result Unit E) → now ≡ start
    → Comes view start
    (λ (c n : Counted). CountedSteps start.info c (MachineSubmit client request) (RefusedFor why) n) now
    → Writes old new r (refused_text client why)
    → ServesScript view start now (Submit client request ∷ []) old new (answer_if_printed true r)
unfolding text_of is_bad
refused view start now client request why old new r same steps wrote =
    one_event view start now (Submit client request) (RefusedFor why) old new r
    (record { steps = steps; is_due = refl; count = ap unanswered_of same })
    refl wrote

-- Cancellations.

withdrawn_count : {B : Type 0} (old : DeviceView B) (ticket : ℕ) (q : Request) (new : DeviceView B)
    → Withdraws old ticket q new → unanswered_of new ≡ unanswered_of old - 1
withdrawn_count old ticket q new gone =
    let was : length old.waits ≡ length gone.before + length (gone.w ∷ gone.after) =
    ap length gone.waited ∙ length-append gone.before (gone.w ∷ gone.after) in
    let is : length (gone.before ++ gone.after) ≡ length gone.before + length gone.after =
    length-append gone.before gone.after in
    ap unanswered_of gone.waits ∙ omega (arith, was, is)

pub cancelled : {B E : Type 0} (view : B → BusView) (start now : DeviceView B) (ticket : ℕ) (request : Request)
    (old new : Option (List ℕ)) (r : Result Unit E) → Withdraws start ticket request now
    → Comes view start
    (λ (c n : Counted). CountedSteps start.info c (MachineCancel ticket) (GivenBack request) n) now
    → Writes old new r (cancelled_text ticket)
    → ServesScript view start now (Cancel ticket ∷ []) old new (answer_if_printed false r)
unfolding text_of is_bad
cancelled view start now ticket request old new r gone steps wrote =
    one_event view start now (Cancel ticket) (GivenBack request) old new r
    (record { steps = steps; is_due = refl; count = withdrawn_count start ticket request now gone })
    refl wrote

pub uncancelled : {B E : Type 0} (view : B → BusView) (start now : DeviceView B) (ticket : ℕ) (why : CancelFault)
    (old new : Option (List ℕ)) (r : Result Unit E) → now ≡ start
    → Comes view start
    (λ (c n : Counted). CountedSteps start.info c (MachineCancel ticket) (cancelled_reply (Err why)) n) now
    → Writes old new r (uncancelled_text ticket why)
    → ServesScript view start now (Cancel ticket ∷ []) old new (answer_if_printed true r)
unfolding text_of is_bad
uncancelled view start now ticket fault.InService old new r same steps wrote =
    one_event view start now (Cancel ticket) InService old new r
    (record { steps = steps; is_due = refl; count = ap unanswered_of same })
    refl wrote
uncancelled view start now ticket fault.Unknown old new r same steps wrote =
    one_event view start now (Cancel ticket) Unknown old new r
    (record { steps = steps; is_due = refl; count = ap unanswered_of same })
    refl wrote
