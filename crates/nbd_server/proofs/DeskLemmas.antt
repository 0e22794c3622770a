-- Acts at a desk, one after the other.
use Rattle.std.proofs.Common.{[], inl, inr, ap, append-nil, append_assoc, arith, length, length-append, refl, subst, sym, ◌+◌, ◌++◌, ◌∙◌, ◌∷◌, ◌≡◌, ◌⊎◌}
use Rattle.std.proofs.Common.{Err, List, None, Ok, Option, Result, Some, true, ℕ}
use Rattle.std.proofs.lemmas.List.{get_or_push}
use Rattle.std.specs.Prelude.{IsErr, OnOk}
use Rattle.nbd_messages.specs.Replies.{reply_header}
use Rattle.std.proofs.lemmas.Bool.{false≢true}
use Rattle.std.specs.Io.KnownBytes.{Appends}
use Rattle.text_out.specs.Writing.{Writes}
use Rattle.text_out.proofs.WritingLemmas.{appends_none, writes_after}
use Rattle.mmc_bus.proofs.WorkLemmas.{stays_same, stays_then}
use Rattle.mmc_card.specs.BusView.{BusView}
use Rattle.mmc_block.proofs.ExecutionLemmas.{follow_then}
use Rattle.mmc_block.specs.Any.{Answers as AnswersTo}
use Rattle.mmc_block.specs.Device.{Comes, DeviceView, Queues, unanswered_of}
use Rattle.mmc_block.specs.Execution.{Counted, CountedSteps, Event, IsCountedExecution, Reply}
use Rattle.mmc_block.specs.Execution.Event.{Submit, Turn}
use Rattle.mmc_block.specs.Execution.Reply.{Accepted, Answers, RefusedFor}
use Rattle.mmc_block.specs.Machine.{IsMerged, Waiting}
use Rattle.mmc_block.specs.Service.{in_service_of}
use Rattle.mmc_block.specs.Turn.{IsTurn}
use Rattle.mmc_transfer.specs.declared.pace.Pace.{Pace}
use Rattle.mmc_block.specs.declared.completion.Completion.{Completion}
use Rattle.mmc_block.specs.declared.refused.Refused.{Refused}
use Rattle.mmc_queue.specs.declared.request.Request.{Request}
use Rattle.mmc_switch.specs.declared.info.Info.{Info}
use Rattle.nbd_messages.specs.declared.error.ReplyError.{ReplyError}
use Rattle.std.proofs.lemmas.List.Elements.{All-append, All-cons, All-head, All-nil, All-push, All-tail}
use Rattle.nbd_server.specs.Acts.{Act, AreOfParts, AreTurns, IsOfParts, IsOfTurns, answered, asked, bytes_of, cookie_under, cookies_after, cookies_with, cookies_of}
use Rattle.nbd_server.specs.Acts.{answered_by, answers_bytes, asked_by, bytes_by, error_of, event_by, events_of, replies_of, reply_by}
use Rattle.nbd_server.specs.Acts.{reply_to, times}
use Rattle.nbd_server.specs.Acts.Act.{Asks, AsksPart, Clears, Gathers, Gives, Says, Turns}
use Rattle.nbd_server.specs.Desk.{AnswersEach, AreNumbered, DeskView, Does, Leads, pending}
use Rattle.nbd_server.proofs.TimesLemmas.{load, load_answered, load_merged, load_more, load_then, no_times, numbered_after}
use Rattle.nbd_server.proofs.TimesLemmas.{numbered_front, numbered_merged, numbered_more, numbered_then, times_then}

-- More acts.

cookies_then : (k : List ℕ) (xs ys : List Act) → cookies_after k (xs ++ ys) ≡ cookies_after (cookies_after k xs) ys
unfolding cookies_after
cookies_then k [] ys = refl
cookies_then k (x ∷ xs) ys = cookies_then (cookies_with k x) xs ys

events_then : (k : List ℕ) (xs ys : List Act)
    → events_of k (xs ++ ys) ≡ events_of k xs ++ events_of (cookies_after k xs) ys
unfolding cookies_after events_of
events_then k [] ys = refl
events_then k (x ∷ xs) ys =
    ap (λ es. event_by k x ++ es) (events_then (cookies_with k x) xs ys)
    ∙ sym (append_assoc (event_by k x) _ _)

replies_then : (xs ys : List Act) → replies_of (xs ++ ys) ≡ replies_of xs ++ replies_of ys
unfolding replies_of
replies_then [] ys = refl
replies_then (x ∷ xs) ys = ap (λ rs. reply_by x ++ rs) (replies_then xs ys) ∙ sym (append_assoc (reply_by x) _ _)

bytes_then : (k : List ℕ) (xs ys : List Act)
    → bytes_of k (xs ++ ys) ≡ bytes_of k xs ++ bytes_of (cookies_after k xs) ys
unfolding cookies_after bytes_of
bytes_then k [] ys = refl
bytes_then k (x ∷ xs) ys =
    ap (λ bs. bytes_by k x ++ bs) (bytes_then (cookies_with k x) xs ys) ∙ sym (append_assoc (bytes_by k x) _ _)

answered_then : (k : List ℕ) (xs ys : List Act)
    → answered k (xs ++ ys) ≡ answered k xs ++ answered (cookies_after k xs) ys
unfolding cookies_after answered
answered_then k [] ys = refl
answered_then k (x ∷ xs) ys =
    ap (λ cs. answered_by k x ++ cs) (answered_then (cookies_with k x) xs ys)
    ∙ sym (append_assoc (answered_by k x) _ _)

pub asked_then : (xs ys : List Act) → asked (xs ++ ys) ≡ asked xs ++ asked ys
unfolding asked
asked_then [] ys = refl
asked_then (x ∷ xs) ys = ap (λ cs. asked_by x ++ cs) (asked_then xs ys) ∙ sym (append_assoc (asked_by x) _ _)

comes_then : {B : Type 0} (view : B → BusView) (i : Info) (start mid now : DeviceView B)
    (es : List Event) (rs : List Reply) (us : List Event) (vs : List Reply)
    → Comes view start (λ (c n : Counted). IsCountedExecution i c es rs n) mid
    → Comes view mid (λ (c n : Counted). IsCountedExecution i c us vs n) now
    → Comes view start (λ (c n : Counted). IsCountedExecution i c (es ++ us) (rs ++ vs) n) now
comes_then view i start mid now es rs us vs first second = λ c agrees.
    let f = first c agrees in
    let (k, run, agrees_between) = f.1 in
    let s = second k agrees_between in
    let (n, more, agrees_then) = s.1 in (
      stays_then (view start.bus) (view mid.bus) (view now.bus) f.0 s.0,
      (n, follow_then (CountedSteps i) c es rs k us vs n run more, agrees_then),
    )

pub leads_none : {B : Type 0} (view : B → BusView) (d : DeskView B) → Leads view d [] d
unfolding cookies_after events_of replies_of
leads_none view d = record {
  cookies = refl;
  info = refl;
  kept = λ h. h;
  executed = λ kept c agrees. (stays_same (view d.device.bus) (view d.device.bus).lines, (c, refl, agrees));
}

once_none : {B : Type 0} (d : DeskView B) → AnswersEach d [] d
unfolding answered asked times
once_none d x = refl

once_then : {B : Type 0} (a b c : DeskView B) (xs ys : List Act) → b.cookies ≡ cookies_after a.cookies xs
    → AnswersEach a xs b → AnswersEach b ys c → AnswersEach a (xs ++ ys) c
once_then a b c xs ys same first second x =
    let f = first x in
    let s = second x in
    let rest : times x (answered b.cookies ys) ≡ times x (answered (cookies_after a.cookies xs) ys) =
    ap (λ k. times x (answered k ys)) same in
    let all = ap (times x) (answered_then a.cookies xs ys) ∙ times_then x (answered a.cookies xs) _ in
    let taken = ap (times x) (asked_then xs ys) ∙ times_then x (asked xs) (asked ys) in
    omega (arith, f, s, rest, all, taken)

pub leads_then : {B : Type 0} (view : B → BusView) (a b c : DeskView B) (xs ys : List Act)
    → Leads view a xs b → Leads view b ys c → Leads view a (xs ++ ys) c
leads_then view a b c xs ys first second = record {
  cookies = second.cookies ∙ ap (λ k. cookies_after k ys) first.cookies ∙ sym (cookies_then a.cookies xs ys);
  info = second.info ∙ first.info;
  kept = λ h. first.kept (second.kept h);
  executed = λ kept.
      let before = first.executed (second.kept kept) in
      let rest = subst (λ i. Comes view b.device (λ (n m : Counted). IsCountedExecution i n (events_of b.cookies ys) (replies_of ys) m) c.device)
      first.info (second.executed kept) in
      let same = subst (λ k. Comes view b.device (λ (n m : Counted). IsCountedExecution a.device.info n (events_of k ys) (replies_of ys) m) c.device)
      first.cookies rest in
      rw (events_then a.cookies xs ys, replies_then xs ys)
      (comes_then view a.device.info a.device b.device c.device (events_of a.cookies xs) (replies_of xs)
      (events_of (cookies_after a.cookies xs) ys) (replies_of ys) before same);
}

-- acts whose bytes went out, and then others
pub does_then : {B E : Type 0} (view : B → BusView) (a b c : DeskView B) (before between after : Option (List ℕ))
    (done : Unit {0}) (r : Result (Unit {0}) E) (xs ys : List Act)
    → Does {B = B} {E = E} view a b before between (Ok done) xs → Does view b c between after r ys
    → Does view a c before after r (xs ++ ys)
does_then view a b c before between after done r xs ys first second =
    let rest = subst (λ k. Writes between after r (bytes_of k ys)) first.leads.cookies second.written in
    record {
      leads = leads_then view a b c xs ys first.leads second.leads;
      once = once_then a b c xs ys first.leads.cookies first.once second.once;
      written = subst (Writes before after r) (sym (bytes_then a.cookies xs ys))
          (writes_after before between after r (bytes_of a.cookies xs) _ first.written rest);
    }

pub does_none : {B E : Type 0} (view : B → BusView) (d : DeskView B) (out : Option (List ℕ)) (done : Unit {0})
    → Does {B = B} {E = E} view d d out out (Ok done) []
unfolding bytes_of
does_none view d out done = record { leads = leads_none view d; once = once_none d; written = appends_none out }

-- One act.

one_step : {B : Type 0} (view : B → BusView) (old new : DeviceView B) (e : Event) (r : Reply)
    → Comes view old (λ (c n : Counted). CountedSteps old.info c e r n) new
    → Comes view old (λ (c n : Counted). IsCountedExecution old.info c (e ∷ []) (r ∷ []) n) new
one_step view old new e r steps = λ c agrees.
    let s = steps c agrees in let (n, step, agrees_then) = s.1 in (s.0, (n, (n, step, refl), agrees_then))

started_once : (k : List ℕ) (x : ℕ) (waits served waits_new started : List Waiting)
    → ((started ≡ served) × (waits_new ≡ waits)) ⊎ ((served ≡ []) × IsMerged waits started waits_new)
    → load k x waits + load k x served ≡ load k x waits_new + load k x started
unfolding times
started_once k x waits served waits_new started (inl (same, same_waits)) = rw (same, same_waits) refl
started_once k x waits served waits_new started (inr (none, merged)) =
    let h = load_merged k x waits started waits_new merged in
    let no : load k x served ≡ 0 = ap (load k x) none in
    omega (arith, h, no)

-- the turn's answers leave those that are due then
turn_once : (k : List ℕ) (x : ℕ) (waits served waits_new served_new : List Waiting) (given : List Completion)
    → AnswersTo waits served given waits_new served_new
    → load k x (waits_new ++ served_new) + times x (cookies_of k given) ≡ load k x (waits ++ served)
turn_once k x waits served waits_new served_new given h =
    let answers = load_answered k x h.answered given h.named in
    let was = load_then k x waits served in
    let is = load_then k x waits_new served_new in
    let between = ap (load k x) h.served ∙ load_then k x h.answered served_new in
    let started = started_once k x waits served waits_new h.started h.start in
    omega (arith, answers, was, is, between, started)

started_numbered : (k : List ℕ) (waits served waits_new started : List Waiting)
    → ((started ≡ served) × (waits_new ≡ waits)) ⊎ ((served ≡ []) × IsMerged waits started waits_new)
    → AreNumbered k waits → AreNumbered k served → AreNumbered k started × AreNumbered k waits_new
started_numbered k waits served waits_new started (inl (same, same_waits)) p q = rw (same, same_waits) (q, p)
started_numbered k waits served waits_new started (inr (none, merged)) p q =
    numbered_merged k waits started waits_new merged p

pub turn_numbered : (k : List ℕ) (waits served waits_new served_new : List Waiting) (given : List Completion)
    → AnswersTo waits served given waits_new served_new → AreNumbered k (waits ++ served)
    → AreNumbered k (waits_new ++ served_new)
turn_numbered k waits served waits_new served_new given h numbered =
    let (started, waiting) = started_numbered k waits served waits_new h.started h.start
    (numbered_front k waits served numbered) (numbered_after k waits served numbered) in
    numbered_then k waits_new served_new waiting
    (numbered_after k h.answered served_new (subst (AreNumbered k) h.served started))

pub turned : {B : Type 0} (view : B → BusView) (pace : Pace) (old new : DeskView B) (given : List Completion)
    → IsTurn view pace old.device given new.device → new.cookies ≡ old.cookies
    → Leads view old (Turns given ∷ []) new
unfolding cookies_after events_of replies_of
turned view pace old new given turn same = record {
  cookies = same;
  info = turn.same.0;
  kept = turn.kept;
  executed = λ kept. one_step view old.device new.device Turn (Answers given) (turn.machine kept);
}

pub turned_once : {B : Type 0} (view : B → BusView) (pace : Pace) (old new : DeskView B) (given : List Completion)
    → IsTurn view pace old.device given new.device → new.cookies ≡ old.cookies → AnswersEach old (Turns given ∷ []) new
unfolding answered asked times
turned_once view pace old new given turn same x =
    let once = turn_once old.cookies x old.device.waits (in_service_of old.device.service) new.device.waits
    (in_service_of new.device.service) given turn.answers in
    let no_more = ap (times x) (append-nil (cookies_of old.cookies given)) in
    rw same (omega (arith, once, no_more))

-- an accepted request is due
pub queued : {B : Type 0} (view : B → BusView) (old new : DeskView B) (cookie ticket client : ℕ) (request : Request)
    → client ≡ length old.cookies → Queues old.device client request ticket new.device
    → Comes view old.device
    (λ (c n : Counted). CountedSteps old.device.info c (Submit client request) (Accepted ticket) n) new.device
    → new.cookies ≡ old.cookies ++ cookie ∷ []
    → Leads view old (Asks cookie request (Accepted ticket) ∷ []) new
unfolding cookies_after events_of replies_of
queued view old new cookie ticket client request number queues steps more = record {
  cookies = more;
  info = ap (λ (d : DeviceView _). d.info) queues.waits;
  kept = λ h. subst (λ (d : DeviceView _). (view d.bus).is_kept ≡ true) queues.waits h;
  executed = λ kept.
      subst (λ n. Comes view old.device (λ (c m : Counted). IsCountedExecution old.device.info c (Submit n request ∷ []) (Accepted ticket ∷ []) m) new.device) number
      (one_step view old.device new.device (Submit client request) (Accepted ticket) steps);
}

-- how often a cookie is due with one request more
queue_once : (k : List ℕ) (cookie x : ℕ) (waits served : List Waiting) (w : Waiting) → w.client ≡ length k
    → AreNumbered k (waits ++ served)
    → load (k ++ cookie ∷ []) x ((waits ++ w ∷ []) ++ served) ≡ load k x (waits ++ served) + times x (cookie ∷ [])
queue_once k cookie x waits served w number numbered =
    let l = k ++ cookie ∷ [] in
    let waiting = load_more k cookie x waits (numbered_front k waits served numbered) in
    let serving = load_more k cookie x served (numbered_after k waits served numbered) in
    let his : cookie_under l w.client ≡ cookie = get_or_push k cookie 0 w.client (sym number) in
    let one : load l x (w ∷ []) ≡ times x (cookie ∷ []) = ap (λ c. times x (c ∷ [])) his in
    let was = load_then k x waits served in
    let is = load_then l x (waits ++ w ∷ []) served in
    let joined = load_then l x waits (w ∷ []) in
    omega (arith, waiting, serving, one, was, is, joined)

pub queued_once : {B : Type 0} (old new : DeskView B) (cookie ticket client : ℕ) (request : Request)
    → client ≡ length old.cookies → Queues old.device client request ticket new.device
    → new.cookies ≡ old.cookies ++ cookie ∷ [] → AreNumbered old.cookies (pending old)
    → AnswersEach old (Asks cookie request (Accepted ticket) ∷ []) new
unfolding answered asked
queued_once old new cookie ticket client request number queues more numbered x =
    let w : Waiting = record { ticket = old.device.next; client = client; request = request } in
    let h = queue_once old.cookies cookie x old.device.waits (in_service_of old.device.service) w number numbered in
    let none : times x [] ≡ 0 = no_times x in
    rw (more, queues.waits) (omega (arith, h, none))

-- its number is that of its cookie
pub queued_numbered : {B : Type 0} (k : List ℕ) (old new : DeviceView B) (cookie ticket client : ℕ) (request : Request)
    → client ≡ length k → Queues old client request ticket new
    → AreNumbered k (old.waits ++ in_service_of old.service)
    → AreNumbered (k ++ cookie ∷ []) (new.waits ++ in_service_of new.service)
queued_numbered k old new cookie ticket client request number queues numbered =
    let served = in_service_of old.service in
    let w : Waiting = record { ticket = old.next; client = client; request = request } in
    let longer = length-append k (cookie ∷ []) in
    let waiting = numbered_more k cookie old.waits (numbered_front k old.waits served numbered) in
    let serving = numbered_more k cookie served (numbered_after k old.waits served numbered) in
    let l = k ++ cookie ∷ [] in
    rw queues.waits
    (numbered_then l (old.waits ++ w ∷ []) served
    (numbered_then l old.waits (w ∷ []) waiting (omega (arith, number, longer), tt)) serving)

-- a refused request changes nothing
pub refused : {B : Type 0} (view : B → BusView) (old new : DeskView B) (cookie client : ℕ) (request : Request)
    (why : Refused) → client ≡ length old.cookies → new ≡ old
    → Comes view old.device
    (λ (c n : Counted). CountedSteps old.device.info c (Submit client request) (RefusedFor why) n) new.device
    → Leads view old (Asks cookie request (RefusedFor why) ∷ []) new
unfolding cookies_after events_of replies_of
refused view old new cookie client request why number same steps = record {
  cookies = ap (λ (d : DeskView _). d.cookies) same;
  info = ap (λ (d : DeskView _). d.device.info) same;
  kept = λ h. subst (λ (d : DeskView _). (view d.device.bus).is_kept ≡ true) same h;
  executed = λ kept.
      subst (λ n. Comes view old.device (λ (c m : Counted). IsCountedExecution old.device.info c (Submit n request ∷ []) (RefusedFor why ∷ []) m) new.device) number
      (one_step view old.device new.device (Submit client request) (RefusedFor why) steps);
}

-- and is answered at once
pub refused_once : {B : Type 0} (old new : DeskView B) (cookie : ℕ) (request : Request) (why : Refused) → new ≡ old
    → AnswersEach old (Asks cookie request (RefusedFor why) ∷ []) new
unfolding answered asked
refused_once old new cookie request why same x = rw same refl

-- a request that is answered without the device
pub said : {B : Type 0} (view : B → BusView) (d : DeskView B) (cookie : ℕ) (error : Option ReplyError)
    → Leads view d (Says cookie error ∷ []) d
unfolding cookies_after events_of replies_of
said view d cookie error = record {
  cookies = refl;
  info = refl;
  kept = λ h. h;
  executed = λ kept c agrees. (stays_same (view d.device.bus) (view d.device.bus).lines, (c, refl, agrees));
}

pub said_once : {B : Type 0} (d : DeskView B) (cookie : ℕ) (error : Option ReplyError)
    → AnswersEach d (Says cookie error ∷ []) d
unfolding answered asked
said_once d cookie error x = refl

no_elements : {X : Type 0} (xs : List X) → length xs ≡ 0 → xs ≡ []
no_elements [] none = refl
no_elements (x ∷ xs) none = absurd (omega (arith, none))

pub none_pending : {B : Type 0} (d : DeviceView B) → unanswered_of d ≡ 0
    → d.waits ++ in_service_of d.service ≡ []
none_pending d none =
    no_elements (d.waits ++ in_service_of d.service)
    (let all = length-append d.waits (in_service_of d.service) in omega (arith, all, none))

-- where nothing is without an answer clients are numbered anew
pub cleared : {B : Type 0} (view : B → BusView) (old new : DeskView B) → unanswered_of old.device ≡ 0
    → new.device ≡ old.device → new.cookies ≡ [] → Leads view old (Clears ∷ []) new
unfolding cookies_after events_of replies_of
cleared view old new none same anew = record {
  cookies = anew;
  info = ap (λ (d : DeviceView _). d.info) same;
  kept = λ h. subst (λ (d : DeviceView _). (view d.bus).is_kept ≡ true) same h;
  executed = λ kept.
      subst (λ d. Comes view old.device (λ (c m : Counted). IsCountedExecution old.device.info c [] [] m) d) (sym same)
      (λ c agrees. (stays_same (view old.device.bus) (view old.device.bus).lines, (c, refl, agrees)));
}

pub cleared_once : {B : Type 0} (old new : DeskView B) → unanswered_of old.device ≡ 0 → new.device ≡ old.device
    → AnswersEach old (Clears ∷ []) new
unfolding answered asked
cleared_once old new none same x = rw (same, none_pending old.device none) refl

-- a turn, and the replies that its answers are
pub turn_does : {B E : Type 0} (view : B → BusView) (pace : Pace) (old new : DeskView B) (given : List Completion)
    (before after : Option (List ℕ)) (r : Result (Unit {0}) E) → IsTurn view pace old.device given new.device
    → new.cookies ≡ old.cookies → Writes before after r (answers_bytes old.cookies given)
    → Does view old new before after r (Turns given ∷ [])
unfolding bytes_of
turn_does view pace old new given before after r turn same wrote = record {
  leads = turned view pace old new given turn same;
  once = turned_once view pace old new given turn same;
  written = subst (Writes before after r) (sym (append-nil (answers_bytes old.cookies given))) wrote;
}

-- Requests that acts take up.

pub none_asked_by_none : asked [] ≡ []
unfolding asked
none_asked_by_none = refl

turn_asks_nothing : (act : Act) → IsOfTurns act → asked_by act ≡ []
turn_asks_nothing (Turns given) h = refl
turn_asks_nothing Clears h = refl
turn_asks_nothing (Asks cookie request reply) h = absurd h
turn_asks_nothing (AsksPart request reply) h = absurd h
turn_asks_nothing (Gathers given) h = absurd h
turn_asks_nothing (Says cookie error) h = absurd h
turn_asks_nothing (Gives cookie bytes) h = absurd h

pub turns_ask_nothing : (xs : List Act) → AreTurns xs → asked xs ≡ []
unfolding asked
turns_ask_nothing [] h = refl
turns_ask_nothing (x ∷ xs) h =
    ap (λ cs. cs ++ asked xs) (turn_asks_nothing x (All-head IsOfTurns x xs h))
    ∙ turns_ask_nothing xs (All-tail IsOfTurns x xs h)

pub no_turns : AreTurns []
no_turns = All-nil IsOfTurns

-- turns, and one more
pub turns_more : (xs : List Act) (x : Act) → AreTurns xs → IsOfTurns x → AreTurns (xs ++ x ∷ [])
turns_more = All-push IsOfTurns

pub cleared_does : {B E : Type 0} (view : B → BusView) (old new : DeskView B) (out : Option (List ℕ)) (done : Unit {0})
    → unanswered_of old.device ≡ 0 → new.device ≡ old.device → new.cookies ≡ []
    → Does {B = B} {E = E} view old new out out (Ok done) (Clears ∷ [])
unfolding bytes_of
cleared_does view old new out done none same anew = record {
  leads = cleared view old new none same anew;
  once = cleared_once old new none same;
  written = appends_none out;
}

-- a fault, whichever it is
pub does_failed : {B E : Type 0} (view : B → BusView) (old new : DeskView B) (before after : Option (List ℕ))
    (acts : List Act) (e : E) (r : Result (Unit {0}) E) → IsErr r → Does view old new before after (Err e) acts
    → Does view old new before after r acts
does_failed view old new before after acts e (Ok x) failed h = absurd (false≢true failed)
does_failed view old new before after acts e (Err d) failed h =
    record { leads = h.leads; once = h.once; written = h.written }

-- One request.

pub accepted_does : {B E : Type 0} (view : B → BusView) (old new : DeskView B) (cookie ticket : ℕ) (request : Request)
    (out : Option (List ℕ)) (done : Unit {0})
    → Leads view old (Asks cookie request (Accepted ticket) ∷ []) new
    → AnswersEach old (Asks cookie request (Accepted ticket) ∷ []) new
    → Does {B = B} {E = E} view old new out out (Ok done) (Asks cookie request (Accepted ticket) ∷ [])
unfolding bytes_of
accepted_does view old new cookie ticket request out done leads once =
    record { leads = leads; once = once; written = appends_none out }

pub refused_does : {B E : Type 0} (view : B → BusView) (old new : DeskView B) (cookie : ℕ) (why : Refused)
    (request : Request) (before after : Option (List ℕ)) (r : Result (Unit {0}) E)
    → Leads view old (Asks cookie request (RefusedFor why) ∷ []) new
    → AnswersEach old (Asks cookie request (RefusedFor why) ∷ []) new
    → Writes before after r (reply_header (Some (error_of why)) cookie)
    → Does view old new before after r (Asks cookie request (RefusedFor why) ∷ [])
unfolding bytes_of
refused_does view old new cookie why request before after r leads once wrote = record {
  leads = leads;
  once = once;
  written = subst (Writes before after r) (sym (append-nil (reply_header (Some (error_of why)) cookie))) wrote;
}

pub on_ok : {X E : Type 0} (r : Result X E) (P : Type 0) → P → OnOk r P
on_ok (Ok x) P h = h
on_ok (Err e) P h = tt

pub on_ok_then : {X E : Type 0} (r : Result X E) (P Q : Type 0) → (P → Q) → OnOk r P → OnOk r Q
on_ok_then (Ok x) P Q f h = f h
on_ok_then (Err e) P Q f h = tt

pub on_no_ok : {X E : Type 0} (r : Result X E) (P : Type 0) → IsErr r → OnOk r P
on_no_ok (Ok x) P failed = absurd (false≢true failed)
on_no_ok (Err e) P failed = tt

-- Parts of a long request.

-- a turn whose answers are kept is a turn
pub gathered : {B : Type 0} (view : B → BusView) (pace : Pace) (old new : DeskView B) (given : List Completion)
    → IsTurn view pace old.device given new.device → new.cookies ≡ old.cookies
    → Leads view old (Gathers given ∷ []) new
unfolding cookies_after events_of replies_of
gathered view pace old new given turn same =
    let h = turned view pace old new given turn same in
    record { cookies = h.cookies; info = h.info; kept = h.kept; executed = h.executed }

-- a part is submitted as a whole request is
pub as_part : {B : Type 0} (view : B → BusView) (old new : DeskView B) (request : Request) (r : Result ℕ Refused)
    → Leads view old (Asks 0 request (reply_to r) ∷ []) new
    → Leads view old (AsksPart request (reply_to r) ∷ []) new
unfolding cookies_after events_of replies_of
as_part view old new request (Ok ticket) h =
    record { cookies = h.cookies; info = h.info; kept = h.kept; executed = h.executed }
as_part view old new request (Err why) h =
    record { cookies = h.cookies; info = h.info; kept = h.kept; executed = h.executed }

pub no_parts : AreOfParts []
no_parts = All-nil IsOfParts

pub of_parts_then : (xs ys : List Act) → AreOfParts xs → AreOfParts ys → AreOfParts (xs ++ ys)
of_parts_then = All-append IsOfParts

pub parts_more : (xs : List Act) (x : Act) → AreOfParts xs → IsOfParts x → AreOfParts (xs ++ x ∷ [])
parts_more = All-push IsOfParts

pub one_part : (x : Act) → IsOfParts x → AreOfParts (x ∷ [])
one_part x is = All-cons IsOfParts x [] is no_parts

-- such an act takes up no request, replies to none and writes nothing
part_is_silent : (k : List ℕ) (x : Act) → IsOfParts x → (asked_by x ≡ []) × (answered_by k x ≡ []) × (bytes_by k x ≡ [])
part_is_silent k (AsksPart request reply) is = (refl, refl, refl)
part_is_silent k (Gathers given) is = (refl, refl, refl)
part_is_silent k Clears is = (refl, refl, refl)
part_is_silent k (Asks cookie request reply) is = absurd is
part_is_silent k (Turns given) is = absurd is
part_is_silent k (Says cookie error) is = absurd is
part_is_silent k (Gives cookie bytes) is = absurd is

pub parts_ask_nothing : (xs : List Act) → AreOfParts xs → asked xs ≡ []
unfolding asked
parts_ask_nothing [] h = refl
parts_ask_nothing (x ∷ xs) h =
    ap (λ cs. cs ++ asked xs) (part_is_silent [] x (All-head IsOfParts x xs h)).0
    ∙ parts_ask_nothing xs (All-tail IsOfParts x xs h)

parts_answer_nothing : (k : List ℕ) (xs : List Act) → AreOfParts xs → answered k xs ≡ []
unfolding answered
parts_answer_nothing k [] h = refl
parts_answer_nothing k (x ∷ xs) h =
    ap (λ cs. cs ++ answered (cookies_with k x) xs) (part_is_silent k x (All-head IsOfParts x xs h)).1
    ∙ parts_answer_nothing (cookies_with k x) xs (All-tail IsOfParts x xs h)

parts_write_nothing : (k : List ℕ) (xs : List Act) → AreOfParts xs → bytes_of k xs ≡ []
unfolding bytes_of
parts_write_nothing k [] h = refl
parts_write_nothing k (x ∷ xs) h =
    ap (λ cs. cs ++ bytes_of (cookies_with k x) xs) (part_is_silent k x (All-head IsOfParts x xs h)).2
    ∙ parts_write_nothing (cookies_with k x) xs (All-tail IsOfParts x xs h)

parts_once : {B : Type 0} (old new : DeskView B) (xs : List Act) → AreOfParts xs → unanswered_of old.device ≡ 0
    → unanswered_of new.device ≡ 0 → AnswersEach old xs new
parts_once old new xs h none none_left x =
    rw (none_pending old.device none, none_pending new.device none_left, parts_answer_nothing old.cookies xs h, parts_ask_nothing xs h)
    refl

-- parts from an empty desk to an empty desk
pub parts_do : {B E : Type 0} (view : B → BusView) (old new : DeskView B) (out : Option (List ℕ)) (done : Unit {0})
    (xs : List Act) → AreOfParts xs → Leads view old xs new → unanswered_of old.device ≡ 0
    → unanswered_of new.device ≡ 0 → Does {B = B} {E = E} view old new out out (Ok done) xs
parts_do view old new out done xs h leads none none_left = record {
  leads = leads;
  once = parts_once old new xs h none none_left;
  written = subst (Appends out out) (sym (parts_write_nothing old.cookies xs h)) (appends_none out);
}

-- A reply without the device.

pub says_does : {B E : Type 0} (view : B → BusView) (d : DeskView B) (cookie : ℕ) (error : Option ReplyError)
    (before after : Option (List ℕ)) (r : Result (Unit {0}) E) → Writes before after r (reply_header error cookie)
    → Does view d d before after r (Says cookie error ∷ [])
unfolding bytes_of
says_does view d cookie error before after r wrote = record {
  leads = said view d cookie error;
  once = said_once d cookie error;
  written = subst (Writes before after r) (sym (append-nil (reply_header error cookie))) wrote;
}

gave : {B : Type 0} (view : B → BusView) (d : DeskView B) (cookie : ℕ) (bytes : List ℕ)
    → Leads view d (Gives cookie bytes ∷ []) d
unfolding cookies_after events_of replies_of
gave view d cookie bytes = record {
  cookies = refl;
  info = refl;
  kept = λ h. h;
  executed = λ kept c agrees. (stays_same (view d.device.bus) (view d.device.bus).lines, (c, refl, agrees));
}

gave_once : {B : Type 0} (d : DeskView B) (cookie : ℕ) (bytes : List ℕ) → AnswersEach d (Gives cookie bytes ∷ []) d
unfolding answered asked
gave_once d cookie bytes x = refl

pub gives_does : {B E : Type 0} (view : B → BusView) (d : DeskView B) (cookie : ℕ) (bytes : List ℕ)
    (before after : Option (List ℕ)) (r : Result (Unit {0}) E)
    → Writes before after r (reply_header None cookie ++ bytes)
    → Does view d d before after r (Gives cookie bytes ∷ [])
unfolding bytes_of
gives_does view d cookie bytes before after r wrote = record {
  leads = gave view d cookie bytes;
  once = gave_once d cookie bytes;
  written = subst (Writes before after r) (sym (append-nil (reply_header None cookie ++ bytes))) wrote;
}

pub asks_one : (xs : List Act) (cookie : ℕ) (act : Act) → asked xs ≡ [] → asked_by act ≡ cookie ∷ []
    → asked (xs ++ act ∷ []) ≡ cookie ∷ []
unfolding asked
asks_one xs cookie act none one =
    asked_then xs (act ∷ []) ∙ ap (λ cs. cs ++ (asked_by act ++ [])) none ∙ append-nil (asked_by act) ∙ one
