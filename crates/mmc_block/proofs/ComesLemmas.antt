-- A turn of the device comes to a turn of the machine with own faults.
use Rattle.std.proofs.Common.{◌++◌, ◌+◌, ◌-◌, ◌<◌, ◌∙◌, ◌∷◌, ◌≡◌, ◌≤◌, Bool, List, None, Option, Some, [], ap}
use Rattle.std.proofs.Common.{append-nil}
use Rattle.std.proofs.Common.{arith, inl, inr, length, map, refl, subst, sym, true, ℕ}
use Rattle.mmc_card.specs.BusView.{BusView}
use Rattle.mmc_card.specs.Card.{Card, holds}
use Rattle.mmc_card.specs.Made.{Made}
use Rattle.mmc_card.specs.Profile.{InProfile}
use Rattle.mmc_card.specs.Sectors.{Change, Sets, Within}
use Rattle.mmc_bus.specs.Learned.{Stays}
use Rattle.mmc_bus.proofs.WorkLemmas.{stays_same}
use Rattle.mmc_queue.specs.Group.{IsFair}
use Rattle.mmc_queue.specs.Requests.{room_of}
use Rattle.mmc_queue.specs.declared.entry.Entry.{Entry}
use Rattle.mmc_recovery.specs.declared.healed.Healed.{Healed}
use Rattle.mmc_queue.specs.declared.request.Request.{Request}
use Rattle.mmc_queue.specs.declared.request.Request.TheVariants.{Erase, Read, Trim, Write}
use Rattle.mmc_switch.specs.Place.{IsReady}
use Rattle.mmc_switch.specs.declared.broken.Broken.{Broken}
use Rattle.mmc_switch.specs.declared.info.Info.{Info}
use Rattle.mmc_block.specs.Device.{AgreesCounted, Comes, DeviceOk, DeviceView, IsCountedIn, IsPlaced}
use Rattle.mmc_block.specs.Entries.{AreServable, HoldWhatTheyRead, HoldsWhatItRead, completion_of, done_answer}
use Rattle.mmc_block.specs.Entries.{waiting_of}
use Rattle.mmc_block.specs.Entries.{waits_of}
use Rattle.mmc_block.specs.Groups.{AreAnswersOf, AreOneKind, IsAnswerOf, IsChangeOf, IsCounted, alone}
use Rattle.mmc_block.specs.InOrder.{AreDecided}
use Rattle.mmc_block.specs.Machine.{Machine, StartsIfIdle, Waiting, all_failed}
use Rattle.mmc_block.specs.Execution.{Counted, CountedSteps, own_after}
use Rattle.mmc_block.specs.Execution.Event.{Turn}
use Rattle.mmc_block.specs.Execution.Reply.{Answers as Gives}
use Rattle.mmc_block.specs.Service.{AfterFailure, AreAll, AreServed, AttemptOk, Concludes, Did, HasLeft, HasStarted}
use Rattle.mmc_block.specs.Service.{IsAt}
use Rattle.mmc_block.specs.Service.{IsNext, in_service_of, tries}
use Rattle.mmc_switch.specs.Stands.{StandsIn}
use Rattle.mmc_block.specs.declared.completion.Completion.{Completion}
use Rattle.mmc_block.specs.declared.service.Attempt.{Attempt}
use Rattle.mmc_switch.specs.declared.stands.Stands.{Stands}
use Rattle.mmc_switch.specs.declared.progress.Progress.{Progress}
use Rattle.mmc_switch.specs.declared.progress.Progress.TheVariants.{Done, Failed, More}
use Rattle.mmc_block.specs.Service.{Service}
use Rattle.mmc_block.specs.Service.Service.{Idle, Serving, Taken}
use Rattle.mmc_block.specs.declared.service.Stage.{Stage}
use Rattle.mmc_block.proofs.EntryLemmas.{length-waits_of, merged_waits, one_kind_by, servable_parts}
use Rattle.mmc_block.proofs.GroupLemmas.{still_within, within_more}
use Rattle.mmc_block.proofs.ServeLemmas.{Turned, counted_failed, counted_first, counted_four, counted_on, goes_on}
use Rattle.mmc_block.proofs.ServeLemmas.{group_answered, refuses, serving}
use Rattle.mmc_block.proofs.ServiceLemmas.{all_served, pass_first}

-- Answers to members that the card carried out.

one_answer : (sets : Sets) (ticket client : ℕ) (r : Request) (bytes : List ℕ) → length bytes ≡ room_of r
    → HoldsWhatItRead sets r bytes
    → IsAnswerOf sets (record { ticket = ticket; client = client; request = r }) (done_answer r bytes)
one_answer sets ticket client (Read part start count) bytes room is = (refl, (room, is))
one_answer sets ticket client (Write part start count b) bytes room is = refl
one_answer sets ticket client (Erase part start count) bytes room is = refl
one_answer sets ticket client (Trim part start count) bytes room is = refl

pub all_answers : (info : Info) (sets : Sets) (es : List Entry) → AreServable info es → HoldWhatTheyRead sets es
    → AreAnswersOf sets (waits_of es) (map completion_of es)
all_answers info sets [] able is = refl
all_answers info sets (e ∷ es) able is = (
  done_answer e.request e.buffer,
  map completion_of es,
  refl,
  one_answer sets e.ticket e.client e.request e.buffer able.0.room is.0,
  all_answers info sets es able.1 is.1,
)

-- What a turn comes to, of a machine that has started: the service that is left, and where the card is.
pub record ComesTo (info : Info) (fell : ℕ) (m : Machine) (in_profile : Bool) (own : ℕ → ℕ) (cs : List Completion)
    (service : Service) (view : BusView) : Type 0 where
  pub whose : Option ℕ
  pub turned : Turned info fell whose m in_profile own cs (in_service_of service) (holds view.card)
  pub run_fell : ℕ
  pub placed : IsPlaced service run_fell view
  pub counted : in_profile ≡ true → IsCountedIn service run_fell (own_after fell whose own)

-- These are served next, and the card is where it is said.
pub record GoesOn (own : ℕ → ℕ) (service : Service) (left : List Waiting) (view : BusView) : Type 0 where
  pub in_service : in_service_of service ≡ left
  pub placed : IsPlaced service 0 view
  pub counted : IsCountedIn service 0 own

-- the first of those that are to be served alone
goes_next : (own : ℕ → ℕ) (stands : Stands) (es : List Entry) (service : Service) (view : BusView) → StandsIn stands view
    → IsNext stands es service → GoesOn own service (waits_of es) view
goes_next own stands [] service view l n = rw n (record { in_service = refl; placed = l; counted = tt })
goes_next own stands (e ∷ es) service view l n =
    rw n.1 (record {
      in_service = rw (n.2.members_are, n.2.others_are) refl;
      placed = l;
      counted = rw (n.2.members_are, n.2.failed) (counted_first (waiting_of e ∷ []) own);
    })

with_goes : (info : Info) (fell : ℕ) (whose : Option ℕ) (m : Machine) (in_profile : Bool) (own : ℕ → ℕ)
    (cs : List Completion) (service : Service) (view : BusView) (left : List Waiting)
    → Turned info fell whose m in_profile own cs left (holds view.card)
    → GoesOn (own_after fell whose own) service left view
    → ComesTo info fell m in_profile own cs service view
with_goes info fell whose m in_profile own cs service view left t goes = record {
  whose = whose;
  turned = subst (λ ws. Turned info fell whose m in_profile own cs ws (holds view.card)) (sym goes.in_service) t;
  run_fell = 0;
  placed = goes.placed;
  counted = λ p. goes.counted;
}

-- after the last attempt
fails_comes : (info : Info) (fell k next failed : ℕ) (m : Machine) (in_profile : Bool) (own : ℕ → ℕ) (broken : Broken)
    (members others : List Entry) (service : Service) (cs : List Completion) (new : BusView)
    → m.in_service ≡ waits_of members ++ waits_of others
    → AreAll members others → AreServed (waits_of members ++ waits_of others) m.waits next
    → Within (holds new.card) (all_failed info (waits_of members ++ waits_of others) m.sets)
    → (in_profile ≡ true → IsCounted (waits_of members) failed k own) → StandsIn (Stands.Broken broken) new
    → (in_profile ≡ true → 0 < k + fell) → failed + 1 ≡ tries members
    → AfterFailure broken members others service cs
    → ComesTo info fell m in_profile own cs service new
fails_comes info fell k next failed m in_profile own broken [] others service cs new is all ok within counted lo some
    last after = absurd after
fails_comes info fell k next failed m in_profile own broken (e ∷ []) others service cs new is all ok within counted lo
    some last after =
    let w = waiting_of e in
    let three : failed ≡ 3 = omega (arith, last) in
    let c3 : in_profile ≡ true → IsCounted (w ∷ []) 3 k own = rw three at counted in
    let t = refuses info fell next m in_profile own w (waits_of others) broken.cause (holds new.card) is ok.in_order
    ok.passes_none.0 (λ p. counted_four w k fell own (some p) (c3 p)) within in
    rw after.1 (with_goes info fell (Some w.ticket) m in_profile own _ service new (waits_of others) t
    (goes_next (own_after fell (Some w.ticket) own) (Stands.Broken broken) others service new lo after.0))
fails_comes info fell k next failed m in_profile own broken (e ∷ f ∷ es) others service cs new is all ok within counted
    lo some last after =
    let ms = waits_of (e ∷ f ∷ es) in
    let t = goes_on info fell m in_profile own ms (waits_of others) (holds new.card) is within in
    let goes = goes_next own (Stands.Broken broken) (e ∷ f ∷ es) service new lo after.0 in
    rw after.1 (with_goes info fell None m in_profile own [] service new (ms ++ waits_of others) t
    (subst (λ ws. GoesOn own service ws new) (sym (all_served e f es others all)) goes))

-- a settle, a select or an exchange, and what is decided then
serve_comes : (info : Info) (fell k next : ℕ) (m : Machine) (in_profile : Bool) (own : ℕ → ℕ) (c : Change) (o : Progress Stage)
    (attempt : Attempt) (service : Service) (cs : List Completion) (old new : BusView)
    → m.in_service ≡ waits_of attempt.group.members.items ++ waits_of attempt.others.items → AttemptOk info attempt
    → AreServed (waits_of attempt.group.members.items ++ waits_of attempt.others.items) m.waits next
    → Within (holds old.card)
    (all_failed info (waits_of attempt.group.members.items ++ waits_of attempt.others.items) m.sets)
    → IsChangeOf info (waits_of attempt.group.members.items) c
    → (in_profile ≡ true → IsCounted (waits_of attempt.group.members.items) attempt.failed k own)
    → (in_profile ≡ true → InProfile old.card.made) → ((card : Card) → card.values ≡ [] → AreDecided (holds card))
    → HasLeft c attempt.group (k + fell) old o new → Concludes o attempt service cs
    → ComesTo info fell m in_profile own cs service new
serve_comes info fell k next m in_profile own c (More stage) attempt service cs old new is ok served within change
    counted profile decides did concludes =
    let ms = waits_of attempt.group.members.items in
    let os = waits_of attempt.others.items in
    rw (concludes.0, concludes.1) (record {
      whose = alone ms;
      turned = goes_on info fell m in_profile own ms os (holds new.card) is
          (still_within info c ms os (holds old.card) (holds new.card) m.sets change did.3 within);
      run_fell = did.0;
      placed = did.2;
      counted = λ p. counted_on ms attempt.failed k fell did.0 own did.1 (counted p);
    })
serve_comes info fell k next m in_profile own c (Done session) attempt service cs old new is ok served within change
    counted profile decides did concludes =
    let members = attempt.group.members.items in
    let ms = waits_of members in
    let os = waits_of attempt.others.items in
    let ready : IsReady session new = did.0 in
    let able = (servable_parts info members attempt.others.items ok.servable).0 in
    let t = group_answered info fell next m in_profile own ms os c (map completion_of members) (holds old.card)
    (holds new.card) is served.one_kind served.in_order (pass_first ms os m.waits served.passes_none)
    (all_answers info (holds new.card) members able did.2) change within did.1
    (decides new.card ready.set.rest.finished) in
    rw concludes.1 (with_goes info fell (alone ms) m in_profile own _ service new os t
    (goes_next (own_after fell (alone ms) own) (Stands.Ready session) attempt.others.items service new ready concludes.0))
serve_comes info fell k next m in_profile own c (Failed broken) attempt service cs old new is ok served within change
    counted profile decides did (inl again) =
    let ms = waits_of attempt.group.members.items in
    let os = waits_of attempt.others.items in
    rw (again.1, again.2) (record {
      whose = alone ms;
      turned = goes_on info fell m in_profile own ms os (holds new.card) is
          (still_within info c ms os (holds old.card) (holds new.card) m.sets change did.2 within);
      run_fell = 0;
      placed = did.0;
      counted = λ p. counted_failed ms attempt.failed k fell own (did.1 (profile p)) (counted p);
    })
serve_comes info fell k next m in_profile own c (Failed broken) attempt service cs old new is ok served within change
    counted profile decides did (inr last) =
    let members = attempt.group.members.items in
    let others = attempt.others.items in
    fails_comes info fell k next attempt.failed m in_profile own broken members others service cs new is ok.all served
    (still_within info c (waits_of members) (waits_of others) (holds old.card) (holds new.card) m.sets change did.2
    within) counted did.0 (λ p. did.1 (profile p)) last.0 last.1

-- Starts.

abbrev pub view_of : {B : Type 0} → B → Info → Service → List Entry → ℕ → Healed → DeviceView B
view_of bus info service entries next healed =
    record { bus = bus; info = info; service = service; waits = waits_of entries; next = next; healed = healed }

-- the same with another machine
abbrev pub counted_with : Counted → Machine → Counted
counted_with c m = record c { machine = m }

-- what a start makes of a machine that agrees
pub record Began {B : Type 0} (view : B → BusView) (c : Counted) (new : DeviceView B) : Type 0 where
  pub started : Machine
  pub start : StartsIfIdle c.machine started
  pub agrees : AgreesCounted view new (counted_with c started)

some_in_service : (ms os : List Entry) → 0 < length ms → waits_of ms ++ waits_of os ≡ [] → ⊥
some_in_service [] os some e = omega (arith, some)
some_in_service (m ∷ ms) os some e = cc

pub begins : {B : Type 0} (view : B → BusView) (bus : B) (info : Info) (service new : Service) (old left : List Entry)
    (next : ℕ) (healed : Healed) (c : Counted) → DeviceOk info old service next → HasStarted old service left new
    → AgreesCounted view (view_of bus info service old next healed) c
    → Began view c (view_of bus info new left next healed)
begins view bus info (Idle stands) new old left next healed c ok (inl s) a =
    rw (s.1, s.2) (record {
      started = c.machine;
      start = inr (refl, λ idle. a.agrees.waits ∙ ap waits_of s.0);
      agrees = record {
        agrees = record {
          waits = a.agrees.waits ∙ ap waits_of s.0;
          in_service = a.agrees.in_service;
          next = a.agrees.next;
          within = a.agrees.within;
        };
        faults = a.faults;
        in_profile = a.in_profile;
        fell = a.fell;
        placed = a.placed;
        own = λ p. tt;
      };
    })
begins view bus info (Idle stands) new old left next healed c ok (inr s) a =
    let attempt : Attempt = s.0 in
    let members : List Entry = attempt.group.members.items in
    let fair : IsFair old members attempt.group.extent left = s.3 in
    let joined = fair.joined in
    let ms : List Waiting = waits_of members in
    let first : ms ≡ waiting_of fair.oldest ∷ waits_of fair.others = ap waits_of fair.members_are in
    let all : ms ++ waits_of attempt.others.items ≡ ms = rw s.2.others_are (append-nil ms) in
    let kind : AreOneKind (waiting_of fair.oldest ∷ waits_of fair.others) =
    subst AreOneKind first (one_kind_by attempt.group.extent members joined.alike) in
    let n = length-waits_of fair.others in
    let few : length (fair.oldest ∷ fair.others) ≤ 16 =
    subst (λ (es : List Entry). length es ≤ 16) fair.members_are joined.few in
    let started : Machine =
    record { sets = c.machine.sets; waits = waits_of left; in_service = ms; next = c.machine.next } in
    rw s.1 (record {
      started = started;
      start = inl (record {
        oldest = waiting_of fair.oldest;
        others = waits_of fair.others;
        later = waits_of fair.later;
        idle = a.agrees.in_service;
        group = first;
        alike = kind;
        few = omega (arith, n, few);
        first = a.agrees.waits ∙ ap waits_of fair.waits_are;
        left = merged_waits fair.later fair.others left fair.parts;
        sets = refl;
        next = refl;
      });
      agrees = record {
        agrees = record {
          waits = refl;
          in_service = sym all;
          next = a.agrees.next;
          within = rw all (within_more info ms (holds (view bus).card) c.machine.sets a.agrees.within);
        };
        faults = a.faults;
        in_profile = a.in_profile;
        fell = 0;
        placed = a.placed;
        own = λ p. rw s.2.failed (counted_first ms c.own_faults);
      };
    })
begins view bus info (Serving stage attempt) new old left next healed c ok s a =
    let joined = ok.serves.2.joined in
    rw (s.0, s.1) (record {
      started = c.machine;
      start = inr (
        refl,
        λ idle. absurd (some_in_service attempt.group.members.items attempt.others.items joined.some
            (sym a.agrees.in_service ∙ idle)),
      );
      agrees = a;
    })
begins view bus info Taken new old left next healed c ok s a = absurd s

-- Turns.

abbrev pub TurnComes : {B : Type 0} → (B → BusView) → DeviceView B → List Completion → DeviceView B → Type 0
TurnComes view old cs new = Comes view old (λ (c n : Counted). CountedSteps old.info c Turn (Gives cs) n) new

-- nothing is in service and nothing waits
pub turn_idle : {B : Type 0} (view : B → BusView) (bus : B) (info : Info) (service : Service) (stands : Stands)
    (old left : List Entry) (next : ℕ) (healed : Healed) (cs : List Completion)
    → DeviceOk info old service next → HasStarted old service left (Idle stands) → cs ≡ []
    → TurnComes view (view_of bus info service old next healed) cs (view_of bus info (Idle stands) left next healed)
turn_idle view bus info service stands old left next healed cs ok s none c a =
    let b = begins view bus info service (Idle stands) old left next healed c ok s a in
    rw none (
      stays_same (view bus) (view bus).lines,
      (
        counted_with c b.started,
        (
          record {
            started = b.started;
            start = b.start;
            answers = record { completes = refl; ascend = tt };
            fell = 0;
            faults = omega arith;
            whose = None;
            in_service = tt;
            counts = λ t. refl;
            four = λ p. tt;
          },
          tt,
          refl,
        ),
        b.agrees,
      ),
    )

in_profile_still : (old new : BusView) → Stays old new → InProfile old.card.made → InProfile new.card.made
in_profile_still old new stays profile = subst (λ (made : Made). InProfile made) (sym stays.carried.made) profile

-- a settle, a select or an exchange
pub turn_serves : {B : Type 0} (view : B → BusView) (bus bus' : B) (info : Info) (service new : Service)
    (old left : List Entry) (next : ℕ) (healed counted : Healed) (stage : Stage) (attempt after : Attempt) (change : Change)
    (o : Progress Stage) (cs : List Completion)
    → DeviceOk info old service next → HasStarted old service left (Serving stage attempt) → AttemptOk info after
    → AreServed (waits_of attempt.group.members.items ++ waits_of attempt.others.items) (waits_of left) next
    → waits_of after.group.members.items ≡ waits_of attempt.group.members.items → after.others ≡ attempt.others
    → after.failed ≡ attempt.failed → IsChangeOf info (waits_of attempt.group.members.items) change
    → ((card : Card) → card.values ≡ [] → AreDecided (holds card))
    → ((k : ℕ) → IsAt stage attempt.group k (view bus)
    → Did change after.group (k + ((view bus').faults - (view bus).faults)) (view bus) o (view bus'))
    → Concludes o after new cs
    → TurnComes view (view_of bus info service old next healed) cs (view_of bus' info new left next counted)
turn_serves view bus bus' info service new old left next healed counted stage attempt after change o cs ok s after_ok served same
    others failed is_change decides did concludes c a =
    let fell : ℕ = (view bus').faults - (view bus).faults in
    let b = begins view bus info service (Serving stage attempt) old left next healed c ok s a in
    let x : AgreesCounted view (view_of bus info (Serving stage attempt) left next healed) (counted_with c b.started) =
    b.agrees in
    let n : Machine = b.started in
    let waits : n.waits ≡ waits_of left = x.agrees.waits in
    let both : waits_of after.group.members.items ++ waits_of after.others.items
    ≡ waits_of attempt.group.members.items ++ waits_of attempt.others.items = rw (same, others) refl in
    let d = did x.fell x.placed in
    let k : ComesTo info fell n c.in_profile c.own_faults cs new (view bus') =
    serve_comes info fell x.fell next n c.in_profile c.own_faults change o after new cs (view bus) (view bus')
    (x.agrees.in_service ∙ sym both) after_ok (rw (both, waits) served) (rw both x.agrees.within) (rw same is_change)
    (rw (same, failed) x.own) x.in_profile decides d.left concludes in
    let t = k.turned in
    let later = d.stays.later in
    let faults : c.faults ≡ (view bus).faults = a.faults in (
      d.stays,
      (
        record {
          machine = serving n t.sets (in_service_of new);
          in_profile = c.in_profile;
          faults = c.faults + fell;
          own_faults = own_after fell k.whose c.own_faults;
        },
        (
          record {
            started = n;
            start = b.start;
            answers = t.answers;
            fell = fell;
            faults = refl;
            whose = k.whose;
            in_service = t.in_service;
            counts = λ ticket. refl;
            four = t.four;
          },
          tt,
          refl,
        ),
        record {
          agrees = record { waits = waits; in_service = refl; next = x.agrees.next; within = t.within };
          faults = omega (arith, faults, later);
          in_profile = λ p. in_profile_still (view bus) (view bus') d.stays (a.in_profile p);
          fell = k.run_fell;
          placed = k.placed;
          own = k.counted;
        },
      ),
    )
