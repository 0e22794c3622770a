-- What a device with its history keeps true is so of a card that was opened, stays so from call to call, and tells what was served.
use Rattle.std.proofs.Common.{[], ap, refl, subst, sym, ◌*◌, ◌++◌, ◌+◌, ◌∙◌, ◌∷◌, ◌≡◌, ◌≤◌, Bool, List, arith, false, length, true, ℕ}
use Rattle.std.specs.Prelude.{◌↔◌, Err, IfOk, Ok, OnErr, Result, reverse}
use Rattle.std.proofs.lemmas.List.{map_push, reverse-append}
use Rattle.mmc_card.specs.BusView.{BusView}
use Rattle.mmc_card.specs.Card.{Card, holds}
use Rattle.mmc_card.specs.Laws.{Carried}
use Rattle.mmc_card.specs.Sectors.{Within}
use Rattle.mmc_block.specs.Answers.{failures}
use Rattle.mmc_block.specs.Device.{Agrees, AgreesCounted, Comes, DeviceView, IsOpened, unanswered_of, work_of}
use Rattle.mmc_block.specs.Execution.{Counted, CountedSteps, Event, Follow, IsCountedExecution, Reply, opened_after}
use Rattle.mmc_block.specs.ClientLaws.{ClientsSee, event_of, events, replies, reply_of}
use Rattle.mmc_block.specs.Clients.{Told}
use Rattle.mmc_block.specs.ExecutionLaws.{ExecutionLaws}
use Rattle.mmc_block.specs.InOrder.{AreDecided, answers}
use Rattle.mmc_block.specs.Machine.{IsMerged, Machine, Waiting, all_failed, opened as machine_of}
use Rattle.mmc_block.specs.Service.{in_service_of}
use Rattle.mmc_block.proofs.ServiceLemmas.{merged_length}
use Rattle.mmc_history.specs.Beside.{HoldsBeside}
use Rattle.mmc_history.specs.Groups.{AreGrouped}
use Rattle.mmc_history.specs.History.{Continues, DeviceHistory, HasServed}
use Rattle.mmc_history.specs.Order.{AreInOrder}
use Rattle.mmc_history.specs.Serving.{Agreed, IsServing}

-- ---- one call more

-- a step at the end
follow_then : {S : Type 0} (Steps : S → Event → Reply → S → Type 0) (old mid new : S) (es : List Event) (rs : List Reply) (e : Event)
    (r : Reply) → Follow Steps old es rs mid → Steps mid e r new → Follow Steps old (es ++ e ∷ []) (rs ++ r ∷ []) new
follow_then Steps old mid new [] [] e r is h = (new, subst (λ s. Steps s e r new) is h, refl)
follow_then Steps old mid new [] (s ∷ rs) e r is h = absurd is
follow_then Steps old mid new (f ∷ es) [] e r is h = absurd is
follow_then Steps old mid new (f ∷ es) (s ∷ rs) e r (next, step, rest) h =
    (next, step, follow_then Steps next mid new es rs e r rest h)

-- a call at the front of a diary is the last one
pub one_more : (call : Told) (past : List Told) → reverse (call ∷ past) ≡ reverse past ++ call ∷ []
one_more call past = reverse-append (call ∷ []) past

-- what stays of a card stays from step to step
same_card : (card : Card) → Carried card card
same_card card = record { made = refl; sizes = λ part. refl }

carried_on : (old mid new : Card) → Carried old mid → Carried mid new → Carried old new
carried_on old mid new first then = record {
  made = then.made ∙ first.made;
  sizes = λ part. then.sizes part ∙ first.sizes part;
}

empty : (xs : List Waiting) → length xs ≡ 0 → xs ≡ []
empty [] e = refl
empty (x ∷ xs) e = absurd (omega (arith, e))

module _ {B : Type 0} (view : B → BusView) (opened : BusView) where
  abbrev first : Bool → Counted
  first profile = opened_after opened.faults profile (holds opened.card)

  pub serves_from : (device : DeviceView B) → opened ≡ view device.bus → AreDecided (holds (view device.bus).card)
      → ((c : Counted) → IsOpened (view device.bus) c → AgreesCounted view device c) → IsServing view opened device []
  serves_from device is decided agrees = record {
    decided = subst (λ (v : BusView). AreDecided (holds v.card)) (sym is) decided;
    carried = subst (λ (v : BusView). Carried v.card (view device.bus).card) (sym is) (same_card (view device.bus).card);
    agreed = λ profile in_profile. record {
      counted = first profile;
      executed = refl;
      agrees = agrees (first profile) (subst (λ v. IsOpened v (first profile)) is (record {
        machine = refl;
        faults = refl;
        in_profile = in_profile;
      }));
    };
  }

  pub serves_on : (old new : DeviceView B) (calls : List Told) (call : Told) → new.info ≡ old.info
      → Comes view old (λ (c n : Counted). CountedSteps old.info c (event_of call) (reply_of call) n) new → IsServing view opened old calls
      → IsServing view opened new (calls ++ call ∷ [])
  serves_on old new calls call same comes served = record {
    decided = served.decided;
    carried = let before = served.agreed false (λ h. cc h) in
        carried_on opened.card (view old.bus).card (view new.bus).card served.carried
        (comes before.counted before.agrees).0.carried;
    agreed = λ profile in_profile.
        let before = served.agreed profile in_profile in
        let (next, step, agrees) = (comes before.counted before.agrees).1 in
        let longer : IsCountedExecution old.info (first profile) (events calls ++ event_of call ∷ []) (replies calls ++ reply_of call ∷ []) next =
        follow_then (CountedSteps old.info) (first profile) before.counted next (events calls) (replies calls) (event_of call)
        (reply_of call) before.executed step in
        record {
          counted = next;
          executed = subst (λ i. IsCountedExecution i (first profile) (events (calls ++ call ∷ [])) (replies (calls ++ call ∷ [])) next)
              (sym same)
              (subst (λ rs. IsCountedExecution old.info (first profile) (events (calls ++ call ∷ [])) rs next)
              (sym (map_push reply_of calls call))
              (subst (λ es. IsCountedExecution old.info (first profile) es (replies calls ++ reply_of call ∷ []) next)
              (sym (map_push event_of calls call)) longer));
          agrees = agrees;
        };
  }

  -- ---- what was served

  -- nothing is left exactly where nothing is without an answer
  none_left : (left waiting : ℕ) (xs : List Waiting) → (left ≡ 0) ↔ (waiting ≡ 0) → length xs ≡ waiting → (left ≡ 0) ↔ (xs ≡ [])
  none_left left waiting xs none count =
      (λ is. empty xs (count ∙ none.0 is), λ is. none.1 (sym count ∙ ap length is))

  within_served : (device : DeviceView B) (machine : Machine) → Agrees view device machine
      → Within (holds (view device.bus).card) (all_failed device.info machine.in_service machine.sets)
  within_served device machine agrees =
      subst (λ ws. Within (holds (view device.bus).card) (all_failed device.info ws machine.sets))
      (sym {a = machine.in_service} {b = in_service_of device.service} agrees.in_service) agrees.within

  -- a machine to which the calls have come, and with which the device agrees
  pub record Met (device : DeviceView B) (calls : List Told) : Type 0 where
    pub machine : Machine
    pub agrees : Agrees view device machine
    pub groups : AreGrouped device.info opened.card (view device.bus).card calls machine

  met : (laws : ExecutionLaws) (device : DeviceView B) (calls : List Told) → IsServing view opened device calls → Met device calls
  met laws device calls served =
      let plain = served.agreed false (λ h. cc h) in
      record {
        machine = plain.counted.machine;
        agrees = plain.agrees.agrees;
        groups = record {
          executed = laws.counted device.info (first false) (events calls) (replies calls) plain.counted plain.executed;
          contents = within_served device plain.counted.machine plain.agrees.agrees;
        };
      }

  -- as many are without an answer
  count_met : (device : DeviceView B) (machine : Machine) (outstanding : List Waiting) → Agrees view device machine
      → IsMerged outstanding machine.in_service machine.waits → length outstanding ≡ unanswered_of device
  count_met device machine outstanding agrees merged =
      let all = merged_length outstanding machine.in_service machine.waits merged in
      let waits = ap length agrees.waits in
      let in_service = ap length agrees.in_service in
      omega (arith, all, waits, in_service)

  tells_met : (see : ClientsSee) (device : DeviceView B) (calls : List Told) (none : (work_of device ≡ 0) ↔ (unanswered_of device ≡ 0))
      → Carried opened.card (view device.bus).card → Met device calls
      → HasServed device.info opened.card (view device.bus).card calls (work_of device)
  tells_met see device calls none carried it =
      let clients = see device.info (holds opened.card) calls it.machine it.groups.executed in
      record {
        machine = clients.seen;
        executed = clients.executed;
        contents = λ p s v h. clients.contents p s v (it.groups.contents p s v h);
        answered = none_left (work_of device) (unanswered_of device) clients.seen.outstanding none
            (count_met device it.machine clients.seen.outstanding it.agrees clients.outstanding);
        carried = (carried.made, carried.sizes);
      }

  pub tells : (laws : ExecutionLaws) (see : ClientsSee) (device : DeviceView B) (calls : List Told)
      → (work_of device ≡ 0) ↔ (unanswered_of device ≡ 0) → IsServing view opened device calls
      → HasServed device.info opened.card (view device.bus).card calls (work_of device)
  tells laws see device calls none served = tells_met see device calls none served.carried (met laws device calls served)

  -- ---- and what holds beside

  failures_take_faults : (laws : ExecutionLaws) (device : DeviceView B) (calls : List Told) → Agreed view opened device calls true
      → opened.faults + 4 * failures (answers (replies calls)) ≤ (view device.bus).faults
  failures_take_faults laws device calls four =
      let all = laws.faults device.info (first true) (events calls) (replies calls) four.counted refl refl refl four.executed in
      subst (λ n. opened.faults + 4 * failures (answers (replies calls)) ≤ n) four.agrees.faults all

  in_order : (laws : ExecutionLaws) (device : DeviceView B) (calls : List Told) → AreDecided (holds opened.card)
      → (it : Met device calls) → AreInOrder device.info opened.card (view device.bus).card calls it.machine
  in_order laws device calls decided it = record {
    reads = laws.order device.info (machine_of (holds opened.card)) (events calls) (replies calls) it.machine decided refl refl
        it.groups.executed;
    ends = λ idle contents may_hold.
        laws.ends device.info (machine_of (holds opened.card)) (events calls) (replies calls) it.machine
        (holds (view device.bus).card) contents decided refl refl it.groups.executed
        (subst (λ ws. Within (holds (view device.bus).card) (all_failed device.info ws it.machine.sets)) idle it.groups.contents)
        may_hold;
  }

  pub tells_beside : (laws : ExecutionLaws) (see : ClientsSee) (device : DeviceView B) (calls : List Told)
      → IsServing view opened device calls → HoldsBeside device.info opened (view device.bus) calls
  tells_beside laws see device calls served =
      let it = met laws device calls served in
      let clients = see device.info (holds opened.card) calls it.machine it.groups.executed in
      record {
        failures = λ profile. failures_take_faults laws device calls (served.agreed true (λ h. profile));
        refusals = (clients.seen, clients.refusing);
        machine = it.machine;
        groups = it.groups;
        in_order = in_order laws device calls served.decided it;
      }

  -- ---- a call of the device

  -- what contracts see of a device to which these calls were made, the last one first
  abbrev pub seen : DeviceView B → List Told → DeviceHistory B
  seen device past = record {
    bus = device.bus;
    info = device.info;
    opened = opened;
    calls = reverse past;
    work_left = work_of device;
  }

  -- a call came to this with the device, and was noted
  pub goes_on : (call : Told) (old new : DeviceView B) (past longer : List Told) → longer ≡ call ∷ past → new.info ≡ old.info
      → ((view new.bus).is_kept ≡ true → (view old.bus).is_kept ≡ true)
      → ((view new.bus).is_kept ≡ true → Comes view old (λ (c n : Counted). CountedSteps old.info c (event_of call) (reply_of call) n) new)
      → ((view old.bus).is_kept ≡ true → IsServing view opened old (reverse past))
      → (view new.bus).is_kept ≡ true → IsServing view opened new (reverse longer)
  goes_on call old new past longer noted info kept comes served now =
      subst (IsServing view opened new) (sym (ap reverse noted ∙ one_more call past))
      (serves_on old new (reverse past) call info (comes now) (served (kept now)))

  pub continues : (laws : ExecutionLaws) (see : ClientsSee) (call : Told) (old new : DeviceView B) (past longer : List Told)
      (shown : DeviceHistory B) → seen old past ≡ shown → longer ≡ call ∷ past → new.info ≡ old.info
      → (work_of new ≡ 0) ↔ (unanswered_of new ≡ 0)
      → ((view new.bus).is_kept ≡ true → IsServing view opened new (reverse longer))
      → Continues view shown call (seen new longer)
  continues laws see call old new past longer shown is noted info none served =
      subst (λ before. Continues view before call (seen new longer)) is (record {
        calls = ap reverse noted ∙ one_more call past;
        info = info;
        opened = refl;
        served = λ now. tells laws see new (reverse longer) none (served now);
      })

-- ---- what stays in a call that makes no exchange

pub bus_and_info : {B : Type 0} (a b : DeviceView B) → a ≡ b → (a.bus ≡ b.bus) × (a.info ≡ b.info)
bus_and_info {B = B} a b same = (ap (λ (d : DeviceView B). d.bus) same, ap (λ (d : DeviceView B). d.info) same)

-- it changes what waits alone, or nothing
pub same_by : {A E B : Type 0} {Changes : A → Type 0} (old new : DeviceView B) (reply : Result A E) → IfOk reply Changes
    → ((x : A) → Changes x → (new.bus ≡ old.bus) × (new.info ≡ old.info)) → OnErr reply (new ≡ old)
    → (new.bus ≡ old.bus) × (new.info ≡ old.info)
same_by old new (Ok x) changes stays refused = stays x changes
same_by old new (Err why) changes stays refused = bus_and_info new old refused

pub kept_by : {B : Type 0} (view : B → BusView) (old new : B) → new ≡ old → (view new).is_kept ≡ true → (view old).is_kept ≡ true
kept_by view old new is kept = subst (λ b. (view b).is_kept ≡ true) is kept
