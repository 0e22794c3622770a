-- The whole: a script that was served from the machine that holds what the card held, and a card that wasn't opened.
use Rattle.std.proofs.Common.{◌≡◌, ◌≤◌, ◌-◌, ◌+◌, ◌∙◌, ℕ, List, [], ◌∷◌, ◌++◌, Option, None, length}
use Rattle.std.proofs.Common.{Result, Ok, Err, Bool, true, sym, refl, ap, ap₂, subst, arith, append-nil}
use Rattle.std.specs.Prelude.{IfErr, IsSomeAnd, Some, false}
use Rattle.std.proofs.lemmas.Bool.{false≢true}
use Rattle.std.specs.Io.KnownBytes.{Appends}
use Rattle.text_out.proofs.WritingLemmas.{front_before}
use Rattle.mmc_bus.specs.Learned.{Stays}
use Rattle.mmc_bus.specs.Work.{Narrows}
use Rattle.mmc_card.specs.BusView.{BusView}
use Rattle.mmc_card.specs.Faults.{FallAtMost, FallNoMore}
use Rattle.mmc_card.specs.Card.{holds}
use Rattle.mmc_card.specs.Made.{Made}
use Rattle.mmc_card.specs.declared.exchange.Lines.{Lines}
use Rattle.mmc_card.specs.Profile.{InProfile}
use Rattle.mmc_card.specs.Sectors.{Sets, Within}
use Rattle.mmc_card_sim.specs.CardSpec.{refusal_of}
use Rattle.mmc_card_sim.specs.SimView.{SimView, sim_bus_view}
use Rattle.mmc_card_sim.proofs.PlanLemmas.{all_to_come}
use Rattle.mmc_card_sim.specs.declared.spec.CardSpec.{CardSpec}
use Rattle.mmc_switch.specs.Info.{IsInfo}
use Rattle.mmc_switch.specs.declared.info.Info.{Info}
use Rattle.mmc_block.specs.Device.{Agrees, AgreesCounted, DeviceView, IsOpened, unanswered_of}
use Rattle.mmc_block.specs.InOrder.{AreDecided}
use Rattle.mmc_block.specs.Machine.{Machine, Waiting, all_failed, opened}
use Rattle.mmc_block.specs.Execution.{Counted, Event as MachineEvent, Follow, Reply, opened_after, unanswered}
use Rattle.mmc_block.specs.ExecutionLaws.{ExecutionLaws}
use Rattle.mmc_block.specs.Service.{in_service_of}
use Rattle.mmc_block.specs.declared.open_fault.OpenFault.{OpenFault}
use Rattle.mmc_block.specs.declared.open_fault.OpenFault.TheVariants as Unopened
use Rattle.card_text.specs.declared.event.ScriptEvent.{ScriptEvent}
use Rattle.card_served.specs.declared.fault.ServeFault.{ServeFault}
use Rattle.card_served.specs.declared.fault.ServeFault.TheVariants.{Locked, NoCard, NoMemory}
use Rattle.card_served.specs.declared.fault.ServeFault.TheVariants.{Unsupported, Voltage, Write}
use Rattle.card_text.specs.declared.event.ScriptEvent.TheVariants.{Run}
use Rattle.cardtool.specs.Serving.{IsLaterDevice, IsNext, ServesEvents, ServesScript, Standing, due_events}
use Rattle.cardtool.specs.Serving.{standing_of, texts}
use Rattle.card_text.specs.Planning.{PlannedFault}
use Rattle.card_served.specs.New.{IsNew}
use Rattle.cardtool.specs.Whole.{IsServed, IsServedOnNewCard, IsServedOnSpec, IsUnopened, IsUnwritten}
use Rattle.cardtool.specs.Whole.{ExecutedInAnyProfile}
use Rattle.cardtool.specs.Whole.{outcome_of, status_of}
use Rattle.card_served.specs.Faults.{opening_fault}
use Rattle.cardtool.proofs.EndLemmas.{ends_answered}

-- What is known of a device that was opened, and of what was served on it.
pub record Served {B : Type 0} (view : B → BusView) (start now : DeviceView B) (limits : Lines) (made : Made)
    (before later : Sets) (fell : ℕ) : Type 0 where
  pub of_card : IsInfo limits made start.info
  pub idle : unanswered_of start ≡ 0
  pub agrees : (in_profile : Bool) → (in_profile ≡ true → InProfile made)
      → AgreesCounted view start (opened_after (view start.bus).faults in_profile before)
  pub info : now.info ≡ start.info
  pub within : (m : Machine) → Agrees view now m
      → Within later (all_failed now.info (in_service_of now.service) m.sets)
  pub faults : (view now.bus).faults ≤ (view start.bus).faults + fell

no_length : (ws : List Waiting) → length ws ≡ 0 → ws ≡ []
no_length [] none = refl
no_length (w ∷ ws) none = absurd (omega (arith, none))

none_unanswered : (m : Machine) → unanswered m ≡ 0 → (m.waits ≡ []) × (m.in_service ≡ [])
none_unanswered m none =
    (no_length m.waits (omega (arith, none)), no_length m.in_service (omega (arith, none)))

unanswered_is : {B : Type 0} (view : B → BusView) (device : DeviceView B) (m : Machine) → Agrees view device m
    → unanswered m ≡ unanswered_of device
unanswered_is view device m agrees =
    ap₂ (λ (ws vs : List Waiting). length ws + length vs) agrees.waits agrees.in_service

-- nothing in service is left to change a sector
none_to_change : (info : Info) (later : Sets) (m : Machine) → m.in_service ≡ []
    → Within later (all_failed info m.in_service m.sets) → Within later m.sets
none_to_change info later m idle within = subst (λ ws. Within later (all_failed info ws m.sets)) idle within

module _ {B : Type 0} (view : B → BusView) (start now : DeviceView B) (limits : Lines) (made : Made)
    (before later : Sets)
    (fell : ℕ) (laws : ExecutionLaws) (decided : AreDecided before) (device : Served view start now limits made before later fell)
    (script : List ScriptEvent) where
  -- an execution from the machine that holds what the card held, over the sectors that the device has then
  executed_over_sectors : (left : List ScriptEvent) (events : List MachineEvent) (replies : List Reply)
      → ServesEvents view start now (script ++ Run ∷ []) left events replies
      → ExecutedInAnyProfile made start.info before later fell (script ++ Run ∷ []) (due_events (unanswered_of now) left)
      events replies
  executed_over_sectors left events replies served = λ in_profile profile.
      let earlier = (view start.bus).faults in
      let first = opened_after earlier in_profile before in
      let left_now = due_events (unanswered_of now) left in
      let (last, executed, agrees) = (served.executed first (device.agrees in_profile profile)).1 in
      let plain = laws.counted start.info first events replies last executed in
      let count = unanswered_is view now last.machine agrees.agrees in
      let fewer : last.faults ≤ earlier + fell = subst (λ k. k ≤ earlier + fell) (sym agrees.faults) device.faults in
      let follows : Follow IsNext (standing_of 0 (script ++ Run ∷ [])) events replies
      (standing_of (unanswered_of now) left) =
      subst (λ k. Follow IsNext (standing_of k (script ++ Run ∷ [])) events replies
      (standing_of (unanswered_of now) left)) device.idle served.of_script in
      let within : Within later (all_failed start.info last.machine.in_service last.machine.sets) =
      subst (λ i. Within later (all_failed i last.machine.in_service last.machine.sets)) device.info
      (subst (λ ws. Within later (all_failed now.info ws last.machine.sets)) (sym agrees.agrees.in_service)
      (device.within last.machine agrees.agrees)) in
      record {
        last = last;
        earlier = earlier;
        executed = executed;
        fewer = fewer;
        of_script = subst (λ k. Follow IsNext (standing_of 0 (script ++ Run ∷ [])) events replies
            (let s : Standing = record { pending = k; left = left_now } in s)) (sym count) follows;
        within = within;
        all_answered = λ none.
            none_unanswered last.machine (count ∙ ends_answered script events replies
            (standing_of (unanswered_of now) left) follows none);
        in_order = laws.order start.info (opened before) events replies last.machine decided refl refl plain;
        ends_in_order = λ idle contents may_hold.
            laws.ends start.info (opened before) events replies last.machine later contents decided refl refl plain
            (none_to_change start.info later last.machine idle within) may_hold;
        four_each = λ profile.
            let all = laws.faults start.info first events replies last profile refl refl executed in
            omega (arith, all, fewer);
      }

  pub is_served : {E : Type 0} (old new : Option (List ℕ)) (r : Result Bool E)
      → ServesScript view start now (script ++ Run ∷ []) old new r
      → IsServed limits made before later fell (script ++ Run ∷ []) None old new (outcome_of r)
  is_served old new (Ok bad) served = record {
    info = start.info;
    of_card = device.of_card;
    events = served.events;
    replies = served.replies;
    execution = executed_over_sectors [] served.events served.replies served.execution;
    text_after = [];
    traced = refl;
    printed = subst (Appends old new) (sym (append-nil (texts served.events served.replies))) served.printed;
    status_is = ap status_of served.bad_is;
  }
  is_served old new (Err e) served = record {
    info = start.info;
    of_card = device.of_card;
    events = served.events;
    replies = served.replies;
    left = due_events (unanswered_of now) served.left;
    execution = executed_over_sectors served.left served.events served.replies served.execution;
    text_after = [];
    traced = refl;
    printed = front_before old new (texts served.events served.replies) [] served.printed;
  }

-- what stays of a card while a script is served, whether its text went out or not
script_stays : {B E : Type 0} (view : B → BusView) (start now : DeviceView B) (script : List ScriptEvent)
    (old new : Option (List ℕ)) (r : Result Bool E) (c : Counted) → AgreesCounted view start c
    → ServesScript view start now script old new r → Stays (view start.bus) (view now.bus)
script_stays view start now script old new (Ok bad) c agrees served = (served.execution.executed c agrees).0
script_stays view start now script old new (Err e) c agrees served = (served.execution.executed c agrees).0

-- a device that was just opened, and the machine that may hold no less than its card
agrees_wider : {B : Type 0} (view : B → BusView) (device : DeviceView B) (faults : ℕ) (in_profile : Bool) (sets : Sets)
    → in_service_of device.service ≡ [] → Within (holds (view device.bus).card) sets
    → AgreesCounted view device (opened_after faults in_profile (holds (view device.bus).card))
    → AgreesCounted view device (opened_after faults in_profile sets)
agrees_wider view device faults in_profile sets idle within agrees = record {
  agrees = record {
    waits = agrees.agrees.waits;
    in_service = agrees.agrees.in_service;
    next = agrees.agrees.next;
    within = subst (λ ws. Within (holds (view device.bus).card) (all_failed device.info ws sets)) (sym idle) within;
  };
  faults = agrees.faults;
  in_profile = agrees.in_profile;
  fell = agrees.fell;
  placed = agrees.placed;
  own = agrees.own;
}

pub kept_at_end : {B : Type 0} (view : B → BusView) (last now : B) → last ≡ now → (view last).is_kept ≡ true
    → (view now).is_kept ≡ true
kept_at_end view last now same kept = subst (λ b. (view b).is_kept ≡ true) same kept

module _ {B : Type 0} (view : B → BusView) (start now : DeviceView B) (first last : B)
    (info : (view start.bus).is_kept ≡ true → IsInfo (view first).limits (view first).card.made start.info)
    (waits : start.waits ≡ []) (idle : in_service_of start.service ≡ [])
    (opens : (view start.bus).is_kept ≡ true → Stays (view first) (view start.bus) × Narrows (view first) (view start.bus))
    (machine : (view start.bus).is_kept ≡ true → (c : Counted) → IsOpened (view start.bus) c → AgreesCounted view start c)
    (later : IsLaterDevice view start now) (ends : last ≡ now.bus)
    (within : (m : Machine) → Agrees view now m
    → Within (holds (view last).card) (all_failed now.info (in_service_of now.service) m.sets))
    (kept : (view last).is_kept ≡ true) where
  was_kept : (view start.bus).is_kept ≡ true
  was_kept = later.kept (kept_at_end view last now.bus ends kept)

  -- a device that was opened on a bus, and served, and closed
  pub served_device : Served view start now (view first).limits (view first).card.made (holds (view first).card) (holds (view last).card)
      ((view last).faults - (view first).faults)
  served_device =
      let (stays, narrows) = opens was_kept in record {
        of_card = info was_kept;
        idle = ap₂ (λ (ws vs : List Waiting). length ws + length vs) waits idle;
        agrees = λ in_profile profile.
            agrees_wider view start (view start.bus).faults in_profile (holds (view first).card) idle narrows
            (machine was_kept (opened_after (view start.bus).faults in_profile (holds (view start.bus).card))
            (record {
              machine = refl;
              faults = refl;
              in_profile = λ is. subst InProfile (sym stays.carried.made) (profile is);
            }));
        info = later.info;
        within = within;
        faults =
            let before = stays.later in
            let at_last : (view last).faults ≡ (view now.bus).faults = ap (λ b. (view b).faults) ends in
            omega (arith, before, at_last);
      }

  -- no more faults are to fall than before it was opened
  pub bounded_device : {E : Type 0} (script : List ScriptEvent) (old new : Option (List ℕ)) (r : Result Bool E)
      → ServesScript view start now script old new r → FallNoMore (view first) (view last)
  bounded_device script old new r served =
      let (stays, narrows) = opens was_kept in
      let c : Counted = opened_after (view start.bus).faults false (holds (view start.bus).card) in
      let agrees = machine was_kept c (record { machine = refl; faults = refl; in_profile = λ is. absurd (false≢true is) }) in
      let after = script_stays view start now script old new r c agrees served in
      λ most few. subst (λ b. FallAtMost most (view b)) (sym ends) (after.bounded most (stays.bounded most few))

pub unwritten : {E : Type 0} (old new : Option (List ℕ)) (r : Result Bool E)
    → IfErr (outcome_of r) (λ fault. IsUnwritten old new fault)
unwritten old new (Ok bad) = tt
unwritten old new (Err e) = λ other. absurd (other refl)

left_alone : {B : Type 0} (view : B → BusView) (first last : B) (old : Option (List ℕ))
    → Narrows (view first) (view last)
    → (InProfile (view first).card.made → (view first).faults + 3 ≤ (view last).faults)
    → IsUnopened (view first).card.made (holds (view first).card) (holds (view last).card)
    ((view last).faults - (view first).faults) old old
left_alone view first last old within three = record {
  unwritten = refl;
  within = within;
  three_fell = λ profile. omega (arith, three profile);
}

-- a card that wasn't opened
pub unopened : {B : Type 0} (view : B → BusView) (first last : B) (script : List ScriptEvent) (old : Option (List ℕ))
    (fault : OpenFault) → (fault ≡ Unopened.NoMemory → ⊥)
    → Narrows (view first) (view last)
    → (InProfile (view first).card.made → (view first).faults + 3 ≤ (view last).faults)
    → IsServed (view first).limits (view first).card.made (holds (view first).card) (holds (view last).card)
    ((view last).faults - (view first).faults) script None old old (Err (opening_fault fault))
unopened view first last script old Unopened.NoMemory never within three = absurd (never refl)
unopened view first last script old Unopened.NoCard never within three = left_alone view first last old within three
unopened view first last script old Unopened.Voltage never within three = left_alone view first last old within three
unopened view first last script old Unopened.Unsupported never within three = left_alone view first last old within three
unopened view first last script old Unopened.Locked never within three = left_alone view first last old within three

-- A script that was served on the card of a spec.

fell_few : (may_fall : Option ℕ) (fell most : ℕ) → IsSomeAnd may_fall (λ more. fell + more ≤ most) → fell ≤ most
fell_few None fell most bounded = absurd bounded
fell_few (Some more) fell most bounded = omega (arith, bounded)

module _ (spec : CardSpec) (plan : List PlannedFault) (unrefused : refusal_of spec ≡ None) (sim : SimView)
    (is_new : IsNew spec plan sim) (later : BusView) (bounded : FallNoMore (sim_bus_view sim) later)
    (script : List ScriptEvent) (trace : Option ℕ) (old new : Option (List ℕ)) where
  -- no more faults fell than were planned
  few_fell : later.faults - sim.faults ≤ length plan
  few_fell =
      let none = is_new.unused.faults in
      let others = is_new.no_others in
      let to_come = all_to_come sim.plan sim.wire.exchanges in
      let fell = fell_few later.may_fall later.faults (length plan)
      (bounded (length plan) (omega (arith, none, others, to_come))) in
      omega (arith, fell)

  on_new_card : (r : Result ℕ ServeFault)
      → IsServed sim.wire.limits sim.card.made (holds sim.card) (holds later.card) (later.faults - sim.faults)
      (script ++ Run ∷ []) trace old new r
      → (refusal_of spec ≡ None) × IsServedOnNewCard spec plan script trace old new r
  on_new_card r served = (
    unrefused,
    record {
      sim = sim;
      is_new = is_new;
      later = holds later.card;
      fell = later.faults - sim.faults;
      few = few_fell;
      served =
          subst (λ l. IsServed l sim.card.made (holds sim.card) (holds later.card) (later.faults - sim.faults)
          (script ++ Run ∷ []) trace old new r) is_new.unused.limits served;
    },
  )

  pub on_spec : (r : Result ℕ ServeFault)
      → IsServed sim.wire.limits sim.card.made (holds sim.card) (holds later.card) (later.faults - sim.faults)
      (script ++ Run ∷ []) trace old new r
      → IsServedOnSpec spec plan script trace old new r
  on_spec (Ok status) served = on_new_card (Ok status) served
  on_spec (Err Write) served = on_new_card (Err Write) served
  on_spec (Err NoMemory) served = (unrefused, served.1)
  on_spec (Err NoCard) served = on_new_card (Err NoCard) served
  on_spec (Err Voltage) served = on_new_card (Err Voltage) served
  on_spec (Err Unsupported) served = on_new_card (Err Unsupported) served
  on_spec (Err Locked) served = on_new_card (Err Locked) served
  on_spec (Err fault) served = absurd served
