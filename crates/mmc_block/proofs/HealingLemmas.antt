-- What a turn adds to the counts of what was met and healed.
use Rattle.std.proofs.Common.{◌+◌, ◌++◌, ◌<◌, ◌∙◌, ◌∷◌, ◌≡◌, List, [], Bool, ap, arith, inl, inr, length, refl, subst, sym}
use Rattle.std.specs.Prelude.{IfSome, None, Option, Some, map}
use Rattle.mmc_card.specs.BusView.{BusView}
use Rattle.mmc_queue.specs.declared.entry.Entry.{Entry}
use Rattle.mmc_recovery.specs.Settled.{TellsReset}
use Rattle.mmc_recovery.specs.declared.order.Patience.TheVariants.{Once}
use Rattle.mmc_recovery.specs.declared.healed.Healed.{Healed}
use Rattle.mmc_switch.specs.declared.broken.Broken.{Broken}
use Rattle.mmc_switch.specs.declared.progress.Progress.{Progress}
use Rattle.mmc_switch.specs.declared.progress.Progress.TheVariants.{Done, Failed, More}
use Rattle.mmc_switch.specs.declared.session.Session.{Session}
use Rattle.mmc_block.specs.Device.{DeviceView, unanswered_of}
use Rattle.mmc_block.specs.Entries.{completion_of, waits_of}
use Rattle.mmc_block.specs.Healing.{StepHeals, TurnHeals, after_attempt, after_outcome, after_settling, broken_at, broken_in}
use Rattle.mmc_block.specs.Healing.Noted.{Attempted, Met, Settled}
use Rattle.mmc_block.specs.Healing.{Noted, OnlyAdds, ready_at, ready_in, ready_then, with_all, with_noted}
use Rattle.mmc_block.specs.Machine.{Waiting}
use Rattle.mmc_block.specs.Service.{AfterFailure, Concludes, GoesOnReady, HasStarted, IsNext, Service, in_service_of}
use Rattle.mmc_block.specs.Service.Service.{Idle, Serving, Taken}
use Rattle.mmc_block.specs.declared.completion.Completion.{Completion}
use Rattle.mmc_block.specs.declared.service.Attempt.{Attempt}
use Rattle.mmc_switch.specs.declared.stands.Stands.{Stands}
use Rattle.mmc_block.specs.declared.service.Stage.{Stage}
use Rattle.mmc_block.specs.declared.service.Stage.TheVariants.{At, Running}

-- Where nothing is in service after a start, nothing was without an answer.
none_unanswered : (old left : List Entry) (service : Service) (stands : Stands) → HasStarted old service left (Idle stands)
    → length (waits_of old) + length (in_service_of service) ≡ 0
none_unanswered old left (Idle last) stands (inl s) = rw s.0 refl
none_unanswered old left (Idle last) stands (inr s) = let e = s.1 in cc
none_unanswered old left (Serving st attempt) stands s = let e = s.0 in cc
none_unanswered old left Taken stands s = absurd s

pub idle_heals : {B : Type 0} (view : B → BusView) (old new : DeviceView B) (entries left : List Entry) (stands : Stands)
    (cs : List Completion) → HasStarted entries old.service left (Idle stands) → old.waits ≡ waits_of entries
    → 0 < unanswered_of old → TurnHeals view old cs new
idle_heals view old new entries left stands cs s waits some =
    let none = none_unanswered entries left old.service stands s in
    let n = ap (λ (ws : List Waiting). length ws) waits in
    absurd (omega (arith, none, n, some))

-- What goes into service is at the card of the device.
started_at : (old left : List Entry) (service : Service) (stage : Stage) (attempt : Attempt)
    → HasStarted old service left (Serving stage attempt) → broken_at stage ≡ broken_in service
started_at old left (Idle stands) stage attempt (inl s) = let e = s.2 in cc
started_at old left (Idle stands) stage attempt (inr s) = let e = s.1 in ap broken_in e
started_at old left (Serving st attempt') stage attempt s = ap broken_in s.0
started_at old left Taken stage attempt s = absurd s

-- A service whose card is so.
record StandsAt (stage : Stage) (service : Service) : Type 0 where
  pub broken : broken_in service ≡ broken_at stage
  pub ready : ready_in service ≡ ready_at stage

next_at : (stands : Stands) (es : List Entry) (service : Service) → IsNext stands es service → StandsAt (At stands) service
next_at stands [] service next = rw next (record { broken = refl; ready = refl })
next_at stands (e ∷ es) service next = rw next.1 (record { broken = refl; ready = refl })

failed_at : (broken : Broken) (members others : List Entry) (service : Service) (cs : List Completion)
    → AfterFailure broken members others service cs → StandsAt (At (Stands.Broken broken)) service
failed_at broken [] others service cs after = absurd after
failed_at broken (e ∷ []) others service cs after = next_at (Stands.Broken broken) others service after.0
failed_at broken (e ∷ f ∷ es) others service cs after = next_at (Stands.Broken broken) (e ∷ f ∷ es) service after.0

-- The outcome of a step is what the device shows after it.
record Shows (o : Progress Stage) (service : Service) (cs : List Completion) (healed : Healed) : Type 0 where
  pub counted : after_outcome o healed ≡ after_attempt (broken_in service) cs healed
  pub ready : ready_then o ≡ ready_in service

shows_done : (session : Session) (members : List Entry) (service : Service) (cs : List Completion) (healed : Healed)
    → 0 < length members → cs ≡ map completion_of members → StandsAt (At (Stands.Ready session)) service
    → Shows (Done session) service cs healed
shows_done session [] service cs healed some is at = absurd (omega (arith, some))
shows_done session (m ∷ ms) service cs healed some is at =
    record { counted = rw (is, at.broken) refl; ready = sym at.ready }

shows_failed : (broken : Broken) (service : Service) (cs : List Completion) (healed : Healed)
    → StandsAt (At (Stands.Broken broken)) service → Shows (Failed broken) service cs healed
shows_failed broken service cs healed at = record { counted = rw at.broken refl; ready = sym at.ready }

concluded_shows : (o : Progress Stage) (attempt : Attempt) (service : Service) (cs : List Completion) (healed : Healed)
    → Concludes o attempt service cs → GoesOnReady o → 0 < length attempt.group.members.items → Shows o service cs healed
concluded_shows (More (At (Stands.Ready session))) attempt service cs healed c on some =
    rw (c.0, c.1) (record { counted = refl; ready = refl })
concluded_shows (More (At (Stands.Broken broken))) attempt service cs healed c on some = absurd on
concluded_shows (More (Running work)) attempt service cs healed c on some =
    rw (c.0, c.1) (record { counted = refl; ready = refl })
concluded_shows (Done session) attempt service cs healed c on some =
    shows_done session attempt.group.members.items service cs healed some c.1
    (next_at (Stands.Ready session) attempt.others.items service c.0)
concluded_shows (Failed broken) attempt service cs healed (inl c) on some =
    shows_failed broken service cs healed (rw c.1 (record { broken = refl; ready = refl }))
concluded_shows (Failed broken) attempt service cs healed (inr c) on some =
    shows_failed broken service cs healed (failed_at broken attempt.group.members.items attempt.others.items service cs c.1)

abbrev Tells : Option Broken → BusView → Option Session → Bool → BusView → Type 0
Tells settled was session was_reset now = IfSome settled (λ broken. TellsReset Once broken was session was_reset now)

pub turn_heals : {B : Type 0} (view : B → BusView) (old new : DeviceView B) (entries left : List Entry) (stage : Stage)
    (attempt after : Attempt) (o : Progress Stage) (cs : List Completion) (mid : Healed)
    → HasStarted entries old.service left (Serving stage attempt) → 0 < length after.group.members.items → GoesOnReady o
    → Concludes o after new.service cs → StepHeals stage (view old.bus) old.healed o (view new.bus) mid
    → new.healed ≡ after_outcome o mid → TurnHeals view old cs new
turn_heals view old new entries left stage attempt after o cs mid begun some on concludes step noted =
    let at = started_at entries left old.service stage attempt begun in
    let shows = concluded_shows o after new.service cs mid concludes on some in
    let by = step.was_reset in
    record {
      was_reset = by;
      tells = subst (λ (s : Option Session). Tells (broken_in old.service) (view old.bus) s by (view new.bus)) shows.ready
          (subst (λ (b : Option Broken). Tells b (view old.bus) (ready_then o) by (view new.bus)) at step.tells);
      healed = noted ∙ shows.counted
          ∙ ap (after_attempt (broken_in new.service) cs)
          (step.healed ∙ ap (λ (b : Option Broken). after_settling b by old.healed) at);
    }

-- Turns after each other.

with_all-append : (xs ys : List Noted) (healed : Healed) → with_all (xs ++ ys) healed ≡ with_all ys (with_all xs healed)
with_all-append [] ys healed = refl
with_all-append (x ∷ xs) ys healed = with_all-append xs ys (with_noted x healed)

pub adds_none : (healed : Healed) → OnlyAdds healed healed
adds_none healed = ([], refl)

pub adds_then : (a b c : Healed) → OnlyAdds a b → OnlyAdds b c → OnlyAdds a c
adds_then a b c p q = (p.0 ++ q.0, q.1 ∙ ap (with_all q.0) p.1 ∙ sym (with_all-append p.0 q.0 a))

settling_adds : (broken : Option Broken) (was_reset : Bool) (healed : Healed)
    → OnlyAdds healed (after_settling broken was_reset healed)
settling_adds None was_reset healed = ([], refl)
settling_adds (Some broken) was_reset healed = (Settled was_reset ∷ [], refl)

attempt_adds : (broken : Option Broken) (cs : List Completion) (healed : Healed)
    → OnlyAdds healed (after_attempt broken cs healed)
attempt_adds (Some broken) cs healed = (Attempted ∷ Met broken.cause ∷ [], refl)
attempt_adds None (c ∷ cs) healed = (Attempted ∷ [], refl)
attempt_adds None [] healed = ([], refl)

pub turn_adds : {B : Type 0} (view : B → BusView) (old : DeviceView B) (cs : List Completion) (new : DeviceView B)
    → TurnHeals view old cs new → OnlyAdds old.healed new.healed
turn_adds view old cs new turn =
    let settled = after_settling (broken_in old.service) turn.was_reset old.healed in
    subst (OnlyAdds old.healed) (sym turn.healed)
    (adds_then old.healed settled _ (settling_adds (broken_in old.service) turn.was_reset old.healed)
    (attempt_adds (broken_in new.service) cs settled))
