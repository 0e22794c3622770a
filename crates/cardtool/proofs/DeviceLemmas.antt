-- Calls of a device, one after the other, and what a loop of them keeps.
use Rattle.std.proofs.Common.{◌<◌, ◌≡◌, ◌∙◌, ℕ, zero, suc, List, ◌++◌, true, refl, ap, subst, arith}
use Rattle.std.specs.Prelude.{◌||◌, ◌↔◌, Bool, IsErr, Option, Result, false}
use Rattle.mmc_card.specs.BusView.{BusView}
use Rattle.mmc_queue.specs.declared.request.Request.{Request}
use Rattle.mmc_block.specs.Device.{DeviceView, Queues, Withdraws}
use Rattle.card_text.specs.declared.event.ScriptEvent.{ScriptEvent}
use Rattle.cardtool.specs.Serving.{IsLaterDevice, ServesPrefix, ServesScript, ServesUpTo}
use Rattle.cardtool.proofs.ServingLemmas.{breaks_then, serves_broken, serves_none, serves_then}

-- where work is left a request is without an answer
pub some_unanswered : (work count : ℕ) → (work ≡ 0) ↔ (count ≡ 0) → 0 < work → 0 < count
some_unanswered work zero none some = absurd (omega (arith, none.1 refl, some))
some_unanswered work (suc count) none some = omega arith

pub later_none : {B : Type 0} (view : B → BusView) (d : DeviceView B) → IsLaterDevice view d d
later_none view d = record { info = refl; kept = λ k. k }

pub later_then : {B : Type 0} (view : B → BusView) (start mid now : DeviceView B)
    → IsLaterDevice view start mid → IsLaterDevice view mid now → IsLaterDevice view start now
later_then view start mid now first second =
    record { info = second.info ∙ first.info; kept = λ k. first.kept (second.kept k) }

-- a request is queued
pub later_queued : {B : Type 0} (view : B → BusView) (old new : DeviceView B) (client ticket : ℕ) (q : Request)
    → Queues old client q ticket new → IsLaterDevice view old new
later_queued view old new client ticket q queues = record {
  info = ap (λ d. d.info) queues.waits;
  kept = λ k. subst (λ d. (view d.bus).is_kept ≡ true) queues.waits k;
}

-- a request is cancelled
pub later_cancelled : {B : Type 0} (view : B → BusView) (old new : DeviceView B) (ticket : ℕ) (q : Request)
    → Withdraws old ticket q new → IsLaterDevice view old new
later_cancelled view old new ticket q gone = record {
  info = ap (λ d. d.info) gone.waits;
  kept = λ k. subst (λ d. (view d.bus).is_kept ≡ true) gone.waits k;
}

-- What a loop keeps: the device so far, and the events that were served over a bus that is kept.
pub record ServedSoFar {B : Type 0} (view : B → BusView) (start now : DeviceView B) (script left : List ScriptEvent)
    (old new : Option (List ℕ)) (bad : Bool) : Type 0 where
  pub later_device : IsLaterDevice view start now
  pub serves : (view now.bus).is_kept ≡ true → ServesUpTo view start now script left old new bad

pub so_far_none : {B : Type 0} (view : B → BusView) (d : DeviceView B) (script : List ScriptEvent)
    (old : Option (List ℕ))
    → ServedSoFar view d d script script old old false
so_far_none view d script old =
    record { later_device = later_none view d; serves = λ k. serves_none view d script old }

pub so_far_then : {B : Type 0} (view : B → BusView) (start mid now : DeviceView B)
    (script fs left rest : List ScriptEvent)
    (old between new : Option (List ℕ)) (x y : Bool)
    → ServedSoFar view start mid script (fs ++ left) old between x → IsLaterDevice view mid now
    → ((view now.bus).is_kept ≡ true → ServesUpTo view mid now fs rest between new y)
    → ServedSoFar view start now script (rest ++ left) old new (y || x)
so_far_then view start mid now script fs left rest old between new x y so_far later serves = record {
  later_device = later_then view start mid now so_far.later_device later;
  serves = λ k. serves_then view start mid now script fs left rest old between new x y so_far.later_device.info
      (so_far.serves (later.kept k)) (serves k);
}

pub so_far_broken : {B E : Type 0} (view : B → BusView) (start mid now : DeviceView B)
    (script fs left : List ScriptEvent)
    (old between new : Option (List ℕ)) (x : Bool) (r : Result Bool E) → IsErr r
    → ServedSoFar view start mid script (fs ++ left) old between x → IsLaterDevice view mid now
    → ((view now.bus).is_kept ≡ true → ServesPrefix view mid now fs between new)
    → (view now.bus).is_kept ≡ true → ServesScript view start now script old new r
so_far_broken view start mid now script fs left old between new x r failed so_far later serves = λ k.
    serves_broken view start now script old new r failed
    (breaks_then view start mid now script fs left old between new x so_far.later_device.info
    (so_far.serves (later.kept k)) (serves k))
