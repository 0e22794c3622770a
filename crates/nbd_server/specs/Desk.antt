-- A desk: a device, and whose requests it has.
use Rattle.std.specs.Prelude.{List, Option, Result, [], ◌++◌, ◌+◌, ◌<◌, ◌≡◌, ◌≤◌, ◌∷◌, length, map, true, ℕ}
use Rattle.text_out.specs.Writing.{Writes}
use Rattle.mmc_card.specs.BusView.{BusView}
use Rattle.mmc_block.specs.Device.{Comes, DeviceView, unanswered_of}
use Rattle.mmc_block.specs.Execution.{Counted, IsCountedExecution}
use Rattle.mmc_block.specs.Machine.{Waiting}
use Rattle.mmc_block.specs.Service.{in_service_of}
use Rattle.mmc_block.specs.declared.completion.Completion.{Completion}
use Rattle.mmc_queue.specs.declared.queue.TheConstants.{MAX_WAITING}
use Rattle.nbd_server.specs.Acts.{Act, answered, asked, bytes_of, cookie_under, cookies_after, events_of, replies_of, times}

-- the device, and the cookies of those that it has accepted since nothing was without an answer
pub record DeskView (B : Type 0) : Type 0 where
  pub device : DeviceView B
  pub cookies : List ℕ

-- the requests without an answer
abbrev pub pending : {B : Type 0} → DeskView B → List Waiting
pending desk = desk.device.waits ++ in_service_of desk.device.service

-- the number of each client is that of a cookie
abbrev pub AreNumbered : List ℕ → List Waiting → Type 0
AreNumbered cookies [] = Unit {0}
AreNumbered cookies (w ∷ ws) = (w.client < length cookies) × AreNumbered cookies ws

-- What a desk keeps true of its fields: no answer is kept between two calls.
pub record IsKeptDesk {B : Type 0} (device : DeviceView B) (cookies : List ℕ) (given : List Completion) : Type 0 where
  pub numbered : AreNumbered cookies (device.waits ++ in_service_of device.service)
  pub each : unanswered_of device ≤ length cookies
  pub few : length cookies ≤ MAX_WAITING
  pub none : given ≡ []

-- the cookies of the requests without an answer
abbrev pub due : {B : Type 0} → DeskView B → List ℕ
due desk = map (λ (w : Waiting). cookie_under desk.cookies w.client) (pending desk)

-- These acts lead from one desk to the other: over a bus that is kept they are an execution of the sector machine with own faults.
pub record Leads {B : Type 0} (view : B → BusView) (old : DeskView B) (acts : List Act) (new : DeskView B) : Type 0 where
  pub cookies : new.cookies ≡ cookies_after old.cookies acts
  pub info : new.device.info ≡ old.device.info
  pub kept : (view new.device.bus).is_kept ≡ true → (view old.device.bus).is_kept ≡ true
  pub executed : (view new.device.bus).is_kept ≡ true → Comes view old.device
      (λ (c n : Counted). IsCountedExecution old.device.info c (events_of old.cookies acts) (replies_of acts) n) new.device

-- under each cookie as many replies went out or are due as requests were taken up or were due
abbrev pub AnswersEach : {B : Type 0} → DeskView B → List Act → DeskView B → Type 0
AnswersEach old acts new =
    (cookie : ℕ) → times cookie (due new) + times cookie (answered old.cookies acts)
    ≡ times cookie (due old) + times cookie (asked acts)

-- Both, and what the acts write went out, or after a write fault a front of it.
pub record Does {B E : Type 0} (view : B → BusView) (old new : DeskView B) (before after : Option (List ℕ))
    (result : Result (Unit {0}) E) (acts : List Act) : Type 0 where
  pub leads : Leads view old acts new
  pub once : AnswersEach old acts new
  pub written : Writes before after result (bytes_of old.cookies acts)
