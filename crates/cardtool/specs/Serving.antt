-- A script that is served on a device: the events of the machine after it, what they print, and how requests fared.
use Rattle.std.specs.Prelude.{◌≡◌, ℕ, ◌+◌, ◌-◌, ◌==◌, if◌then◌else◌, length, List, [], ◌∷◌, ◌++◌, Bool, true}
use Rattle.std.specs.Prelude.{false, ◌||◌, Option, Result, Ok, Err, IfOk}
use Rattle.std.specs.Io.KnownBytes.{Appends}
use Rattle.text_out.specs.Writing.{AppendsFront, Writes}
use Rattle.mmc_card.specs.BusView.{BusView}
use Rattle.mmc_block.specs.declared.completion.Completion.{Completion}
use Rattle.mmc_block.specs.Answers.{any_failed}
use Rattle.mmc_block.specs.Device.{Comes, DeviceView, unanswered_of}
use Rattle.mmc_block.specs.InOrder.{answers_in}
use Rattle.mmc_block.specs.Execution.{Counted, IsCountedExecution, CountedSteps, Event as MachineEvent, Follow, Reply}
use Rattle.mmc_block.specs.Execution.Event.{Cancel as MachineCancel, Submit as MachineSubmit, Turn as MachineTurn}
use Rattle.mmc_block.specs.Execution.Reply.{Accepted, Answers, GivenBack, InService, RefusedFor, Unknown}
use Rattle.mmc_block.specs.declared.cancel.CancelFault.TheVariants as fault
use Rattle.card_text.specs.declared.event.ScriptEvent.{ScriptEvent}
use Rattle.card_text.specs.declared.event.ScriptEvent.TheVariants.{Submit, Cancel, Turn, Run}
use Rattle.card_text.specs.Output.{cancelled_text, completions_text, queued_text, refused_text, uncancelled_text}

-- The events of a script.

-- an event of a script, as the machine's; a `run` is turns
abbrev pub machine_event : ScriptEvent → MachineEvent
machine_event (Submit client request) = MachineSubmit client request
machine_event (Cancel ticket) = MachineCancel ticket
machine_event Turn = MachineTurn
machine_event Run = MachineTurn

-- what is still to be served while so many requests await an answer; a `run` is over once none does
abbrev pub due_events : ℕ → List ScriptEvent → List ScriptEvent
due_events pending [] = []
due_events pending (Run ∷ script) = if pending == 0 then due_events pending script else Run ∷ script
due_events pending (event ∷ script) = event ∷ script

-- what is left after an event: a `run` goes on
abbrev pub events_after : ScriptEvent → List ScriptEvent → List ScriptEvent
events_after Run script = Run ∷ script
events_after event script = script

-- how many requests have no answer after this reply
abbrev pub pending_after : ℕ → Reply → ℕ
pending_after pending (Accepted ticket) = pending + 1
pending_after pending (Answers completions) = pending - length completions
pending_after pending (GivenBack request) = pending - 1
pending_after pending reply = pending

-- where a script stands: how many requests have no answer, and what is to be served
pub record Standing : Type 0 where
  pub pending : ℕ
  pub left : List ScriptEvent

-- where a script stands with so many requests unanswered: what is due
abbrev pub standing_of : ℕ → List ScriptEvent → Standing
standing_of pending script = record { pending = pending; left = due_events pending script }

-- the script's next event, and where it stands after the reply
pub record IsNext (old : Standing) (event : MachineEvent) (reply : Reply) (new : Standing) : Type 0 where
  pub next : ScriptEvent
  pub later : List ScriptEvent
  pub first : old.left ≡ next ∷ later
  pub event_is : event ≡ machine_event next
  pub new_is : new ≡ standing_of (pending_after old.pending reply) (events_after next later)

-- These events with their replies are the script's, up to where it stands then.
abbrev pub FollowScript : List ScriptEvent → List MachineEvent → List Reply → Standing → Type 0
FollowScript script events replies now = Follow IsNext (standing_of 0 script) events replies now

-- What is printed, and how requests fared.

-- the lines that an event with its reply prints
unfoldable pub text_of : MachineEvent → Reply → List ℕ
text_of (MachineSubmit client request) (Accepted ticket) = queued_text ticket client
text_of (MachineSubmit client request) (RefusedFor why) = refused_text client why
text_of MachineTurn (Answers completions) = completions_text completions
text_of (MachineCancel ticket) (GivenBack request) = cancelled_text ticket
text_of (MachineCancel ticket) InService = uncancelled_text ticket fault.InService
text_of (MachineCancel ticket) Unknown = uncancelled_text ticket fault.Unknown
text_of event reply = []

-- the lines of all events, one after the other
unfoldable pub texts : List MachineEvent → List Reply → List ℕ
texts (e ∷ es) (r ∷ rs) = text_of e r ++ texts es rs
texts _ _ = []

-- a request that the reply answers failed
abbrev pub has_failure : Reply → Bool
has_failure reply = any_failed (answers_in reply)

-- a submission or a cancellation was refused, or a request failed
unfoldable pub is_bad : Reply → Bool
is_bad (RefusedFor why) = true
is_bad InService = true
is_bad Unknown = true
is_bad reply = has_failure reply

-- so for some reply
unfoldable pub any_bad : List Reply → Bool
any_bad [] = false
any_bad (r ∷ rs) = is_bad r || any_bad rs

-- From device to device.

-- What a call of a device leaves: what is known of the card, and a bus that was kept before where it is.
pub record IsLaterDevice {B : Type 0} (view : B → BusView) (old new : DeviceView B) : Type 0 where
  pub info : new.info ≡ old.info
  pub kept : (view new.bus).is_kept ≡ true → (view old.bus).is_kept ≡ true

-- Events with their replies from one device to another: they are the script's up to what is left, and an execution of the
-- machine with own faults.
pub record ServesEvents {B : Type 0} (view : B → BusView) (old new : DeviceView B) (script left : List ScriptEvent)
    (events : List MachineEvent) (replies : List Reply) : Type 0 where
  pub of_script : Follow IsNext (standing_of (unanswered_of old) script) events replies
      (standing_of (unanswered_of new) left)
  pub executed : Comes view old (λ (c n : Counted). IsCountedExecution old.info c events replies n) new

-- The script was served up to what is left. Its lines went out, and `bad` says whether some request was refused or failed.
pub record ServesUpTo {B : Type 0} (view : B → BusView) (old_device new_device : DeviceView B)
    (script left : List ScriptEvent)
    (old new : Option (List ℕ)) (bad : Bool) : Type 0 where
  pub events : List MachineEvent
  pub replies : List Reply
  pub execution : ServesEvents view old_device new_device script left events replies
  pub printed : Appends old new (texts events replies)
  pub bad_is : bad ≡ any_bad replies

-- A prefix of the script was served, and then the writer failed: a prefix of its lines went out.
pub record ServesPrefix {B : Type 0} (view : B → BusView) (old_device new_device : DeviceView B)
    (script : List ScriptEvent)
    (old new : Option (List ℕ)) : Type 0 where
  pub events : List MachineEvent
  pub replies : List Reply
  -- what of the script wasn't served
  pub left : List ScriptEvent
  pub execution : ServesEvents view old_device new_device script left events replies
  pub printed : AppendsFront old new (texts events replies)

-- the whole script was served and its lines went out, or the writer failed
abbrev pub ServesScript : {B E : Type 0} → (B → BusView) → DeviceView B → DeviceView B → List ScriptEvent
    → Option (List ℕ) → Option (List ℕ) → Result Bool E → Type 0
ServesScript view old_device new_device script old new (Ok bad) =
    ServesUpTo view old_device new_device script [] old new bad
ServesScript view old_device new_device script old new (Err e) =
    ServesPrefix view old_device new_device script old new

-- Events were played on a device: over a bus that is kept to the end they were served.
pub record Plays {B E : Type 0} (view : B → BusView) (old_device new_device : DeviceView B) (script : List ScriptEvent)
    (old new : Option (List ℕ)) (result : Result Bool E) : Type 0 where
  pub later_device : IsLaterDevice view old_device new_device
  pub serves : (view new_device.bus).is_kept ≡ true → ServesScript view old_device new_device script old new result

-- what is answered where lines were printed
abbrev pub answer_if_printed : {E : Type 0} → Bool → Result Unit E → Result Bool E
answer_if_printed bad (Ok x) = Ok bad
answer_if_printed bad (Err e) = Err e

-- whether lines were printed
abbrev pub print_result : {E : Type 0} → Result Bool E → Result Unit E
print_result (Ok bad) = Ok tt
print_result (Err e) = Err e

-- a turn with these completions, what was printed of them, and whether some request failed
pub record TurnsAndPrints {B E : Type 0} (view : B → BusView) (old_device new_device : DeviceView B)
    (old new : Option (List ℕ)) (result : Result Bool E) : Type 0 where
  pub completions : List Completion
  pub turns : Comes view old_device
      (λ (c n : Counted). CountedSteps old_device.info c MachineTurn (Answers completions) n) new_device
  pub leaves : unanswered_of new_device + length completions ≡ unanswered_of old_device
  pub printed : Writes old new (print_result result) (completions_text completions)
  pub bad_is : IfOk result (λ bad. bad ≡ any_failed completions)
