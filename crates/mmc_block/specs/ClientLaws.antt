-- Headline (docs/AUDIT.md, "What to read").
-- How the sector machine stands to what clients see of it, and which refusal comes first.
use Rattle.std.specs.Prelude.{◌+◌, ◌++◌, ◌∷◌, ◌≡◌, ◌⊎◌, [], Err, List, None, Ok, length, map, ℕ}
use Rattle.mmc_card.specs.Sectors.{Sets, Within}
use Rattle.mmc_queue.specs.declared.request.Request.{Request}
use Rattle.mmc_switch.specs.declared.info.Info.{Info}
use Rattle.mmc_block.specs.Alone.{IsServedAlone, idle}
use Rattle.mmc_block.specs.Clients.{AreSteps, ClientMachine, ClientStep, Told, at_rest}
use Rattle.mmc_block.specs.Clients.Told.{Answered, Cancelled, Submitted}
use Rattle.mmc_block.specs.Execution.{Event, IsExecution, Reply, Steps, cancelled_reply, submitted_reply}
use Rattle.mmc_block.specs.Execution.Event.{Cancel, Submit, Turn}
use Rattle.mmc_block.specs.Execution.Reply.{Answers}
use Rattle.mmc_block.specs.Machine.{IsAmong, IsMerged, IsTicketOf, Machine, Waiting, all_failed, opened}
use Rattle.mmc_block.specs.MachineLaws.{accepted_by, ended_by}
use Rattle.mmc_block.specs.Refusal.{IsFirst, first_refusal}
use Rattle.mmc_block.specs.declared.completion.Answer.{Answer}

-- what the sector machine calls the call
abbrev pub event_of : Told → Event
event_of (Submitted client request result) = Submit client request
event_of (Cancelled ticket result) = Cancel ticket
event_of (Answered completions) = Turn

-- and its reply
abbrev pub reply_of : Told → Reply
reply_of (Submitted client request result) = submitted_reply result
reply_of (Cancelled ticket result) = cancelled_reply result
reply_of (Answered completions) = Answers completions

abbrev pub events : List Told → List Event
events calls = map event_of calls

abbrev pub replies : List Told → List Reply
replies calls = map reply_of calls

-- A request is accepted where nothing speaks against it, and otherwise refused for the first reason that holds.
abbrev pub RefusesFirst : Info → ClientMachine → Told → Type 0
RefusesFirst info old (Submitted client request (Ok ticket)) =
    first_refusal info (length old.outstanding) old.next request ≡ None
RefusesFirst info old (Submitted client request (Err refused)) =
    IsFirst (first_refusal info (length old.outstanding) old.next request) refused.1
RefusesFirst info old (Cancelled ticket result) = Unit {0}
RefusesFirst info old (Answered completions) = Unit {0}

-- a step in which that is so
abbrev pub RefusingStep : Info → ClientMachine → Told → ClientMachine → Type 0
RefusingStep info old call new = ClientStep info old call new × RefusesFirst info old call

-- What clients have seen of the machine, by these calls from this on: the same sectors and tickets, and as requests without an answer
-- those that wait and those in service, each in their order; so a card within the one is within the other.
pub record HaveSeen (info : Info) (start : Sets) (calls : List Told) (machine : Machine) : Type 0 where
  pub seen : ClientMachine
  pub executed : AreSteps (ClientStep info) (at_rest start 0) calls seen
  pub refusing : AreSteps (RefusingStep info) (at_rest start 0) calls seen
  pub sets : seen.sets ≡ machine.sets
  pub outstanding : IsMerged seen.outstanding machine.in_service machine.waits
  pub next : seen.next ≡ machine.next
  pub contents : Within (all_failed info machine.in_service machine.sets) (all_failed info seen.outstanding seen.sets)

-- Clients see no groups.
abbrev pub ClientsSee : Type 0
ClientsSee =
    (info : Info) (start : Sets) (calls : List Told) (machine : Machine)
    → IsExecution info (opened start) (events calls) (replies calls) machine → HaveSeen info start calls machine

-- the machine as clients see it, for whom these are without an answer
abbrev pub seen_as : Machine → List Waiting → ClientMachine
seen_as machine outstanding = record { sets = machine.sets; outstanding = outstanding; next = machine.next }

-- Each step of the machine is one that they see.
abbrev pub ClientsSeeEach : Type 0
ClientsSeeEach =
    (info : Info) (old : Machine) (outstanding : List Waiting) (call : Told) (new : Machine)
    → IsMerged outstanding old.in_service old.waits → Steps info old (event_of call) (reply_of call) new
    → (left : List Waiting) × IsMerged left new.in_service new.waits
    × ClientStep info (seen_as old outstanding) call (seen_as new left)

-- A request that is served on a card at which nothing waits is a submission and a turn with its answer.
abbrev pub ClientsSeeAlone : Type 0
ClientsSeeAlone =
    (info : Info) (sets left : Sets) (next : ℕ) (request : Request) (answer : Answer)
    → IsServedAlone info (idle sets next) request answer (idle left (next + 1))
    → AreSteps (ClientStep info) (at_rest sets next)
    (Submitted 0 request (Ok next) ∷ Answered (record { ticket = next; client = 0; answer = answer } ∷ []) ∷ [])
    (at_rest left (next + 1))

-- the tickets that these calls accepted
abbrev pub accepted_in : List Told → List ℕ
accepted_in [] = []
accepted_in (call ∷ calls) = accepted_by (reply_of call) ++ accepted_in calls

-- and those that they ended, by an answer or by giving the request back
abbrev pub ended_in : List Told → List ℕ
ended_in [] = []
ended_in (call ∷ calls) = ended_by (event_of call) (reply_of call) ++ ended_in calls

-- No request is lost: each that was accepted has ended, or is without an answer.
abbrev pub NoneIsLost : Type 0
NoneIsLost =
    (info : Info) (start : Sets) (next : ℕ) (calls : List Told) (machine : ClientMachine)
    → AreSteps (ClientStep info) (at_rest start next) calls machine
    → (ticket : ℕ) → IsAmong (accepted_in calls) ticket → IsAmong (ended_in calls) ticket ⊎ IsTicketOf ticket machine.outstanding
