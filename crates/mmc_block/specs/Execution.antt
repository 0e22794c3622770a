-- Headline (docs/AUDIT.md, "What to read").
-- An execution of the sector machine: events with their replies, one after the other.
use Rattle.std.specs.Prelude.{◌+◌, ◌==◌, ◌∷◌, ◌≡◌, ◌≤◌, Bool, Err, List, None, Ok, Option, Result, Some, [], if◌then◌else◌, length, true, ℕ}
use Rattle.mmc_card.specs.Sectors.{Sets}
use Rattle.mmc_block.specs.declared.completion.Answer.{Answer}
use Rattle.mmc_block.specs.declared.completion.Answer.TheVariants.{Data, Done, Failed}
use Rattle.mmc_block.specs.declared.completion.Completion.{Completion}
use Rattle.mmc_switch.specs.declared.info.Info.{Info}
use Rattle.mmc_block.specs.declared.cancel.CancelFault.{CancelFault}
use Rattle.mmc_block.specs.declared.cancel.CancelFault.TheVariants as fault
use Rattle.mmc_block.specs.declared.refused.Refused.{Refused}
use Rattle.mmc_queue.specs.declared.request.Request.{Request}
use Rattle.mmc_block.specs.Machine.{Accepts, GivesBack, IsTicketOf, Machine, AnswersAll, StartsIfIdle, Turns, Waiting, opened}
use Rattle.mmc_block.specs.Refusal.{IsFirst, first_refusal}

-- what a client may do
pub data Event : Type 0 where
  Submit : ℕ → Request → Event
  Turn : Event
  Cancel : ℕ → Event

-- and what it is answered
pub data Reply : Type 0 where
  Accepted : ℕ → Reply
  RefusedFor : Refused → Reply
  Answers : List Completion → Reply
  GivenBack : Request → Reply
  InService : Reply
  Unknown : Reply

-- what this calls the answer to a submission
abbrev pub submitted_reply : Result ℕ (Request × Refused) → Reply
submitted_reply (Ok ticket) = Accepted ticket
submitted_reply (Err e) = RefusedFor e.1

-- and to a cancellation
abbrev pub cancelled_reply : Result Request CancelFault → Reply
cancelled_reply (Ok request) = GivenBack request
cancelled_reply (Err fault.InService) = InService
cancelled_reply (Err fault.Unknown) = Unknown

-- Steps that follow each other.

-- Each event with its reply is a step, from one state to the next.
abbrev pub Follow : {S : Type 0} → (S → Event → Reply → S → Type 0) → S → List Event → List Reply → S → Type 0
Follow {S} Steps old [] [] new = new ≡ old
Follow {S} Steps old (e ∷ es) (r ∷ rs) new = (mid : S) × Steps old e r mid × Follow Steps mid es rs new
Follow {S} Steps old _ _ new = ⊥

-- how many have no answer yet
abbrev pub unanswered : Machine → ℕ
unanswered machine = length machine.waits + length machine.in_service

-- An event with its reply, where this is what a turn with these answers does.
abbrev pub Happens : Info → Machine → (List Completion → Type 0) → Event → Reply → Machine → Type 0
Happens info old Turned (Submit client request) (Accepted ticket) new =
    (first_refusal info (unanswered old) old.next request ≡ None) × Accepts old client request ticket new
Happens info old Turned (Submit client request) (RefusedFor why) new =
    IsFirst (first_refusal info (unanswered old) old.next request) why × (new ≡ old)
Happens info old Turned Turn (Answers completions) new = Turned completions
Happens info old Turned (Cancel ticket) (GivenBack request) new = GivesBack old ticket request new
Happens info old Turned (Cancel ticket) InService new = IsTicketOf ticket old.in_service × (new ≡ old)
Happens info old Turned (Cancel ticket) Unknown new = (IsTicketOf ticket old.in_service → ⊥)
    × (IsTicketOf ticket old.waits → ⊥) × (new ≡ old)
Happens info old Turned _ _ new = ⊥

-- a step of the machine
abbrev pub Steps : Info → Machine → Event → Reply → Machine → Type 0
Steps info old event reply new = Happens info old (λ (completions : List Completion). Turns info old completions new)
    event reply new

-- An execution of the sector machine.
abbrev pub IsExecution : Info → Machine → List Event → List Reply → Machine → Type 0
IsExecution info old events replies new = Follow (Steps info) old events replies new

-- Own faults.

-- A machine, whether its card is in profile, the faults that have fallen, and to each ticket how many of them are its own.
pub record Counted : Type 0 where
  pub machine : Machine
  pub in_profile : Bool
  pub faults : ℕ
  pub own_faults : ℕ → ℕ

-- as a device opens whose card may hold these sets, after so many faults
abbrev pub opened_after : ℕ → Bool → Sets → Counted
opened_after faults in_profile sets = record {
  machine = opened sets;
  in_profile = in_profile;
  faults = faults;
  own_faults = λ ticket. 0;
}

-- so many more for one ticket, or for none
abbrev pub own_after : ℕ → Option ℕ → (ℕ → ℕ) → ℕ → ℕ
own_after fell None own ticket = own ticket
own_after fell (Some whose) own ticket = if ticket == whose then own ticket + fell else own ticket

abbrev pub IsNoneOrTicketOf : Option ℕ → List Waiting → Type 0
IsNoneOrTicketOf None ws = Unit {0}
IsNoneOrTicketOf (Some ticket) ws = IsTicketOf ticket ws

-- a failure has had at least four faults of its own
abbrev pub HasFour : ℕ → Answer → Type 0
HasFour own Done = Unit {0}
HasFour own (Data bytes) = Unit {0}
HasFour own (Failed cause) = 4 ≤ own

abbrev pub AllHaveFour : (ℕ → ℕ) → List Completion → Type 0
AllHaveFour own [] = Unit {0}
AllHaveFour own (c ∷ cs) = HasFour (own c.ticket) c.answer × AllHaveFour own cs

-- A turn in which so many faults fell: they count for at most one request, which is in service. Of a card in profile a
-- request fails only with four faults of its own.
pub record CountedTurn (info : Info) (old : Counted) (completions : List Completion) (new : Counted) : Type 0 where
  pub started : Machine
  pub start : StartsIfIdle old.machine started
  pub answers : AnswersAll info started completions new.machine
  pub fell : ℕ
  pub faults : new.faults ≡ old.faults + fell
  pub whose : Option ℕ
  pub in_service : IsNoneOrTicketOf whose started.in_service
  pub counts : (ticket : ℕ) → new.own_faults ticket ≡ own_after fell whose old.own_faults ticket
  pub four : old.in_profile ≡ true → AllHaveFour new.own_faults completions

-- Outside a turn no fault falls, and who is accepted has none of its own.
abbrev pub AreCounted : Event → Reply → Counted → Counted → Type 0
AreCounted Turn reply old new = Unit {0}
AreCounted event (Accepted ticket) old new =
    (new.faults ≡ old.faults) × ((t : ℕ) → new.own_faults t ≡ (if t == ticket then 0 else old.own_faults t))
AreCounted event reply old new = (new.faults ≡ old.faults) × ((t : ℕ) → new.own_faults t ≡ old.own_faults t)

-- a step of the machine with own faults
abbrev pub CountedSteps : Info → Counted → Event → Reply → Counted → Type 0
CountedSteps info old event reply new =
    Happens info old.machine (λ (completions : List Completion). CountedTurn info old completions new) event reply
    new.machine
    × AreCounted event reply old new × (new.in_profile ≡ old.in_profile)

-- An execution with own faults.
abbrev pub IsCountedExecution : Info → Counted → List Event → List Reply → Counted → Type 0
IsCountedExecution info old events replies new = Follow (CountedSteps info) old events replies new
