-- What the calls of a queue of C's come to, whatever fell: the replies and the contents of the card are a run of the sector machine, as its
-- clients see it (`mmc_block`, `Clients`).
use Rattle.std.specs.Prelude.{◌++◌, ◌==◌, ◌∷◌, ◌≡◌, ◌↔◌, Bool, Err, List, Ok, Option, Result, Some, [], false, if◌then◌else◌, length, map, negsuc, pos, slice_index_or, true, ℕ, ℤ}
use Rattle.mmc_bus.specs.declared.cause.Cause.{Cause}
use Rattle.mmc_bus.specs.declared.cause.Cause.TheVariants.{Answer, Busy, Data, Recovery, Status}
use Rattle.mmc_card.specs.Card.{Card, holds}
use Rattle.mmc_card.specs.Laws.{Carried}
use Rattle.mmc_card.specs.Sectors.{Sector, Sets, Within}
use Rattle.mmc_card.specs.declared.exchange.Lines.{Lines}
use Rattle.mmc_switch.specs.Info.{IsKnown}
use Rattle.mmc_switch.specs.declared.info.Info.{Info}
use Rattle.mmc_requests.specs.Kinds.{moves_blocks}
use Rattle.mmc_requests.specs.declared.asked.Asked.{Asked}
use Rattle.mmc_requests.specs.declared.kind.Kind.TheVariants.{Read, Write}
use Rattle.mmc_queue.specs.declared.entry.Entry.{Entry}
use Rattle.mmc_queue.specs.declared.extent.Extent.{Extent}
use Rattle.mmc_record.specs.Numbers.{part_of}
use Rattle.mmc_block.specs.Alone.{idle}
use Rattle.mmc_block.specs.Clients.{AreSteps as AreClientSteps, ClientMachine, ClientStep, Told as Reply, at_rest}
use Rattle.mmc_block.specs.Clients.Told.{Answered, Cancelled}
use Rattle.mmc_block.specs.declared.cancel.CancelFault as told
use Rattle.mmc_block.specs.declared.cancel.CancelFault.TheVariants as Told
use Rattle.mmc_block.specs.Entries.{completion_of, waiting_of, waits_of}
use Rattle.mmc_block.specs.Groups.{completed}
use Rattle.mmc_block.specs.Machine.{Machine, all_failed}
use Rattle.mmc_block.specs.declared.completion.Answer.TheVariants.{Failed}
use Rattle.mmc_block.specs.declared.completion.Completion.{Completion}
use Rattle.mmc_slots.specs.Slots.{Memory, entries_in, request_of}
use Rattle.mmc_slots.specs.declared.cancellation.CancelFault.{CancelFault}
use Rattle.mmc_slots.specs.declared.cancellation.CancelFault.TheVariants.{InService, Unknown}
use Rattle.mmc_slots.specs.declared.slot.Slot.{Slot}
use Rattle.mmc_slots.specs.declared.slot.TheConstants.{ALONE, TOGETHER, WAITS}
use Rattle.mmc_turns.specs.Serving.{AsLong, HasStarted, HoldTheirs, bytes_of_each, room_of_each}
use Rattle.c_host.specs.declared.given.WayRecord.{WayRecord}
use Rattle.kelifandro.specs.Asked.{asked_by, attempts_for, named_by}
use Rattle.kelifandro.specs.Done.{Done, IsTrueOf, Stories, host_after, nothing_done}
use Rattle.kelifandro.specs.History.{AreSteps, Call, CardHistory}
use Rattle.kelifandro.specs.declared.asked.AskedRecord.{AskedRecord}

-- the requests that are without an answer: those that wait, those in service, and those that are to be served alone
abbrev pub unanswered : Memory → List Slot → List Entry
unanswered memory slots = entries_in memory WAITS slots ++ (entries_in memory TOGETHER slots ++ entries_in memory ALONE slots)

-- From a card that was so at first, by these calls to the opening of a queue, and from there by the replies of this, the card has come to be
-- so now, and these slots hold the requests without an answer.
pub record HasQueued (limits : Lines) (start now : Card) (calls : List Call) (replies : List Reply) (lent : Memory) (slots : List Slot)
    : Type 0 where
  -- what was called before is an execution of the sector machine, at which nothing waits
  pub opened : Machine
  pub before : AreSteps limits start.made (idle (holds start) 0) calls opened
  pub rested : opened ≡ idle opened.sets opened.next
  -- the calls of the queue are one, from the sectors that the card held then
  pub info : Info
  pub known : IsKnown limits start.made info
  pub machine : ClientMachine
  pub executed : AreClientSteps (ClientStep info) (at_rest opened.sets 0) replies machine
  -- the card's sectors hold no more than the machine's may, where those of a request without an answer are old or new
  pub contents : Within (holds now) (all_failed info machine.outstanding machine.sets)
  -- nothing waits or is in service exactly where nothing is without an answer
  pub answered : (unanswered lent slots ≡ []) ↔ (machine.outstanding ≡ [])
  -- it is the same card, with as many sectors
  pub carried : Carried start now

-- What is served next has gone into service in the sector machine too, and that is what is asked for.
pub record TellsStarted (info : Info) (memory : Memory) (slots : List Slot) (asked : AskedRecord) (next : ℕ) (card : Sets) (machine : Machine)
    : Type 0 where
  pub extent : Extent
  pub part : part_of asked.part ≡ Some extent.part
  pub told : named_by asked extent.part ≡ asked_by extent
  pub attempts : asked.attempts ≡ attempts_for extent
  pub started : HasStarted info memory slots extent next card machine

-- by ticket
abbrev pub memory_of : List (List ℕ) → Memory
memory_of lent ticket = slice_index_or lent ticket []

-- What contracts see of a queue with its history.
pub record QueueHistory : Type 0 where
  pub way : WayRecord
  pub did : Done
  -- what was called before the queue was opened, the last one first
  pub calls : List Call
  -- the replies of the queue since then, the first one first
  pub replies : List Reply
  -- what lies in the memory of clients, one after the other by ticket, and their requests
  pub lent : List (List ℕ)
  pub slots : List Slot
  pub next : ℕ
  -- what is asked of the card for those in service
  pub serving : Option Asked

-- and of one whose requests in service were served, and have no answer yet
pub record ServedHistory : Type 0 where
  pub way : WayRecord
  pub did : Done
  pub calls : List Call
  pub replies : List Reply
  pub lent : List (List ℕ)
  pub slots : List Slot
  pub next : ℕ
  pub asked : Asked
  pub number : ℤ
  -- what lies in the memory that was moved
  pub moved : List Sector

-- Where the story is true of what was done so far, all calls together are a run of the sector machine.
abbrev pub HasQueue : Stories → QueueHistory → Type 0
HasQueue stories queue =
    IsTrueOf stories queue.way queue.did
    → HasQueued (host_after stories queue.way queue.did).limits (host_after stories queue.way nothing_done).card
    (host_after stories queue.way queue.did).card queue.calls queue.replies (memory_of queue.lent) queue.slots

-- It begins at a card, by the calls so far, with these slots, and nobody was told anything.
pub record IsBegunAt (card : CardHistory) (slots : List Slot) (queue : QueueHistory) : Type 0 where
  pub way : queue.way ≡ card.way
  pub did : queue.did ≡ card.did
  pub calls : queue.calls ≡ card.calls
  pub replies : queue.replies ≡ []
  pub slots_are : queue.slots ≡ slots

-- A call more, by which clients are told this, or nothing.
pub record Tells (old : QueueHistory) (more : List Reply) (new : QueueHistory) : Type 0 where
  pub way : new.way ≡ old.way
  pub calls : new.calls ≡ old.calls
  pub replies : new.replies ≡ old.replies ++ more

-- those in service were served: what was moved lies in memory, and nothing was told yet
pub record IsServedOf (queue : QueueHistory) (moved : List Sector) (served : ServedHistory) : Type 0 where
  pub way : served.way ≡ queue.way
  pub calls : served.calls ≡ queue.calls
  pub replies : served.replies ≡ queue.replies
  pub lent : served.lent ≡ queue.lent
  pub slots : served.slots ≡ queue.slots
  pub asked : queue.serving ≡ Some served.asked
  pub moved_is : served.moved ≡ moved

-- and now clients are told
pub record TellsEnd (served : ServedHistory) (more : List Reply) (queue : QueueHistory) : Type 0 where
  pub way : queue.way ≡ served.way
  pub calls : queue.calls ≡ served.calls
  pub replies : queue.replies ≡ served.replies ++ more

-- the same reason, by the names of the machine
abbrev pub fault_told : CancelFault → told.CancelFault
fault_told InService = Told.InService
fault_told Unknown = Told.Unknown

-- what a client is told that wants its request back, in whose memory this lies
abbrev pub cancelled_so : Memory → ℕ → Result Slot CancelFault → Reply
cancelled_so lent ticket (Ok slot) = Cancelled ticket (Ok (request_of lent slot))
cancelled_so lent ticket (Err fault) = Cancelled ticket (Err (fault_told fault))

-- the cause that a number tells
abbrev pub cause_with : ℤ → Cause
cause_with (pos n) = Recovery
cause_with (negsuc n) =
    if n == 9 then Answer else if n == 10 then Data else if n == 11 then Status else if n == 12 then Busy else Recovery

abbrev pub tells_done : ℤ → Bool
tells_done (pos n) = n == 0
tells_done (negsuc n) = false

-- a request has failed, by this number
abbrev pub failed_by : ℤ → Entry → Completion
failed_by number e = completed (waiting_of e) (Failed (cause_with number))

-- the answers by this number to those in service, in whose memory this lies then
abbrev pub answers_by : ℤ → Memory → List Slot → List Completion
answers_by number after slots =
    if tells_done number then map completion_of (entries_in after TOGETHER slots)
    else map (failed_by number) (entries_in after TOGETHER slots)

-- what clients are told: answers, or where those in service are to be served alone nothing yet
abbrev pub ended : Bool → List Completion → List Reply
ended true answers = Answered answers ∷ []
ended false answers = []

-- What lies in the memory of clients once C has copied what was read: each member of those in service has its blocks of these, as many bytes
-- as before, and what was written is as it was.
pub record AreCopied (lent after : Memory) (slots : List Slot) (asked : Asked) (blocks : List Sector) : Type 0 where
  pub as_long : AsLong lent after
  pub same : waits_of (entries_in after TOGETHER slots) ≡ waits_of (entries_in lent TOGETHER slots)
  pub theirs : asked.kind ≡ Read → HoldTheirs room_of_each asked.start (entries_in after TOGETHER slots) blocks

-- Before it is served C has copied what is written: each member has its blocks at its place.
abbrev pub AreGathered : Memory → List Slot → Asked → List Sector → Type 0
AreGathered lent slots asked blocks =
    asked.kind ≡ Write → HoldTheirs bytes_of_each asked.start (entries_in lent TOGETHER slots) blocks

-- there are as many blocks as sectors, where any are moved
abbrev pub AreEnough : Asked → List Sector → Type 0
AreEnough asked blocks = moves_blocks asked.kind ≡ true → length blocks ≡ asked.count
