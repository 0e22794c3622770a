-- What the calls of C come to, whatever fell: what memory holds, the numbers that were told and the contents of the card are a run of the
-- sector machine (`mmc_block`, `Machine`), of which each call is a request that is answered before the next one comes.
use Rattle.std.specs.Prelude.{◌++◌, ◌∷◌, ◌≡◌, ◌≤◌, ◌⊎◌, [], List, false, length, pos, true, ℕ, ℤ}
use Rattle.mmc_card.specs.Card.{Card, holds}
use Rattle.mmc_card.specs.Laws.{Carried}
use Rattle.mmc_card.specs.Made.{Made}
use Rattle.mmc_card.specs.Sectors.{Sector, Within}
use Rattle.mmc_card.specs.declared.exchange.Lines.{Lines}
use Rattle.mmc_card.specs.declared.part.Part.{Part}
use Rattle.mmc_switch.specs.Info.{IsKnown}
use Rattle.mmc_switch.specs.declared.info.Info.{Info}
use Rattle.mmc_requests.specs.declared.kind.Kind.{Kind}
use Rattle.mmc_requests.specs.declared.kind.Kind.TheVariants as to
use Rattle.mmc_queue.specs.declared.request.Request.{Request}
use Rattle.mmc_queue.specs.declared.request.Request.TheVariants.{Erase, Read, Trim, Write}
use Rattle.mmc_block.specs.Alone.{IsServedAlone, Leaves, idle}
use Rattle.mmc_block.specs.Machine.{Machine}
use Rattle.mmc_block.specs.declared.completion.Answer.{Answer}
use Rattle.mmc_block.specs.declared.completion.Answer.TheVariants as Gave
use Rattle.mmc_direct.specs.Noted.{IsNotedOf, bus_going_on}
use Rattle.mmc_direct.specs.Opened.{IsReadyAs}
use Rattle.mmc_requests.specs.declared.asked.Asked.{Asked}
use Rattle.mmc_host.specs.Hosts.{HostView}
use Rattle.mmc_record.specs.Note.{is_note}
use Rattle.mmc_record.specs.declared.record.CardRecord.{CardRecord}
use Rattle.c_host.specs.declared.given.WayRecord.{WayRecord}
use Rattle.kelifandro.specs.Answers.{cause_number}
use Rattle.kelifandro.specs.Calls.{is_attempted}
use Rattle.kelifandro.specs.Done.{Done, IsTrueOf, Stories, host_after, nothing_done}

-- A request, with what its memory held before and holds after it, and the number that it was answered.
pub record Told : Type 0 where
  pub asked : Asked
  pub before : List Sector
  pub after : List Sector
  pub number : ℤ

-- What C has called.
pub data Call : Type 0 where
  -- the card was opened, or wasn't, by this number
  Opened : ℤ → Call
  Served : Told → Call
  Closed : Call

-- the bytes of these sectors, one after the other
abbrev pub joined : List Sector → List ℕ
joined [] = []
joined (sector ∷ sectors) = sector ++ joined sectors

abbrev pub request_by : Kind → Part → ℕ → ℕ → List Sector → Request
request_by to.Read part start count memory = Read part start (length memory)
request_by to.Write part start count memory = Write part start (length memory) (joined memory)
request_by to.Erase part start count memory = Erase part start count
request_by to.Trim part start count memory = Trim part start count

-- the request of the machine that was asked for with this memory
abbrev pub request_of : Asked → List Sector → Request
request_of asked memory = request_by asked.kind asked.part asked.start asked.count memory

-- The number tells this answer, and what a read gives is what memory holds then.
abbrev pub TellsAnswer : ℤ → List Sector → Answer → Type 0
TellsAnswer number after Gave.Done = number ≡ pos 0
TellsAnswer number after (Gave.Data bytes) = (number ≡ pos 0) × (bytes ≡ joined after)
TellsAnswer number after (Gave.Failed cause) = number ≡ cause_number cause

-- It was submitted to the machine at which nothing waited, and answered by the turn after it; this is known of the card by its registers.
pub record IsAnswered (limits : Lines) (made : Made) (old : Machine) (told : Told) (new : Machine) : Type 0 where
  pub info : Info
  pub known : IsKnown limits made info
  pub answer : Answer
  pub tells : TellsAnswer told.number told.after answer
  pub served : IsServedAlone info old (request_of told.asked told.before) answer new

-- A request that wasn't attempted changes nothing.
pub record IsUnmade (old : Machine) (told : Told) (new : Machine) : Type 0 where
  pub number : is_attempted told.number ≡ false
  pub memory : told.after ≡ told.before
  pub machine : new ≡ old

abbrev pub IsStep : Lines → Made → Machine → Call → Machine → Type 0
IsStep limits made old (Opened number) new = new ≡ old
IsStep limits made old (Served told) new = IsUnmade old told new ⊎ IsAnswered limits made old told new
IsStep limits made old Closed new = new ≡ old

-- These calls, the last one first, have led from one machine to the other.
abbrev pub AreSteps : Lines → Made → Machine → List Call → Machine → Type 0
AreSteps limits made start [] machine = machine ≡ start
AreSteps limits made start (call ∷ earlier) machine =
    (before : Machine) × AreSteps limits made start earlier before × IsStep limits made before call machine

-- From the card as it was at first these calls, the last one first, have come to a card that is so now.
pub record HasServed (limits : Lines) (start now : Card) (calls : List Call) : Type 0 where
  pub machine : Machine
  -- the calls are an execution of the sector machine
  pub executed : AreSteps limits start.made (idle (holds start) 0) calls machine
  -- the card's sectors hold no more than the machine's may
  pub contents : Within (holds now) machine.sets
  -- nothing is without an answer
  pub answered : machine ≡ idle machine.sets machine.next
  -- it is the same card, with as many sectors
  pub carried : Carried start now

-- A card that is noted stands so, behind this host.
abbrev pub IsKept : HostView → CardRecord → Type 0
IsKept host note = is_note note ≡ true → IsNotedOf note host

-- A card was opened, or wasn't: it is the same one, and no sector may hold more.
pub record HasStayed (old new : HostView) : Type 0 where
  pub was_true : old.is_kept ≡ true
  pub carried : Carried old.card new.card
  pub later : old.faults ≤ new.faults
  pub narrows : Within (holds new.card) (holds old.card)

-- It is ready, as the record notes, behind this host.
pub record IsOpened (now : HostView) (note : CardRecord) : Type 0 where
  pub lines : Lines
  pub ready : IsReadyAs note (bus_going_on now lines)

-- What a request that was attempted has left of the card's sectors, by its answer.
pub record HasLeft (limits : Lines) (old new : Card) (told : Told) : Type 0 where
  pub info : Info
  pub known : IsKnown limits old.made info
  pub answer : Answer
  pub tells : TellsAnswer told.number told.after answer
  pub leaves : Leaves info (request_of told.asked told.before) (holds old) answer (holds new)

-- and one that wasn't
pub record HasLeftAll (old new : Card) (told : Told) : Type 0 where
  pub number : is_attempted told.number ≡ false
  pub memory : told.after ≡ told.before
  pub narrows : Within (holds new) (holds old)

abbrev pub LeavesBy : Lines → Card → Card → Call → Type 0
LeavesBy limits old new (Served told) = HasLeftAll old new told ⊎ HasLeft limits old new told
LeavesBy limits old new call = Unit {0}

-- One call more, from the host before it, with this record, to the host after it.
pub record GoesOn (call : Call) (old : HostView) (note : CardRecord) (new : HostView) (notes : CardRecord) : Type 0 where
  pub was_true : old.is_kept ≡ true
  pub kept : IsKept old note → IsKept new notes
  pub left : IsKept old note → LeavesBy new.limits old.card new.card call
  pub served : IsKept old note → (start : Card) (earlier : List Call) → HasServed old.limits start old.card earlier
      → HasServed new.limits start new.card (call ∷ earlier)

-- What contracts see of a card with its history: what was done and what was called so far, the last one first.
pub record CardHistory : Type 0 where
  pub way : WayRecord
  pub did : Done
  pub calls : List Call

-- These calls, the last one first, are a run of the sector machine, from the card as the story has it at first to the card as it has it
-- after what was done.
abbrev pub AreServed : Stories → WayRecord → Done → List Call → Type 0
AreServed stories way done calls =
    HasServed (host_after stories way done).limits (host_after stories way nothing_done).card (host_after stories way done).card calls

-- One call more. Where the story is true of what was done so far all calls together are a run of the sector machine.
pub record Continues (stories : Stories) (old : CardHistory) (call : Call) (new : CardHistory) : Type 0 where
  pub way : new.way ≡ old.way
  pub calls : new.calls ≡ call ∷ old.calls
  pub served : IsTrueOf stories new.way new.did → AreServed stories new.way new.did new.calls
