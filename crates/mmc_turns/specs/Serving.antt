-- What it is to the sector machine that requests of slots go into service, and what became of them.
use Rattle.std.specs.Prelude.{◌+◌, ◌-◌, ◌<◌, ◌∷◌, ◌≡◌, ◌^◌, [], List, length, map, slice_index_or, ℕ}
use Rattle.mmc_bus.specs.declared.cause.Cause.{Cause}
use Rattle.mmc_card.specs.Sectors.{AreRead, Sector, Sets, Within, changed, maybe_changed, pieces}
use Rattle.mmc_queue.specs.Group.{IsFair, IsJoined, IsOneOf}
use Rattle.mmc_queue.specs.Lent.{blocks_of, write_blocks_of}
use Rattle.mmc_queue.specs.Requests.{bytes_of, count_of, start_of}
use Rattle.mmc_queue.specs.Waiting.{AreSound}
use Rattle.mmc_queue.specs.declared.entry.Entry.{Entry}
use Rattle.mmc_queue.specs.declared.extent.Extent.{Extent}
use Rattle.mmc_queue.specs.declared.group.Group.{Group}
use Rattle.mmc_requests.specs.declared.kind.Kind.TheVariants.{Read, Write}
use Rattle.mmc_switch.specs.declared.info.Info.{Info}
use Rattle.mmc_block.specs.Entries.{completion_of, waiting_of, waits_of}
use Rattle.mmc_block.specs.Groups.{completed}
use Rattle.mmc_block.specs.InOrder.{AreDecided}
use Rattle.mmc_block.specs.Machine.{Machine, Starts, Turns}
use Rattle.mmc_block.specs.Service.{change_of_group}
use Rattle.mmc_block.specs.declared.completion.Answer.TheVariants.{Failed}
use Rattle.mmc_block.specs.declared.completion.Completion.{Completion}
use Rattle.mmc_slots.specs.Served.{IsAnswered, IsSplit}
use Rattle.mmc_slots.specs.Slots.{AreOrdered, Memory, entries_in}
use Rattle.mmc_slots.specs.Started.{StartsAlone}
use Rattle.mmc_slots.specs.declared.slot.Slot.{Slot}
use Rattle.mmc_slots.specs.declared.slot.TheConstants.{ALONE, TOGETHER, WAITS}
use Rattle.mmc_turns.specs.Agrees.{Agrees, lent_more}
use Rattle.mmc_turns.specs.Steps.{OthersStay}

-- requests as a group of these sectors
abbrev pub group_of : List Entry → Extent → Group
group_of members extent = record { members = record { items = members }; extent = extent }

-- as much memory is lent for each
abbrev pub AsLong : Memory → Memory → Type 0
AsLong memory after = (ticket : ℕ) → length (after ticket) ≡ length (memory ticket)

-- Those in service can be served as these sectors, whatever lies in their memory.
abbrev pub AreJoined : Memory → List Slot → Extent → Type 0
AreJoined memory slots extent = (after : Memory) → AsLong memory after → IsJoined (entries_in after TOGETHER slots) extent

-- what a request has read, and what it writes
abbrev pub room_of_each : Entry → List ℕ
room_of_each e = e.buffer

abbrev pub bytes_of_each : Entry → List ℕ
bytes_of_each e = bytes_of e.request

-- Each of these has its blocks at its place among those of the sectors from the first one on.
abbrev pub HoldTheirs : (Entry → List ℕ) → ℕ → List Entry → List Sector → Type 0
HoldTheirs held start members blocks =
    (e : Entry) (i : ℕ) → IsOneOf members e → i < count_of e.request
    → slice_index_or blocks (start_of e.request + i - start) [] ≡ slice_index_or (pieces (count_of e.request) (held e)) i []

-- So these blocks are those of the group.
pub record BlocksAreTheirs : Type 0 where
  pub reads : (group : Group) (blocks : List Sector) → IsJoined group.members.items group.extent → group.extent.kind ≡ Read
      → length blocks ≡ group.extent.end - group.extent.start → HoldTheirs room_of_each group.extent.start group.members.items blocks
      → blocks_of group ≡ blocks
  pub writes : (group : Group) (blocks : List Sector) → IsJoined group.members.items group.extent → group.extent.kind ≡ Write
      → length blocks ≡ group.extent.end - group.extent.start → HoldTheirs bytes_of_each group.extent.start group.members.items blocks
      → write_blocks_of group ≡ blocks

-- the machine after a start
abbrev pub started : Machine → List Entry → List Entry → Machine
started machine waits members = record machine { waits = waits_of waits; in_service = waits_of members }

pub record StartAgrees : Type 0 where
  -- what waits can be served
  pub sound : (info : Info) (memory after : Memory) (slots : List Slot) (next : ℕ) (card : Sets) (machine : Machine)
      → Agrees info memory slots next card machine → next < 2 ^ 64 → AsLong memory after → AreSound (entries_in after WAITS slots)
  -- a group goes into service by a start of the machine
  pub group : (info : Info) (memory : Memory) (old new : List Slot) (extent : Extent) (next : ℕ) (card : Sets) (machine : Machine)
      → Agrees info memory old next card machine → entries_in memory TOGETHER old ≡ [] → entries_in memory ALONE old ≡ []
      → IsFair (entries_in memory WAITS old) (entries_in memory TOGETHER new) extent (entries_in memory WAITS new)
      → entries_in memory ALONE new ≡ [] → AreOrdered next new
      → Starts machine (started machine (entries_in memory WAITS new) (entries_in memory TOGETHER new))
      × Agrees info memory new next card (started machine (entries_in memory WAITS new) (entries_in memory TOGETHER new))
  -- one that is to be served alone was in service already
  pub alone : (info : Info) (memory : Memory) (e : Entry) (es : List Entry) (old new : List Slot) (extent : Extent) (next : ℕ)
      (card : Sets) (machine : Machine)
      → Agrees info memory old next card machine → entries_in memory TOGETHER old ≡ [] → entries_in memory ALONE old ≡ e ∷ es
      → StartsAlone memory e es old new extent → AreOrdered next new → Agrees info memory new next card machine

-- What is served next has gone into service, by a turn of the machine without an answer.
pub record HasStarted (info : Info) (memory : Memory) (new : List Slot) (extent : Extent) (next : ℕ) (card : Sets) (machine : Machine)
    : Type 0 where
  pub after : Machine
  pub turns : Turns info machine [] after
  pub agrees : Agrees info memory new next card after
  pub joined : AreJoined memory new extent

-- While requests are accepted and given back, those in service stay the same.
pub record ServedStay : Type 0 where
  pub accepted : (info : Info) (memory : Memory) (bytes : List ℕ) (old new : List Slot) (extent : Extent) (next : ℕ) (card : Sets)
      (machine : Machine)
      → Agrees info memory old next card machine → AreJoined memory old extent → OthersStay old new
      → AreJoined (lent_more memory next bytes) new extent
  pub none : (memory after : Memory) (old new : List Slot) → entries_in memory TOGETHER old ≡ [] → OthersStay old new
      → entries_in after TOGETHER new ≡ []
  pub given_back : (memory : Memory) (old new : List Slot) (extent : Extent)
      → AreJoined memory old extent → OthersStay old new → AreJoined memory new extent

-- A turn with these answers, after which the machine is that of these slots, and of what the card holds now.
pub record TurnAgrees (info : Info) (memory : Memory) (machine : Machine) (completions : List Completion) (slots : List Slot)
    (next : ℕ) (now : Sets) : Type 0 where
  pub after : Machine
  pub turns : Turns info machine completions after
  pub agrees : Agrees info memory slots next now after

pub record EndAgrees : Type 0 where
  -- the card has carried out what those in service change: they have their answers, with what lies in their memory after it
  pub done : (info : Info) (memory after : Memory) (old new : List Slot) (extent : Extent) (next : ℕ) (was now : Sets) (machine : Machine)
      → Agrees info memory old next was machine → AreJoined memory old extent → AsLong memory after
      → waits_of (entries_in after TOGETHER old) ≡ waits_of (entries_in memory TOGETHER old)
      → Within now (changed (change_of_group info (group_of (entries_in memory TOGETHER old) extent)) was) → AreDecided now
      → (extent.kind ≡ Read → AreRead now extent.part extent.start (blocks_of (group_of (entries_in after TOGETHER old) extent)))
      → IsAnswered memory old new → AreOrdered next new
      → TurnAgrees info memory machine (map completion_of (entries_in after TOGETHER old)) new next now
  -- it hasn't: its sectors hold no more than failed requests may leave
  pub failed : (info : Info) (memory : Memory) (slots : List Slot) (extent : Extent) (next : ℕ) (was now : Sets) (machine : Machine)
      → Agrees info memory slots next was machine → AreJoined memory slots extent
      → Within now (maybe_changed (change_of_group info (group_of (entries_in memory TOGETHER slots) extent)) was)
      → Agrees info memory slots next now machine
  -- one alone has its answer then
  pub fails : (info : Info) (memory : Memory) (e : Entry) (cause : Cause) (old new : List Slot) (next : ℕ) (now : Sets) (machine : Machine)
      → Agrees info memory old next now machine → entries_in memory TOGETHER old ≡ e ∷ [] → IsAnswered memory old new
      → AreOrdered next new
      → TurnAgrees info memory machine (completed (waiting_of e) (Failed cause) ∷ []) new next now
  -- and several are to be served alone
  pub split : (info : Info) (memory : Memory) (old new : List Slot) (next : ℕ) (now : Sets) (machine : Machine)
      → Agrees info memory old next now machine → entries_in memory ALONE old ≡ [] → IsSplit memory old new → AreOrdered next new
      → Agrees info memory new next now machine
