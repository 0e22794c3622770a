-- Slots as the requests that they hold.
use Rattle.std.specs.Prelude.{◌+◌, ◌<◌, ◌==◌, ◌≡◌, ◌≤◌, ◌∷◌, List, [], filter, if◌then◌else◌, length, map, not}
use Rattle.std.specs.Prelude.{slice_index_or, ℕ}
use Rattle.mmc_card.specs.declared.part.Part.{Part}
use Rattle.mmc_card.specs.declared.part.Part.TheVariants.{Boot1, Boot2, Gp1, Gp2, Gp3, Gp4, User}
use Rattle.mmc_queue.specs.declared.entry.Entry.{Entry}
use Rattle.mmc_queue.specs.declared.request.Request.{Request}
use Rattle.mmc_requests.specs.declared.kind.Kind.{Kind}
use Rattle.mmc_requests.specs.declared.kind.Kind.TheVariants.{Erase, Read, Trim, Write}
use Rattle.mmc_slots.specs.declared.slot.Slot.{Slot}
use Rattle.mmc_slots.specs.declared.slot.TheConstants.{ALONE, FREE}

abbrev pub kind_in : ℕ → Kind
kind_in number = if number == 0 then Read else (if number == 1 then Write else (if number == 2 then Erase else Trim))

abbrev pub part_in : ℕ → Part
part_in number =
    if number == 1 then Boot1
    else (if number == 2 then Boot2
    else (if number == 3 then Gp1
    else (if number == 4 then Gp2
    else (if number == 5 then Gp3
    else (if number == 6 then Gp4 else User)))))

-- What a slot asks, where this lies in the memory that its client has lent: what a write writes, or the room for what a read reads.

abbrev pub request_by : Kind → Part → ℕ → ℕ → List ℕ → Request
request_by Read part start count lent = Request.Read part start count
request_by Write part start count lent = Request.Write part start count lent
request_by Erase part start count lent = Request.Erase part start count
request_by Trim part start count lent = Request.Trim part start count

abbrev pub room_by : Kind → List ℕ → List ℕ
room_by Read lent = lent
room_by Write lent = []
room_by Erase lent = []
room_by Trim lent = []

-- by ticket, what lies in the memory of each request
abbrev pub Memory : Type 0
Memory = ℕ → List ℕ

abbrev pub request_of : Memory → Slot → Request
request_of memory s = request_by (kind_in s.kind) (part_in s.part) s.start s.count (memory s.ticket)

abbrev pub entry_of : Memory → Slot → Entry
entry_of memory s = record {
  ticket = s.ticket;
  client = s.client;
  request = request_of memory s;
  buffer = room_by (kind_in s.kind) (memory s.ticket);
}

-- the requests whose slots have this state
abbrev pub entries_in : Memory → ℕ → List Slot → List Entry
entries_in memory state slots = map (entry_of memory) (filter (λ s. s.state == state) slots)

-- those of unknown states stay
abbrev pub UnknownStay : Memory → List Slot → List Slot → Type 0
UnknownStay memory old new = (state : ℕ) → ALONE < state → entries_in memory state new ≡ entries_in memory state old

-- the slots that aren't free
abbrev pub taken : List Slot → List Slot
taken slots = filter (λ s. not (s.state == FREE)) slots

-- their tickets
abbrev pub tickets : List Slot → List ℕ
tickets slots = map (λ s. s.ticket) (taken slots)

-- these ascend, from the lowest on, and are below the next
abbrev pub AscendWithin : ℕ → ℕ → List ℕ → Type 0
AscendWithin lowest next [] = lowest ≤ next
AscendWithin lowest next (t ∷ ts) = (lowest ≤ t) × AscendWithin (t + 1) next ts

-- the tickets of all that aren't free ascend, and are below the next one
abbrev pub AreOrdered : ℕ → List Slot → Type 0
AreOrdered next slots = AscendWithin 0 next (tickets slots)

-- what stands for a slot past the end
abbrev pub free_slot : Slot
free_slot = record {
  ticket = 0;
  memory = 0;
  start = 0;
  count = 0;
  client = 0;
  state = 0;
  kind = 0;
  part = 0;
  answer = 0;
}

abbrev pub slot_at : List Slot → ℕ → Slot
slot_at slots k = slice_index_or slots k free_slot

-- the slot in another state
abbrev pub in_state : ℕ → Slot → Slot
in_state state s = record s { state = state }

-- the same slots, but for their states
abbrev pub SameButStates : List Slot → List Slot → Type 0
SameButStates old new = map (in_state FREE) new ≡ map (in_state FREE) old

-- all are free from this one on
abbrev pub AreFreeFrom : ℕ → List Slot → Type 0
AreFreeFrom first slots = (k : ℕ) → first ≤ k → k < length slots → (slot_at slots k).state ≡ FREE
