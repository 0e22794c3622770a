-- What calls on slots are to the sector machine.
use Rattle.std.specs.Prelude.{◌++◌, ◌+◌, ◌∷◌, ◌≡◌, ◌≢◌, [], List, None, ℕ}
use Rattle.mmc_card.specs.Sectors.{Sets}
use Rattle.mmc_block.specs.Entries.{waiting_of, waits_of}
use Rattle.mmc_block.specs.Machine.{GivesBack, IsTicketOf, Machine, Waiting}
use Rattle.mmc_queue.specs.Waiting.{Takes}
use Rattle.mmc_queue.specs.declared.entry.Entry.{Entry}
use Rattle.mmc_requests.specs.declared.asked.Asked.{Asked}
use Rattle.mmc_slots.specs.Accepted.{entry_with, refusal}
use Rattle.mmc_slots.specs.Cancelled.{IsWhy}
use Rattle.mmc_slots.specs.Slots.{AreOrdered, Memory, entries_in, entry_of, request_of}
use Rattle.mmc_slots.specs.declared.cancellation.CancelFault.TheVariants.{InService, Unknown}
use Rattle.mmc_slots.specs.declared.slot.Slot.{Slot}
use Rattle.mmc_slots.specs.declared.slot.TheConstants.{FREE, WAITS}
use Rattle.mmc_switch.specs.declared.info.Info.{Info}
use Rattle.mmc_turns.specs.Agrees.{Agrees, Fits, lent_more}

-- requests of any other state but that of those that wait stay
abbrev pub OthersStay : List Slot → List Slot → Type 0
OthersStay old new = (memory : Memory) (state : ℕ) → state ≢ FREE → state ≢ WAITS → entries_in memory state new ≡ entries_in memory state old

-- the machine after a request was accepted
abbrev pub accepted : Machine → Waiting → Machine
accepted machine request = record machine { waits = machine.waits ++ request ∷ []; next = machine.next + 1 }

-- A request that isn't refused waits after the others, with the memory that is lent for it.
abbrev pub SubmissionAgrees : Type 0
SubmissionAgrees =
    (info : Info) (memory : Memory) (bytes : List ℕ) (client : ℕ) (asked : Asked) (old new : List Slot) (next : ℕ) (card : Sets)
    (machine : Machine)
    → Agrees info memory old next card machine → Fits asked bytes → refusal info asked ≡ None
    → ((lent : Memory) → entries_in lent WAITS new ≡ entries_in lent WAITS old ++ entry_with lent client asked next ∷ [])
    → OthersStay old new → AreOrdered (next + 1) new
    → Agrees info (lent_more memory next bytes) new (next + 1) card
    (accepted machine (waiting_of (entry_with (lent_more memory next bytes) client asked next)))

-- with these that wait
abbrev pub with_waits : Machine → List Entry → Machine
with_waits machine entries = record machine { waits = waits_of entries }

-- A request that waited is given back; or it is in service; or nobody has such a ticket.
pub record CancellationAgrees : Type 0 where
  pub gives_back : (info : Info) (memory : Memory) (s : Slot) (old new : List Slot) (next : ℕ) (card : Sets) (machine : Machine)
      → Agrees info memory old next card machine
      → Takes (entries_in memory WAITS old) (entry_of memory s) (entries_in memory WAITS new) → OthersStay old new → AreOrdered next new
      → GivesBack machine s.ticket (request_of memory s) (with_waits machine (entries_in memory WAITS new))
      × Agrees info memory new next card (with_waits machine (entries_in memory WAITS new))
  pub in_service : (info : Info) (memory : Memory) (slots : List Slot) (ticket next : ℕ) (card : Sets) (machine : Machine)
      → Agrees info memory slots next card machine → IsWhy slots ticket InService → IsTicketOf ticket machine.in_service
  pub unknown : (info : Info) (memory : Memory) (slots : List Slot) (ticket next : ℕ) (card : Sets) (machine : Machine)
      → Agrees info memory slots next card machine → IsWhy slots ticket Unknown
      → (IsTicketOf ticket machine.in_service → ⊥) × (IsTicketOf ticket machine.waits → ⊥)
