-- Which requests may wait.
use Rattle.std.specs.Prelude.{◌++◌, ◌∷◌, ◌≡◌, [], List, Option, ℕ}
use Rattle.mmc_queue.specs.declared.entry.Entry.{Entry}
use Rattle.mmc_requests.specs.Refusal.{change_refusal, first_of, sectors_refusal}
use Rattle.mmc_requests.specs.declared.asked.Asked.{Asked}
use Rattle.mmc_requests.specs.declared.limits.TheConstants.{MAX_COUNT}
use Rattle.mmc_requests.specs.declared.refused.Refused.{Refused}
use Rattle.mmc_slots.specs.Slots.{Memory, in_state, request_by, room_by, taken}
use Rattle.mmc_slots.specs.declared.slot.Slot.{Slot}
use Rattle.mmc_slots.specs.declared.slot.TheConstants.{WAITS}
use Rattle.mmc_switch.specs.declared.info.Info.{Info}

-- the first reason to refuse a request that would wait, of which a read or a write names so many sectors at most
abbrev pub refusal : Info → Asked → Option Refused
refusal info asked =
    first_of (sectors_refusal MAX_COUNT asked.kind info asked.part asked.start asked.count)
    (change_refusal asked.kind info asked.part asked.start asked.count)

-- A slot more is taken, by this ticket, in which the caller's own number is as it came.
abbrev pub TakesSlot : ℕ → ℕ → List Slot → List Slot → Type 0
TakesSlot ticket memory old new =
    (s : Slot) × (s.ticket ≡ ticket) × (s.memory ≡ memory) × (taken new ≡ taken old ++ in_state WAITS s ∷ [])

-- the request that is asked for under a ticket, where this lies in the memory of clients
abbrev pub entry_with : Memory → ℕ → Asked → ℕ → Entry
entry_with memory client asked ticket = record {
  ticket = ticket;
  client = client;
  request = request_by asked.kind asked.part asked.start asked.count (memory ticket);
  buffer = room_by asked.kind (memory ticket);
}
