-- Slots, and the sector machine whose requests they hold.
use Rattle.std.specs.Prelude.{◌*◌, ◌++◌, ◌==◌, ◌≡◌, ◌≤◌, ◌⊎◌, [], List, if◌then◌else◌, length, true, ℕ}
use Rattle.mmc_card.specs.Sectors.{Sets, Within}
use Rattle.mmc_block.specs.Entries.{AreServable, waits_of}
use Rattle.mmc_block.specs.Groups.{AreInOrder}
use Rattle.mmc_block.specs.Machine.{Machine, all_failed}
use Rattle.mmc_block.specs.Service.{AreServed}
use Rattle.mmc_requests.specs.Kinds.{moves_blocks}
use Rattle.mmc_requests.specs.declared.asked.Asked.{Asked}
use Rattle.mmc_slots.specs.Slots.{AreOrdered, Memory, entries_in}
use Rattle.mmc_slots.specs.declared.slot.Slot.{Slot}
use Rattle.mmc_slots.specs.declared.slot.TheConstants.{ALONE, TOGETHER, WAITS}
use Rattle.mmc_switch.specs.declared.info.Info.{Info}

-- The machine's requests are those of the slots, where this lies in the memory of their clients: some wait; some are in service together,
-- and others after them, to be served alone. And the card, whose sectors hold this, holds no more than the machine allows.
pub record Agrees (info : Info) (memory : Memory) (slots : List Slot) (next : ℕ) (card : Sets) (machine : Machine) : Type 0 where
  pub waits : machine.waits ≡ waits_of (entries_in memory WAITS slots)
  pub in_service : machine.in_service ≡ waits_of (entries_in memory TOGETHER slots) ++ waits_of (entries_in memory ALONE slots)
  pub next_is : machine.next ≡ next
  pub within : Within card (all_failed info machine.in_service machine.sets)
  -- tickets ascend, in the slots and in the machine, whose requests in service pass no earlier one that waits and conflicts
  pub ordered : AreOrdered next slots
  pub in_order : AreInOrder 0 machine.waits machine.next
  pub served : AreServed machine.in_service machine.waits machine.next
  -- each request can be served, and where some are to be served alone one at most is in service before them
  pub may_wait : AreServable info (entries_in memory WAITS slots)
  pub may_serve : AreServable info (entries_in memory TOGETHER slots)
  pub may_alone : AreServable info (entries_in memory ALONE slots)
  pub few : (length (entries_in memory TOGETHER slots) ≤ 1) ⊎ (entries_in memory ALONE slots ≡ [])

-- a client lends these bytes with a request of this ticket
abbrev pub lent_more : Memory → ℕ → List ℕ → Memory
lent_more memory ticket bytes t = if t == ticket then bytes else memory t

-- as many bytes as the request moves
abbrev pub Fits : Asked → List ℕ → Type 0
Fits asked bytes = moves_blocks asked.kind ≡ true → length bytes ≡ 512 * asked.count
