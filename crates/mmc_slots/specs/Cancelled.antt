-- Why a request isn't given back.
use Rattle.std.specs.Prelude.{◌==◌, ◌||◌, ◌≡◌, ◌≢◌, All, Any, Bool, List, false, true, ℕ}
use Rattle.mmc_slots.specs.declared.cancellation.CancelFault.{CancelFault}
use Rattle.mmc_slots.specs.declared.cancellation.CancelFault.TheVariants.{InService, Unknown}
use Rattle.mmc_slots.specs.declared.slot.Slot.{Slot}
use Rattle.mmc_slots.specs.declared.slot.TheConstants.{ALONE, TOGETHER, WAITS}

-- the slot holds a request that has no answer
abbrev pub is_request : Slot → Bool
is_request s = (s.state == WAITS) || ((s.state == TOGETHER) || (s.state == ALONE))

-- no request has the ticket, or one has that doesn't wait
abbrev pub IsWhy : List Slot → ℕ → CancelFault → Type 0
IsWhy slots ticket Unknown = All (λ s. s.ticket ≡ ticket → is_request s ≡ false) slots
IsWhy slots ticket InService = Any (λ s. (s.ticket ≡ ticket) × (is_request s ≡ true) × (s.state ≢ WAITS)) slots
