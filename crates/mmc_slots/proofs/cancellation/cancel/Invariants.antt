use Rattle.std.proofs.Common.{◌≡◌, false, take}
use Rattle.std.specs.Prelude.{All}
use Rattle.mmc_slots.specs.Cancelled.{is_request}
use Rattle.mmc_slots.proofs.cancellation.cancel.Given as goal

abbrev pub invariant-loop-k : goal.invariant-loop-k
invariant-loop-k l = record {
  same : l.slots ≡ l.fn.slots;
  none : All (λ s. s.ticket ≡ l.ticket → is_request s ≡ false) (take l.k l.slots);
}
