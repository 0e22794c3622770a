use Rattle.std.proofs.Common.{◌≡◌, ◌≤◌, take}
use Rattle.card_picture.specs.Sequence.{exchanges_before}
use Rattle.card_picture.proofs.sequence.exchanges_before.Given as goal

abbrev pub invariant-loop-step : goal.invariant-loop-step
invariant-loop-step l = record {
  counted : l.count ≡ exchanges_before (take l.step-index l.fn.steps) l.fn.after;
  few : l.count ≤ l.step-index;
}
