use Rattle.std.proofs.Common.{◌≡◌, ◌≤◌, take}
use Rattle.card_picture.specs.Sequence.{messages_before}
use Rattle.card_picture.proofs.sequence.messages_before.Given as goal

abbrev pub invariant-loop-message : goal.invariant-loop-message
invariant-loop-message l = record {
  counted : l.count ≡ messages_before (take l.message-index l.fn.messages) l.fn.number;
  few : l.count ≤ l.message-index;
}
