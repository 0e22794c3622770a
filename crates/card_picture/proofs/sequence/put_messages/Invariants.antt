use Rattle.std.proofs.Common.{◌≡◌, ◌++◌, drop}
use Rattle.card_picture.specs.Sequence.{messages_from}
use Rattle.card_picture.proofs.sequence.put_messages.Given as goal

abbrev pub invariant-loop-place : goal.invariant-loop-place
invariant-loop-place l =
    l.fn.out.items ++ messages_from l.fn.steps 0 l.fn.messages
    ≡ l.out.items ++ messages_from l.fn.steps l.place (drop l.place l.fn.messages)
