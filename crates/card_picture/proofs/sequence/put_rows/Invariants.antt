use Rattle.std.proofs.Common.{◌≡◌, ◌++◌, drop}
use Rattle.card_picture.specs.Sequence.{rows_from}
use Rattle.card_picture.proofs.sequence.put_rows.Given as goal

abbrev pub invariant-loop-place : goal.invariant-loop-place
invariant-loop-place l =
    l.fn.out.items ++ rows_from l.fn.card l.fn.messages 0 l.fn.steps
    ≡ l.out.items ++ rows_from l.fn.card l.fn.messages l.place (drop l.place l.fn.steps)
