use Rattle.std.proofs.Common.{◌≡◌, ◌++◌, drop}
use Rattle.card_picture.specs.Timing.{columns_from}
use Rattle.card_picture.proofs.timing.put_columns.Given as goal

abbrev pub invariant-loop-place : goal.invariant-loop-place
invariant-loop-place l =
    l.fn.out.items ++ columns_from l.fn.card 0 l.fn.steps
    ≡ l.out.items ++ columns_from l.fn.card l.place (drop l.place l.fn.steps)
