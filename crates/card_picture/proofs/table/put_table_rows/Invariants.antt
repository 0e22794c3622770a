use Rattle.std.proofs.Common.{◌≡◌, ◌++◌, drop}
use Rattle.card_picture.specs.Table.{table_rows}
use Rattle.card_picture.proofs.table.put_table_rows.Given as goal

abbrev pub invariant-loop-step : goal.invariant-loop-step
invariant-loop-step l =
    l.fn.out.items ++ table_rows l.fn.card l.fn.steps
    ≡ l.out.items ++ table_rows l.fn.card (drop l.step-index l.fn.steps)
