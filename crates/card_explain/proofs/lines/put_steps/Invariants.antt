use Rattle.std.proofs.Common.{◌≡◌, ◌++◌, drop}
use Rattle.card_explain.specs.Explained.{lines_by}
use Rattle.card_explain.proofs.lines.put_steps.Given as goal

abbrev pub invariant-loop-step : goal.invariant-loop-step
invariant-loop-step l =
    l.fn.out.items ++ lines_by l.fn.card l.fn.steps
    ≡ l.out.items ++ lines_by l.fn.card (drop l.step-index l.fn.steps)
