use Rattle.std.proofs.Common.{◌≡◌, ◌++◌, drop, false}
use Rattle.card_explain.specs.Settling.{steps_from}
use Rattle.card_explain.specs.declared.settling.Phase.TheVariants.{Transfer}
use Rattle.card_explain.proofs.step.steps.Given as goal

abbrev pub invariant-loop-numbered : goal.invariant-loop-numbered
invariant-loop-numbered l =
    steps_from l.fn.kind false Transfer l.fn.exchanges
    ≡ l.steps.items ++ steps_from l.fn.kind l.is_app l.left (drop l.numbered-index l.fn.exchanges)
