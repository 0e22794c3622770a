-- No rule so far is about the exchange.
use Rattle.std.proofs.Common.{take}
use Rattle.std.specs.List.{All}
use Rattle.card_rules.specs.Chosen.{IsQuiet}
use Rattle.card_rules.proofs.rules.said.Given as goal

abbrev pub invariant-loop-i : goal.invariant-loop-i
invariant-loop-i l = All (IsQuiet l.fn.number l.fn.moment l.fn.before) (take l.i l.fn.rules)
