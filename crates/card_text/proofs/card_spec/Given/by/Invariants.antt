use Rattle.std.proofs.Common.{◌≡◌, take}
use Rattle.card_text.specs.CardSpecs.{given_by}
use Rattle.card_text.proofs.card_spec.Given.by.Given as goal

abbrev pub invariant-loop-line : goal.invariant-loop-line
invariant-loop-line l = l.given ≡ given_by (take l.line-index l.fn.lines)
