use Rattle.std.proofs.Common.{sym, ◌∙◌}
use Rattle.card_decode.proofs.WordLemmas.{name_here, name_next, name_end}
use Rattle.card_decode.proofs.meaning.name_in.Goals as goal

pub returns-then-name-value : goal.returns-then-name-value
returns-then-name-value c =
    sym (c.loop-name.invariant ∙ name_here c.args.names.now c.loop-name.name-index c.args.value c.loop-name-test.true
    c.if-name-value.true)

pub loop-name-preserved : goal.loop-name-preserved
loop-name-preserved c =
    c.loop-name.invariant
    ∙ name_next c.args.names.now c.loop-name.name-index c.args.value c.loop-name-test.true c.if-name-value.false

pub returns : goal.returns
returns c =
    sym (c.loop-name.invariant
    ∙ name_end c.args.names.now c.loop-name.name-index c.args.value c.loop-name-test.false)
