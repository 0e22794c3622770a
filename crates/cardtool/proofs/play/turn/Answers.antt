use Rattle.std.proofs.Common.{sym, ◌∙◌}
use Rattle.std.proofs.lemmas.Bool.{eqb-true}
use Rattle.cardtool.proofs.ServingLemmas.{turned_in_silence}
use Rattle.cardtool.proofs.play.turn.Goals as goal

pub returns-then-is_empty-clause-turns : goal.returns-then-is_empty-clause-turns
returns-then-is_empty-clause-turns g c = λ kept.
    let turn = c.turn_into.ensures in
    turned_in_silence g.B.Bus.view c.args.device.now _ _ _ (turn.machine kept) turn.leaves
    (eqb-true _ _ (sym c.is_empty.ensures ∙ c.if-is_empty.true))

pub returns-then-is_empty-clause-later_device : goal.returns-then-is_empty-clause-later_device
returns-then-is_empty-clause-later_device g c =
    let turn = c.turn_into.ensures in record { info = turn.same.0; kept = turn.kept }

pub returns-clause-turns : goal.returns-clause-turns
returns-clause-turns g c = λ kept.
    let turn = c.turn_into.ensures in record {
      completions = c.turn_into.new.answers.items;
      turns = turn.machine kept;
      leaves = turn.leaves;
      printed = c.print.ensures.printed;
      bad_is = c.print.ensures.bad;
    }

pub returns-clause-later_device : goal.returns-clause-later_device
returns-clause-later_device g c =
    let turn = c.turn_into.ensures in record { info = turn.same.0; kept = turn.kept }
