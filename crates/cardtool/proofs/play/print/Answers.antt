use Rattle.cardtool.proofs.ServingLemmas.{answered_as, printed_as}
use Rattle.cardtool.proofs.play.print.Goals as goal

pub returns-clause-printed : goal.returns-clause-printed
returns-clause-printed g c =
    rw c.answer.ensures (printed_as _ _ _ _ _ (rw c.as_slice.ensures.value at c.put_completions-printed.ensures))

pub returns-clause-bad : goal.returns-clause-bad
returns-clause-bad g c =
    rw (c.answer.ensures, c.has_failure-bad.ensures, c.as_slice-2.ensures.value) (answered_as _ c.put_completions-printed.result)
