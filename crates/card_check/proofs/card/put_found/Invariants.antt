use Rattle.card_check.proofs.WrongLineLemmas.{PutSoFar}
use Rattle.card_check.proofs.card.put_found.Given as goal

abbrev pub invariant-loop-finding : goal.invariant-loop-finding
invariant-loop-finding g l =
    PutSoFar l.fn.found l.finding-index (g.W.Write.contents l.fn.out) (g.W.Write.contents l.out)
