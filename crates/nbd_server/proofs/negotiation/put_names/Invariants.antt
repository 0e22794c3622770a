use Rattle.nbd_server.specs.Session.{Grows}
use Rattle.nbd_server.proofs.negotiation.put_names.Given as goal

abbrev pub invariant-loop-part : goal.invariant-loop-part
invariant-loop-part g l = Grows (g.W.Write.contents l.fn.out) (g.W.Write.contents l.out)
