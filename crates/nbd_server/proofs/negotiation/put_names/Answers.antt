use Rattle.nbd_server.proofs.InputLemmas.{grows_none, grows_on, grows_then}
use Rattle.nbd_server.proofs.negotiation.put_names.Goals as goal
use Rattle.nbd_server.proofs.negotiation.put_names.Goals.{then-is_some+in_ok-put_name, else-is_some}

pub loop-part-init : goal.loop-part-init
loop-part-init g c = grows_none _

pub loop-part-preserved : goal.loop-part-preserved
loop-part-preserved g c =
    elim c.if-is_some.branch [
      | then-is_some+in_ok-put_name w ↦ rw w.out-is (grows_then _ _ _ c.loop-part.invariant w.in_ok-put_name.ensures)
      | else-is_some w ↦ rw w.out-is c.loop-part.invariant
    ]

pub returns : goal.returns
returns g c = grows_on _ _ _ c.put_plain.result _ c.loop-part.invariant c.put_plain.ensures
