use Rattle.nbd_server.proofs.InputLemmas.{grows_by, grows_then}
use Rattle.nbd_server.proofs.negotiation.put_answer.Goals as goal

pub returns-in_ok-put_bytes-2 : goal.returns-in_ok-put_bytes-2
returns-in_ok-put_bytes-2 g c =
    grows_then _ _ _ (grows_by _ _ _ c.in_ok-put_bytes.ensures) (grows_by _ _ _ c.in_ok-put_bytes-2.ensures)
