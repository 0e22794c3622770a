use Rattle.nbd_server.proofs.InputLemmas.{grows_by, grows_on, grows_then}
use Rattle.nbd_server.proofs.negotiation.put_info.Goals as goal

pub returns : goal.returns
returns g c =
    grows_on _ _ _ c.put_plain.result _
    (grows_then _ _ _
    (grows_then _ _ _
    (grows_then _ _ _ (grows_by _ _ _ c.in_ok-put_bytes.ensures) (grows_by _ _ _ c.in_ok-put_bytes-2.ensures))
    (grows_by _ _ _ c.in_ok-put_bytes-3.ensures))
    (grows_by _ _ _ c.in_ok-put_bytes-4.ensures))
    c.put_plain.ensures
