use Rattle.text_out.proofs.WritingLemmas.{front_before, writes_after, writes_failed}
use Rattle.nbd_server.proofs.desk.put_data.Goals as goal

pub returns-in_err-put_reply : goal.returns-in_err-put_reply
returns-in_err-put_reply g c =
    writes_failed _ _ c.from_residual.result _ c.from_residual.ensures.0
    (front_before _ _ _ c.args.bytes.now c.in_err-put_reply.ensures)

pub returns : goal.returns
returns g c = writes_after _ _ _ _ _ _ c.in_ok-put_reply.ensures c.put_bytes.ensures
