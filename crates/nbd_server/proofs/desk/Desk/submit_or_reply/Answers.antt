use Rattle.mmc_block.specs.Execution.Reply.{Accepted, RefusedFor}
use Rattle.nbd_server.proofs.DeskLemmas.{accepted_does, refused_does}
use Rattle.nbd_server.proofs.desk.Desk.submit_or_reply.Goals as goal

pub returns-in-Ok : goal.returns-in-Ok
returns-in-Ok g c = (
  Accepted c.in-Ok.field-0,
  accepted_does g.B.Bus.view _ _ c.args.cookie c.in-Ok.field-0 c.args.request _ tt c.in-Ok.ensures.leads c.in-Ok.ensures.once,
)

pub returns-in-Err : goal.returns-in-Err
returns-in-Err g c = (
  RefusedFor c.in-Err.refused,
  refused_does g.B.Bus.view _ _ c.args.cookie c.in-Err.refused c.args.request _ _ _ c.in-Err.ensures.leads
      c.in-Err.ensures.once (rw c.error_of.ensures at c.put_reply.ensures),
)
