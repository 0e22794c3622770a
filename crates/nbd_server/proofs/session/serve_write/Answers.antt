use Rattle.std.proofs.Common.{None, Some, inl, inr, refl}
use Rattle.nbd_server.specs.Acts.Act.{Says}
use Rattle.nbd_server.specs.declared.plan.Plan.TheVariants.{WriteLong}
use Rattle.nbd_server.proofs.DeskLemmas.{does_failed, on_no_ok, says_does}
use Rattle.nbd_server.proofs.SessionLemmas.{served_long}
use Rattle.nbd_server.proofs.session.serve_write.Goals as goal

pub returns-in_err-drain : goal.returns-in_err-drain
returns-in_err-drain g c =
    let (acts, turns, does) = c.in_err-drain.ensures.does in (
      acts,
      does_failed g.B.Bus.view _ _ _ _ acts _ _ c.from_residual.ensures.0 does,
      on_no_ok c.from_residual.result _ c.from_residual.ensures.0,
    )

pub returns-in-Ok : goal.returns-in-Ok
returns-in-Ok g c =
    let (acts, turns, first) = c.in_ok-drain.ensures.does in
    let (parts, of_parts, leads, (windows, written, are), nothing) = c.in-Ok.ensures.leads in
    served_long g.B.Bus.view _ _ _ _ _ _ tt _ acts parts (Says c.args.cookie None) c.args.part c.args.cookie
    (WriteLong c.args.span c.args.bytes) first turns c.in_ok-drain.ensures.none of_parts leads c.in-Ok.ensures.none
    (says_does g.B.Bus.view _ c.args.cookie None _ _ _ c.put_reply.ensures) (inr (record {
      parts = parts;
      windows = windows;
      of_parts = of_parts;
      written = written;
      are = are;
      done = refl;
    }))

pub returns-in-Err : goal.returns-in-Err
returns-in-Err g c =
    let (acts, turns, first) = c.in_ok-drain.ensures.does in
    let (parts, of_parts, leads, nothing, failed) = c.in-Err.ensures.leads in
    served_long g.B.Bus.view _ _ _ _ _ _ tt _ acts parts (Says c.args.cookie (Some c.in-Err.error)) c.args.part c.args.cookie
    (WriteLong c.args.span c.args.bytes) first turns c.in_ok-drain.ensures.none of_parts leads c.in-Err.ensures.none
    (says_does g.B.Bus.view _ c.args.cookie (Some c.in-Err.error) _ _ _ c.put_reply-in-Err.ensures)
    (inl (parts, c.in-Err.error, of_parts, refl, failed))
