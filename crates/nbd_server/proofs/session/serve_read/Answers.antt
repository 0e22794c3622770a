use Rattle.std.proofs.Common.{Some, inl, inr, refl}
use Rattle.nbd_server.specs.Acts.Act.{Gives, Says}
use Rattle.nbd_server.specs.declared.plan.Plan.TheVariants.{ReadLong}
use Rattle.nbd_server.proofs.DeskLemmas.{does_failed, gives_does, on_no_ok, says_does}
use Rattle.nbd_server.proofs.SessionLemmas.{served_long}
use Rattle.nbd_server.proofs.session.serve_read.Goals as goal

pub returns-in_err-drain : goal.returns-in_err-drain
returns-in_err-drain g c =
    let (acts, turns, does) = c.in_err-drain.ensures.does in (
      acts,
      does_failed g.B.Bus.view _ _ _ _ acts _ _ c.from_residual.ensures.0 does,
      on_no_ok c.from_residual.result _ c.from_residual.ensures.0,
    )

pub returns-in-Ok : goal.returns-in-Ok
returns-in-Ok g c =
    let (acts, turns, first) = c.in_ok-drain.ensures.does in
    let (parts, of_parts, leads, (windows, read, are), nothing) = c.in-Ok.ensures.leads in
    let wrote = rw c.as_slice.ensures.value at c.put_data.ensures in
    served_long g.B.Bus.view _ _ _ _ _ _ tt _ acts parts (Gives c.args.cookie c.in-Ok.data.items) c.args.part c.args.cookie (ReadLong c.args.span) first turns
    c.in_ok-drain.ensures.none of_parts leads c.in-Ok.ensures.none
    (gives_does g.B.Bus.view _ c.args.cookie c.in-Ok.data.items _ _ _ wrote) (inr (record {
      parts = parts;
      bytes = c.in-Ok.data.items;
      windows = windows;
      of_parts = of_parts;
      read = read;
      are = are;
      done = refl;
    }))

pub returns-in-Err : goal.returns-in-Err
returns-in-Err g c =
    let (acts, turns, first) = c.in_ok-drain.ensures.does in
    let (parts, of_parts, leads, nothing, failed) = c.in-Err.ensures.leads in
    served_long g.B.Bus.view _ _ _ _ _ _ tt _ acts parts (Says c.args.cookie (Some c.in-Err.error)) c.args.part c.args.cookie (ReadLong c.args.span) first turns
    c.in_ok-drain.ensures.none of_parts leads c.in-Err.ensures.none
    (says_does g.B.Bus.view _ c.args.cookie (Some c.in-Err.error) _ _ _ c.put_reply.ensures) (inl (parts, c.in-Err.error, of_parts, refl, failed))
