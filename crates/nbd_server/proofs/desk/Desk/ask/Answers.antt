use Rattle.std.proofs.Common.{[], refl, ◌++◌, ◌∷◌}
use Rattle.nbd_server.specs.Acts.Act.{Asks}
use Rattle.nbd_server.proofs.DeskLemmas.{does_failed, does_then, on_no_ok, on_ok}
use Rattle.nbd_server.proofs.desk.Desk.ask.Goals as goal

pub returns-in_err-make_room : goal.returns-in_err-make_room
returns-in_err-make_room g c =
    let (acts, none, does) = c.in_err-make_room.ensures.does in (
      acts,
      does_failed g.B.Bus.view _ _ _ _ acts _ _ c.from_residual.ensures.0 does,
      on_no_ok c.from_residual.result _ c.from_residual.ensures.0,
    )

pub returns : goal.returns
returns g c =
    let (acts, none, first) = c.in_ok-make_room.ensures.does in
    let (reply, second) = c.submit_or_reply.ensures in (
      acts ++ Asks c.args.cookie c.args.request reply ∷ [],
      does_then g.B.Bus.view _ _ _ _ _ _ tt _ acts (Asks c.args.cookie c.args.request reply ∷ []) first second,
      on_ok c.submit_or_reply.result _ (acts, reply, none, refl),
    )
