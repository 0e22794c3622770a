use Rattle.std.proofs.Common.{[], None, refl, ◌++◌, ◌∷◌}
use Rattle.nbd_server.specs.Acts.Act.{Says}
use Rattle.nbd_server.proofs.DeskLemmas.{does_failed, does_then, on_no_ok, on_ok, says_does}
use Rattle.nbd_server.proofs.session.serve_flush.Goals as goal

pub returns-in_err-drain : goal.returns-in_err-drain
returns-in_err-drain g c =
    let (acts, turns, does) = c.in_err-drain.ensures.does in (
      acts,
      does_failed g.B.Bus.view _ _ _ _ acts _ _ c.from_residual.ensures.0 does,
      on_no_ok c.from_residual.result _ c.from_residual.ensures.0,
    )

pub returns : goal.returns
returns g c =
    let (acts, turns, first) = c.in_ok-drain.ensures.does in (
      acts ++ Says c.args.cookie None ∷ [],
      does_then g.B.Bus.view _ _ _ _ _ _ tt _ acts (Says c.args.cookie None ∷ []) first
          (says_does g.B.Bus.view _ c.args.cookie None _ _ _ c.put_reply.ensures),
      on_ok c.put_reply.result _ (acts, Says c.args.cookie None ∷ [], turns, refl, refl),
    )
