use Rattle.std.proofs.Common.{◌++◌}
use Rattle.nbd_server.proofs.DeskLemmas.{does_then}
use Rattle.nbd_server.proofs.SessionLemmas.{does_broken, does_flushed, if_no_ok, turns_after}
use Rattle.nbd_server.proofs.session.serve_export.Goals as goal

pub returns-in_err-ended : goal.returns-in_err-ended
returns-in_err-ended g c =
    let (acts, does, taken) = c.in_err-ended.ensures in
    let failed = c.from_residual.ensures.0 in (
      acts,
      does_broken g.B.Bus.view _ _ _ _ acts _ c.from_residual.result failed does,
      if_no_ok c.from_residual.result _ failed,
    )

pub returns-in_err-drain : goal.returns-in_err-drain
returns-in_err-drain g c =
    let (acts, does, taken) = c.in_ok-ended.ensures in
    let (more, none, drains) = c.in_err-drain.ensures.does in
    let failed = c.from_residual-in_err-drain.ensures.0 in
    let result = c.from_residual-in_err-drain.result in (
      acts ++ more,
      does_broken g.B.Bus.view _ _ _ _ (acts ++ more) _ result failed
          (does_then g.B.Bus.view _ _ _ _ _ _ tt _ acts more does drains),
      if_no_ok result _ failed,
    )

pub returns-in_err-flush : goal.returns-in_err-flush
returns-in_err-flush g c =
    let (acts, does, taken) = c.in_ok-ended.ensures in
    let (more, none, drains) = c.in_ok-drain.ensures.does in
    let failed = c.from_residual-in_err-flush.ensures.0 in
    let result = c.from_residual-in_err-flush.result in (
      acts ++ more,
      does_broken g.B.Bus.view _ _ _ _ (acts ++ more) _ result failed
          (does_flushed g.B.Bus.view _ _ _ _ _ tt _ (acts ++ more)
          (does_then g.B.Bus.view _ _ _ _ _ _ tt _ acts more does drains) c.in_err-flush.ensures),
      if_no_ok result _ failed,
    )

pub returns : goal.returns
returns g c =
    let (acts, does, (left, served, taken, ends)) = c.in_ok-ended.ensures in
    let (more, turns, drains) = c.in_ok-drain.ensures.does in (
      acts ++ more,
      does_flushed g.B.Bus.view _ _ _ _ _ tt _ (acts ++ more)
          (does_then g.B.Bus.view _ _ _ _ _ _ tt _ acts more does drains) c.in_ok-flush.ensures,
      (c.in_ok-drain.ensures.none, (left, served, turns_after _ _ _ acts more served taken turns, ends)),
    )
