use Rattle.std.proofs.Common.{[]}
use Rattle.nbd_server.proofs.DeskLemmas.{does_failed, does_none, no_turns}
use Rattle.nbd_server.proofs.SessionLemmas.{does_flushed}
use Rattle.nbd_server.proofs.session.settle.Goals as goal

pub returns-then-has_request-clause-does : goal.returns-then-has_request-clause-does
returns-then-has_request-clause-does g c = ([], no_turns, does_none g.B.Bus.view _ _ tt)

pub returns-in_err-drain-clause-does : goal.returns-in_err-drain-clause-does
returns-in_err-drain-clause-does g c =
    let (acts, none, does) = c.in_err-drain.ensures.does in
    (acts, none, does_failed g.B.Bus.view _ _ _ _ acts _ _ c.from_residual.ensures.0 does)

pub returns-clause-does : goal.returns-clause-does
returns-clause-does g c =
    let (acts, none, does) = c.in_ok-drain.ensures.does in
    (acts, none, does_flushed g.B.Bus.view _ _ _ _ _ tt c.flush.result acts does c.flush.ensures)
