use Rattle.std.proofs.Common.{[]}
use Rattle.nbd_server.proofs.DeskLemmas.{does_none, no_turns}
use Rattle.nbd_server.proofs.desk.Desk.make_room.Goals as goal

pub returns-else-is_full-clause-does : goal.returns-else-is_full-clause-does
returns-else-is_full-clause-does g c = ([], no_turns, does_none g.B.Bus.view _ _ tt)
