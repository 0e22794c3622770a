use Rattle.std.proofs.Common.{[], refl}
use Rattle.nbd_server.proofs.DeskLemmas.{does_none}
use Rattle.nbd_server.proofs.session.serve_message.Goals as goal

pub returns-in_default : goal.returns-in_default
returns-in_default g c = ([], does_none g.B.Bus.view _ _ tt, (refl, c.in_default.ensures))
