use Rattle.std.proofs.Common.{[], Err, Ok, ◌∷◌}
use Rattle.nbd_server.specs.Acts.{reply_to}
use Rattle.nbd_server.specs.Acts.Act.{AsksPart}
use Rattle.nbd_server.proofs.DeskLemmas.{as_part, leads_none, no_parts, one_part}
use Rattle.nbd_server.proofs.PartsLemmas.{never_failed, nothing_gathered, part_accepted, part_gathers_nothing}
use Rattle.nbd_server.proofs.desk.Desk.ask_part.Goals as goal

pub returns-then-is_full-clause-leads : goal.returns-then-is_full-clause-leads
returns-then-is_full-clause-leads g c = ([], no_parts, leads_none g.B.Bus.view _, nothing_gathered, tt)

pub returns-in-Ok-clause-leads : goal.returns-in-Ok-clause-leads
returns-in-Ok-clause-leads g c = (
  AsksPart c.args.request (reply_to (Ok c.in-Ok.field-0)) ∷ [],
  one_part _ tt,
  as_part g.B.Bus.view _ _ c.args.request (Ok c.in-Ok.field-0) c.in-Ok.ensures.leads,
  part_gathers_nothing c.args.request _,
  part_accepted c.in-Ok.field-0 c.args.request,
)

pub returns-in-Err-clause-leads : goal.returns-in-Err-clause-leads
returns-in-Err-clause-leads g c = (
  AsksPart c.args.request (reply_to (Err c.in-Err.refused)) ∷ [],
  one_part _ tt,
  as_part g.B.Bus.view _ _ c.args.request (Err c.in-Err.refused) c.in-Err.ensures.leads,
  part_gathers_nothing c.args.request _,
  tt,
)

pub returns-in-Err-clause-refused : goal.returns-in-Err-clause-refused
returns-in-Err-clause-refused g c = rw c.error_of.ensures (never_failed c.in-Err.refused)
