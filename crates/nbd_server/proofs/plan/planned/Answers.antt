use Rattle.std.proofs.Common.{inr}
use Rattle.nbd_server.proofs.plan.planned.Goals as goal

pub returns-in-Some-span_of : goal.returns-in-Some-span_of
returns-in-Some-span_of c =
    inr (inr (c.in-Some.command, c.in-Some-span_of.span, c.in-Some.is, c.in-Some-span_of.ensures, c.planned_for.ensures))
