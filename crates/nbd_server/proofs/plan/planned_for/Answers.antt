use Rattle.nbd_server.proofs.plan.planned_for.Goals as goal

pub returns-in-Read-default : goal.returns-in-Read-default
returns-in-Read-default c = rw c.in-Read-default.is-0 (c.read.ensures _)

pub returns-in-Trim-default : goal.returns-in-Trim-default
returns-in-Trim-default c = rw c.in-Trim-default.is-0 (c.trim.ensures _)

pub returns-in-WriteZeroes-default : goal.returns-in-WriteZeroes-default
returns-in-WriteZeroes-default c = rw c.in-WriteZeroes-default.is-0 (c.write_zeroes.ensures _)
