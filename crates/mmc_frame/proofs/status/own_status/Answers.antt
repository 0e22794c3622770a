use Rattle.std.proofs.Common.{arith}
use Rattle.mmc_frame.proofs.StatusLemmas.{own_where_clear}
use Rattle.mmc_frame.proofs.status.own_status.Goals as goal

pub returns-clause-clear : goal.returns-clause-clear
returns-clause-clear c = λ kind none. (let own = own_where_clear kind c.args.status none in omega (arith, own))
