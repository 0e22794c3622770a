use Rattle.std.proofs.Common.{refl}
use Rattle.mmc_bus.proofs.ClosingLemmas.{ended}
use Rattle.mmc_bus.proofs.status.wait_and_confirm.Goals as goal

pub returns-clause-works : goal.returns-clause-works
returns-clause-works g c kept =
    let q = c.confirm_within.ensures.works kept in
    ended c.args.kind c.args.rca _ _ c.confirm_within.result (g.B.Bus.view c.args.bus.now)
    (g.B.Bus.view c.count_polls.new.bus) (g.B.Bus.view c.confirm_within.new.bus) refl
    (c.in_ok-polls.ensures.works q.was_kept) q
