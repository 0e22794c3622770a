use Rattle.mmc_direct.proofs.AttemptLemmas.{settled_prepared}
use Rattle.mmc_direct.proofs.CauseLemmas.{caused_by_settle}
use Rattle.mmc_direct.proofs.attempts.settled.Goals as goal

pub returns-clause-prepared : goal.returns-clause-prepared
returns-clause-prepared g c kept at =
    let done = c.settle_with-outcome.ensures in
    settled_prepared (g.B.Bus.view c.args.bus.now) c.args.broken c.settle_with-outcome.result.0
    (g.B.Bus.view c.settle_with-outcome.new.bus) (done.stays kept) (done.settled kept at) (done.refused kept at)

pub returns-clause-cause : goal.returns-clause-cause
returns-clause-cause g c =
    caused_by_settle c.args.broken (g.B.Bus.view c.args.bus.now) c.settle_with-outcome.result.0
    (g.B.Bus.view c.settle_with-outcome.new.bus) c.settle_with-outcome.ensures.bounded c.settle_with-outcome.ensures.err
