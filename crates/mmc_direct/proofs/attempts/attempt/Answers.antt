use Rattle.std.proofs.Common.{subst}
use Rattle.mmc_card.specs.Sectors.{Change}
use Rattle.mmc_direct.proofs.AttemptLemmas.{tried, tried_in_vain}
use Rattle.mmc_direct.proofs.CauseLemmas.{caused_by_exchange}
use Rattle.mmc_direct.proofs.RefusalLemmas.{still_served}
use Rattle.mmc_direct.specs.Runs.{HasMade}
use Rattle.mmc_switch.specs.Stands.{info_of}
use Rattle.mmc_direct.proofs.attempts.attempt.Goals as goal

pub returns-in_err-session-clause-tried : goal.returns-in_err-session-clause-tried
returns-in_err-session-clause-tried g c kept at =
    tried_in_vain (g.R.Request.change (info_of c.args.stands) c.args.request.now) c.in_err-session.field-0.0
    c.from_residual.result (g.B.Bus.view c.args.bus.now) (g.B.Bus.view c.prepared.new.bus) c.from_residual.ensures.1
    (c.in_err-session.ensures.prepared kept at)

pub run-requires-clause-served : goal.run-requires-clause-served
run-requires-clause-served g c =
    still_served (g.R.Request.asked c.args.request.now) c.in_ok-session.session.info (info_of c.args.stands)
    c.in_ok-session.ensures.info c.requires.served

pub returns-clause-tried : goal.returns-clause-tried
returns-clause-tried g c kept at =
    let session = c.in_ok-session.session in
    let info = info_of c.args.stands in
    let request = c.args.request.now in
    let b = g.B.Bus.view c.prepared.new.bus in
    let new = g.B.Bus.view c.run.new.bus in
    let was = c.in_ok-session.ensures.prepared (c.run.ensures.kept kept) at in
    tried (g.R.Request.change info request) session (g.B.Bus.view c.args.bus.now) b c.run.result new was
    (subst (λ (change : Change). HasMade change b c.run.result new)
    (g.met.R.Request.changes_by_lasting session.info info request c.in_ok-session.ensures.info)
    (c.run.ensures.made kept was.stands))

pub returns-clause-cause : goal.returns-clause-cause
returns-clause-cause g c =
    caused_by_exchange 0 (g.B.Bus.view c.args.bus.now) c.run.result (g.B.Bus.view c.run.new.bus) c.run.ensures.cause
