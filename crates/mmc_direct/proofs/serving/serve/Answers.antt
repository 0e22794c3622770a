use Rattle.mmc_switch.specs.Stands.{info_of}
use Rattle.mmc_direct.proofs.RequestLemmas.{has_refused, has_served}
use Rattle.mmc_direct.proofs.serving.serve.Goals as goal

pub returns-in-Some-clause-served : goal.returns-in-Some-clause-served
returns-in-Some-clause-served g c kept at =
    has_refused (g.R.Request.attempts c.args.request.now) (g.R.Request.change (info_of c.args.stands) c.args.request.now)
    (λ sets. g.R.Request.has sets c.args.request.now) (g.B.Bus.view c.args.bus.now) c.refused.result c.args.stands
    c.in-Some.refused c.refused.ensures.stands c.refused.ensures.answer at

pub returns-in-None-clause-served : goal.returns-in-None-clause-served
returns-in-None-clause-served g c kept at =
    let done = c.keep_trying.ensures in
    has_served (g.R.Request.attempts c.args.request.now) (g.R.Request.change (info_of c.args.stands) c.args.request.now)
    (λ sets. g.R.Request.has sets c.keep_trying.new.request) (g.B.Bus.view c.args.bus.now) c.of.result c.keep_trying.result
    (g.B.Bus.view c.keep_trying.new.bus) c.of.ensures.stands c.of.ensures.answer (done.tries.tried kept at) (done.has kept at)
