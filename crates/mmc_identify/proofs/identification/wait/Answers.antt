use Rattle.mmc_identify.proofs.JoinLemmas.{waited}
use Rattle.mmc_identify.proofs.identification.wait.Goals as goal

pub returns-clause-moves : goal.returns-clause-moves
returns-clause-moves g c kept =
    waited c.args.rca c.count_polls.result c.map_err.result (g.B.Bus.view c.args.bus.now)
    (g.B.Bus.view c.count_polls.new.bus) (λ n is. rw is at c.map_err.ensures.cases) c.map_err.ensures.variant (c.count_polls.ensures.calm kept)
    (c.count_polls.ensures.works kept)
