use Rattle.mmc_bus.proofs.PollLemmas.{waited_out}
use Rattle.mmc_bus.proofs.wait.wait_while_busy.Goals as goal

pub returns-clause-works : goal.returns-clause-works
returns-clause-works g c kept =
    waited_out c.count_polls.result c.map.result (g.B.Bus.view c.args.bus.now) (g.B.Bus.view c.count_polls.new.bus)
    c.map.ensures.variant (c.count_polls.ensures.works kept)
