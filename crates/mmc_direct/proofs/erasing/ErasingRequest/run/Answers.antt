use Rattle.mmc_direct.proofs.AttemptLemmas.{made_erase}
use Rattle.mmc_direct.proofs.erasing.ErasingRequest.run.Goals as goal

pub returns-clause-made : goal.returns-clause-made
returns-clause-made g c kept ready =
    let asked = c.args.self.now in
    made_erase c.args.session asked.part asked.start asked.count (g.B.Bus.view c.args.bus.now) c.erase_run.result
    (g.B.Bus.view c.erase_run.new.bus) c.requires.selected (c.erase_run.ensures.run kept ready)
