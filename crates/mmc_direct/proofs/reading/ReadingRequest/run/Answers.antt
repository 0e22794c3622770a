use Rattle.mmc_direct.proofs.AttemptLemmas.{made_read, was_read}
use Rattle.mmc_direct.proofs.reading.ReadingRequest.run.Goals as goal

pub returns-clause-made : goal.returns-clause-made
returns-clause-made g c kept ready =
    let asked = c.args.self.now in
    made_read c.args.session asked.part asked.start (g.D.Blocks.blocks c.read_run.new.blocks) (g.B.Bus.view c.args.bus.now)
    c.read_run.result (g.B.Bus.view c.read_run.new.bus) c.requires.selected (c.read_run.ensures.run kept ready)

pub returns-clause-has : goal.returns-clause-has
returns-clause-has g c kept ready =
    let asked = c.args.self.now in
    was_read c.args.session asked.part asked.start (g.D.Blocks.blocks c.read_run.new.blocks) (g.B.Bus.view c.args.bus.now)
    c.read_run.result (g.B.Bus.view c.read_run.new.bus) c.requires.selected (c.read_run.ensures.run kept ready)
