use Rattle.mmc_direct.proofs.AttemptLemmas.{made_write}
use Rattle.mmc_direct.proofs.writing.WritingRequest.run.Goals as goal

pub returns-clause-made : goal.returns-clause-made
returns-clause-made g c kept ready =
    let asked = c.args.self.now in
    made_write c.args.session asked.part asked.start (g.D.Blocks.blocks asked.blocks.now) (g.B.Bus.view c.args.bus.now)
    c.write_run.result (g.B.Bus.view c.write_run.new.bus) c.requires.selected (c.write_run.ensures.run kept ready)
