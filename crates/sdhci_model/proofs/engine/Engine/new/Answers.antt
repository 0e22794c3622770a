use Rattle.std.proofs.Common.{ap}
use Rattle.sdhci_model.specs.Shown.{running_in}
use Rattle.sdhci_model.proofs.engine.Engine.new.Goals as goal

pub returns-clause-new : goal.returns-clause-new
returns-clause-new g c kept =
    (c.new-2.ensures.still (g.S.HasStory.story.outcome c.new.result.past), (ap running_in c.new-2.ensures.running, c.new-2.ensures.transfer))
