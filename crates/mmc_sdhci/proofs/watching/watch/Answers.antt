use Rattle.mmc_sdhci.proofs.Glancing.{watches_then}
use Rattle.mmc_sdhci.proofs.watching.watch.Goals as goal

pub returns-clause-watches : goal.returns-clause-watches
returns-clause-watches g c =
    let view = g.R.Registers.view in
    watches_then c.args.sought (view c.args.registers.now) (view c.look_often-2.new.registers) (view c.wait.new.registers) c.wait.result
    c.requires c.in_default.ensures.watches c.wait.ensures.watches
