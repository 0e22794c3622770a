use Rattle.std.proofs.Common.{◌∙◌, Bool, ap}
use Rattle.mmc_host.specs.HostStates.{sent}
use Rattle.mmc_host.specs.declared.told.HostState.{HostState}
use Rattle.mmc_sdhci.specs.Driver.{told_so}
use Rattle.mmc_sdhci.proofs.Hosting.{sent_over}
use Rattle.mmc_sdhci.proofs.sdhci.SdhciHost.send.Goals as goal

pub returns : goal.returns
returns g c =
    sent_over (g.R.Registers.view c.args.self.now.registers) (g.R.Registers.view c.send-heard.new.registers)
    (told_so c.args.self.now.state c.args.self.now.told) (told_so c.sent-self.result c.args.self.now.told) c.args.self.now.limits
    c.args.command c.send-heard.result
    c.args.self.now.lines c.args.self.now.most
    (ap (λ (s : HostState). told_so s c.args.self.now.told)
    (c.sent-self.ensures ∙ ap (λ (b : Bool). sent c.args.self.now.state c.args.command b) c.is_ok.ensures.value))
    c.send-heard.ensures.sent
