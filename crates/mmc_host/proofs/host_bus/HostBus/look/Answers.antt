use Rattle.mmc_host.proofs.BusLemmas.{does_poll}
use Rattle.mmc_host.proofs.host_bus.HostBus.look.Goals as goal

pub returns-clause-looked : goal.returns-clause-looked
returns-clause-looked g c =
    does_poll (g.H.Host.view c.args.self.now.host) (g.H.Host.view c.is_busy.new.self) c.args.self.now.wire
    c.args.self.now.is_misused c.is_busy.result c.is_busy.ensures
