use Rattle.mmc_card.specs.Faults.{PollStep}
use Rattle.mmc_card.specs.declared.exchange.Exchange.TheVariants.{Busy}
use Rattle.mmc_host.proofs.BusLemmas.{exchanged}
use Rattle.mmc_host.proofs.host_bus.HostBusBus.busy.Goals as goal

pub returns-clause-polled : goal.returns-clause-polled
returns-clause-polled g c =
    exchanged (g.H.Host.view c.args.self.now.host) (g.H.Host.view c.look-yes.new.self.host) c.args.self.now.wire
    c.look-yes.new.self.wire c.note.new.self c.args.self.now.is_misused c.look-yes.new.self.is_misused
    (Busy c.look-yes.result) (λ old new. PollStep old c.look-yes.result new)
    c.look-yes.ensures.looked c.look-yes.ensures.wire c.note.ensures
