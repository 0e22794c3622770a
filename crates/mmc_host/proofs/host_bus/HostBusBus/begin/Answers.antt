use Rattle.mmc_card.specs.Faults.{CommandStep}
use Rattle.mmc_card.specs.declared.exchange.Exchange.TheVariants.{Command}
use Rattle.mmc_host.proofs.BusLemmas.{exchanged}
use Rattle.mmc_host.proofs.host_bus.HostBusBus.begin.Goals as goal

pub returns-clause-commanded : goal.returns-clause-commanded
returns-clause-commanded g c =
    exchanged (g.H.Host.view c.args.self.now.host) (g.H.Host.view c.carry-reply.new.self.host) c.args.self.now.wire
    c.carry-reply.new.self.wire c.note.new.self c.args.self.now.is_misused c.carry-reply.new.self.is_misused
    (Command c.args.frame c.args.want c.carry-reply.result) (λ old new. CommandStep old c.args.frame c.carry-reply.result new)
    c.carry-reply.ensures.sent c.carry-reply.ensures.wire c.note.ensures
