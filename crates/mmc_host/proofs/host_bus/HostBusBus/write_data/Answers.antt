use Rattle.mmc_card.specs.Faults.{WriteStep}
use Rattle.mmc_card.specs.declared.exchange.Exchange.TheVariants.{Out}
use Rattle.mmc_host.proofs.BusLemmas.{exchanged}
use Rattle.mmc_host.proofs.host_bus.HostBusBus.write_data.Goals as goal

pub returns-clause-written : goal.returns-clause-written
returns-clause-written g c =
    exchanged (g.H.Host.view c.args.self.now.host) (g.H.Host.view c.write_next-got.new.self.host) c.args.self.now.wire
    c.write_next-got.new.self.wire c.note.new.self c.args.self.now.is_misused c.write_next-got.new.self.is_misused
    (Out c.write_next-got.result) (λ old new. WriteStep old c.args.block.now c.write_next-got.result new)
    c.write_next-got.ensures.written c.write_next-got.ensures.wire c.note.ensures
