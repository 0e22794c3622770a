use Rattle.std.proofs.Common.{length}
use Rattle.mmc_card.specs.Faults.{ReadStep}
use Rattle.mmc_card.specs.declared.exchange.Exchange.TheVariants.{In}
use Rattle.mmc_host.proofs.BusLemmas.{exchanged}
use Rattle.mmc_host.proofs.host_bus.HostBusBus.read_data.Goals as goal

pub returns-clause-read : goal.returns-clause-read
returns-clause-read g c =
    exchanged (g.H.Host.view c.args.self.now.host) (g.H.Host.view c.read_next-got.new.self.host) c.args.self.now.wire
    c.read_next-got.new.self.wire c.note.new.self c.args.self.now.is_misused c.read_next-got.new.self.is_misused
    (In (length c.args.buffer.now) c.read_next-got.result) (λ old new. ReadStep old (length c.args.buffer.now) c.read_next-got.result c.read_next-got.new.block new)
    c.read_next-got.ensures.read c.read_next-got.ensures.wire c.note.ensures
