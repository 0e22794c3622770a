use Rattle.mmc_bus.specs.Together.{none_good, reads}
use Rattle.mmc_host.proofs.host.Host.read_with.Goals as goal

pub returns : goal.returns
returns g c = record {
  between = g.Self.Host.view c.send.new.self;
  sent = c.send.ensures;
  read = reads 0 _ _ none_good;
}
