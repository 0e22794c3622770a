use Rattle.mmc_bus.specs.Together.{none_good, reads}
use Rattle.mmc_bus.proofs.bus.Bus.read_with.Goals as goal

pub returns : goal.returns
returns g c = record {
  between = g.Self.Bus.view c.command.new.self;
  commanded = c.command.ensures;
  read = reads 0 _ _ none_good;
}
