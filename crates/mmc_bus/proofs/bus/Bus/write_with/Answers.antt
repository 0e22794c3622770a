use Rattle.std.proofs.Common.{refl}
use Rattle.mmc_bus.specs.Together.{none_accepted, writes}
use Rattle.mmc_bus.proofs.bus.Bus.write_with.Goals as goal

pub returns : goal.returns
returns g c = record {
  between = g.Self.Bus.view c.command.new.self;
  commanded = c.command.ensures;
  unheard = λ command is err. refl;
  written = writes 0 _ none_accepted;
}
