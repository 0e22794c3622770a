use Rattle.std.proofs.Common.{refl}
use Rattle.mmc_bus.specs.Together.{none_accepted, writes}
use Rattle.mmc_host.proofs.host.Host.write_with.Goals as goal

pub returns : goal.returns
returns g c = record {
  between = g.Self.Host.view c.send.new.self;
  sent = c.send.ensures;
  unheard = λ silent. refl;
  written = writes 0 _ none_accepted;
}
