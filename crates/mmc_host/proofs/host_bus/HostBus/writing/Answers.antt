use Rattle.std.proofs.Common.{rules}
use Rattle.mmc_host.proofs.host_bus.HostBus.writing.Goals as goal

pub returns-clause-can : goal.returns-clause-can
returns-clause-can g c = record {
  index = search rules;
  holds = search rules;
  response = search rules;
  movable = search rules;
  told = search rules;
  free = search rules;
  clock = search rules;
  ahead = search rules;
  set = search rules;
}
