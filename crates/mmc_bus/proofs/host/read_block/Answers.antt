use Rattle.std.proofs.Common.{ap}
use Rattle.mmc_bus.specs.Heard.{cause_of}
use Rattle.mmc_bus.proofs.Hear.{read_facts, with_facts}
use Rattle.mmc_bus.proofs.host.read_block.Goals as goal

pub returns-clause-read : goal.returns-clause-read
returns-clause-read g c = with_facts _ _ _ c.read_data.ensures (λ k limits bounded step. read_facts _ _ _ _ _ limits bounded step)

pub returns-clause-cause : goal.returns-clause-cause
returns-clause-cause g c = ap cause_of c.read_data.ensures.last
