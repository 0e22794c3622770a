use Rattle.std.proofs.Common.{ap}
use Rattle.mmc_bus.specs.Heard.{cause_of}
use Rattle.mmc_bus.proofs.Hear.{write_facts, with_facts}
use Rattle.mmc_bus.proofs.host.write_block.Goals as goal

pub returns-clause-written : goal.returns-clause-written
returns-clause-written g c = with_facts _ _ _ c.write_data.ensures (λ k limits bounded step. write_facts _ _ _ _ limits bounded step)

pub returns-clause-cause : goal.returns-clause-cause
returns-clause-cause g c = ap cause_of c.write_data.ensures.last
