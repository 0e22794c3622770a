-- Headline (docs/AUDIT.md, "What to read").
-- Beside the headline: which requests are served together, and what is undecided meanwhile.
use Rattle.std.specs.Prelude.{List}
use Rattle.mmc_card.specs.Card.{Card, holds}
use Rattle.mmc_card.specs.Sectors.{Within}
use Rattle.mmc_switch.specs.declared.info.Info.{Info}
use Rattle.mmc_block.specs.ClientLaws.{events, replies}
use Rattle.mmc_block.specs.Clients.{Told}
use Rattle.mmc_block.specs.Execution.{IsExecution}
use Rattle.mmc_block.specs.Machine.{Machine, all_failed, opened as machine_of}

-- The calls have come to this machine, of which some requests wait and others are in service.
pub record AreGrouped (info : Info) (opened now : Card) (calls : List Told) (machine : Machine) : Type 0 where
  pub executed : IsExecution info (machine_of (holds opened)) (events calls) (replies calls) machine
  -- the card's sectors hold no more than the machine's may, where those of a request in service are old or new
  pub contents : Within (holds now) (all_failed info machine.in_service machine.sets)
