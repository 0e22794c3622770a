-- Headline (docs/AUDIT.md, "What to read").
-- Beside the headline: which refusal comes first.
use Rattle.std.specs.Prelude.{List}
use Rattle.mmc_card.specs.Card.{Card, holds}
use Rattle.mmc_switch.specs.declared.info.Info.{Info}
use Rattle.mmc_block.specs.ClientLaws.{RefusingStep}
use Rattle.mmc_block.specs.Clients.{AreSteps, ClientMachine, Told, at_rest}

-- The calls are an execution of the sector machine in which each request is refused for the first reason that holds, and accepted
-- where none does.
abbrev pub AreRefusedFirst : Info → Card → List Told → Type 0
AreRefusedFirst info opened calls =
    (machine : ClientMachine) × AreSteps (RefusingStep info) (at_rest (holds opened) 0) calls machine
