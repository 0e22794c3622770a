-- What the laws of the sector machine say of every execution.
use Rattle.std.specs.Prelude.{◌*◌, ◌+◌, ◌≡◌, ◌≤◌, List, [], true, ℕ}
use Rattle.mmc_card.specs.Sectors.{Sector, Sets, Within}
use Rattle.mmc_card.specs.declared.part.Part.{Part}
use Rattle.mmc_switch.specs.declared.info.Info.{Info}
use Rattle.mmc_block.specs.Answers.{failures}
use Rattle.mmc_block.specs.Execution.{Counted, Event, IsCountedExecution, IsExecution, Reply}
use Rattle.mmc_block.specs.InOrder.{AreDecided, EndsInOrder, IsInOrder, MayHold, answers, history}
use Rattle.mmc_block.specs.Machine.{Machine}

pub record ExecutionLaws : Type 0 where
  pub counted : (info : Info) (old : Counted) (events : List Event) (replies : List Reply) (new : Counted)
      → IsCountedExecution info old events replies new → IsExecution info old.machine events replies new.machine
  pub faults : (info : Info) (old : Counted) (events : List Event) (replies : List Reply) (new : Counted)
      → old.in_profile ≡ true → old.machine.waits ≡ [] → old.machine.in_service ≡ []
      → IsCountedExecution info old events replies new → old.faults + 4 * failures (answers replies) ≤ new.faults
  pub order : (info : Info) (old : Machine) (events : List Event) (replies : List Reply) (new : Machine)
      → AreDecided old.sets → old.waits ≡ [] → old.in_service ≡ []
      → IsExecution info old events replies new → IsInOrder (history info old.sets events replies)
  pub ends : (info : Info) (old : Machine) (events : List Event) (replies : List Reply) (new : Machine) (sets : Sets)
      (contents : Part → ℕ → Sector)
      → AreDecided old.sets → old.waits ≡ [] → old.in_service ≡ [] → IsExecution info old events replies new → Within sets new.sets
      → MayHold sets contents → EndsInOrder (history info old.sets events replies) sets new.next contents
