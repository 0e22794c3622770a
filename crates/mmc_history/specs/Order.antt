-- Headline (docs/AUDIT.md, "What to read").
-- Beside the headline: reads are in order.
use Rattle.std.specs.Prelude.{◌≡◌, List, [], ℕ}
use Rattle.mmc_card.specs.Card.{Card, holds}
use Rattle.mmc_card.specs.Sectors.{Sector}
use Rattle.mmc_card.specs.declared.part.Part.{Part}
use Rattle.mmc_switch.specs.declared.info.Info.{Info}
use Rattle.mmc_block.specs.ClientLaws.{events, replies}
use Rattle.mmc_block.specs.Clients.{Told}
use Rattle.mmc_block.specs.InOrder.{EndsInOrder, History, IsInOrder, MayHold, history}
use Rattle.mmc_block.specs.Machine.{Machine}

-- what these calls did to a card that was opened so
abbrev pub history_of : Info → Card → List Told → History
history_of info opened calls = history info (holds opened) (events calls) (replies calls)

-- By calls that have come to this machine:
pub record AreInOrder (info : Info) (opened now : Card) (calls : List Told) (machine : Machine) : Type 0 where
  -- what reads gave is what the earlier requests leave, in order of submission
  pub reads : IsInOrder (history_of info opened calls)
  -- and so is what the card holds, while nothing is in service
  pub ends : machine.in_service ≡ [] → (contents : Part → ℕ → Sector) → MayHold (holds now) contents
      → EndsInOrder (history_of info opened calls) (holds now) machine.next contents
