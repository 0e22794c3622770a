-- Headline (docs/AUDIT.md, "What to read").
-- Beside the headline: failures take faults, of a card in profile four each.
use Rattle.std.specs.Prelude.{◌*◌, ◌+◌, ◌≤◌, List}
use Rattle.mmc_card.specs.BusView.{BusView}
use Rattle.mmc_card.specs.Profile.{InProfile}
use Rattle.mmc_block.specs.Answers.{failures}
use Rattle.mmc_block.specs.ClientLaws.{replies}
use Rattle.mmc_block.specs.Clients.{Told}
use Rattle.mmc_block.specs.InOrder.{answers}

-- Where a card in profile was opened, four faults have fallen since for each of these answers that is a failure.
abbrev pub FailuresTakeFaults : BusView → BusView → List Told → Type 0
FailuresTakeFaults opened now calls =
    InProfile opened.card.made → opened.faults + 4 * failures (answers (replies calls)) ≤ now.faults
