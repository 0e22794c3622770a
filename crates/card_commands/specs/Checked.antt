-- A card file in which nothing is wrong.
use Rattle.std.specs.Prelude.{◌≡◌, ℕ, Bool, List, None, Option, Some, false}
use Rattle.card_text.specs.CardFile.{IsCardFile}
use Rattle.card_text.specs.Planning.{PlannedFault}
use Rattle.card_text.specs.Script.{lines}
use Rattle.mmc_card.specs.Profile.{InProfile}
use Rattle.mmc_card_rows.specs.declared.store.TheConstants.{MAX_LARGE}
use Rattle.mmc_card_sim.specs.CardSpec.{refusal_within}
use Rattle.mmc_card_sim.specs.Registers.{made_of}
use Rattle.mmc_card_sim.specs.declared.spec.CardSpec.{CardSpec}
use Rattle.card_check.specs.Unopened.{IsPlain}
use Rattle.card_commands.specs.declared.check.Checked.{Checked}

-- It is read, its registers are taken, and the card is in profile, of which a host opens each one: an eMMC device where its sectors
-- have 512 bytes and it has no write protection of its own.
abbrev pub DescribesCard : List ℕ → Type 0
DescribesCard text =
    (spec : CardSpec) × (plan : List PlannedFault) × IsCardFile (lines text) spec plan × (refusal_within MAX_LARGE spec ≡ None)
    × (IsPlain (made_of spec.registers) → InProfile (made_of spec.registers))

-- what is known of a card whose registers are taken says that it is opened
abbrev pub is_opened : Option Checked → Bool
is_opened None = false
is_opened (Some card) = card.is_opened
