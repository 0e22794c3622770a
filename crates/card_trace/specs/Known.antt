-- What an exchange tells of the card.
use Rattle.std.specs.Prelude.{◌==◌, None, Ok, Option, Result, Some, if◌then◌else◌, ℕ}
use Rattle.mmc_frame.specs.Frame.{command_in}
use Rattle.mmc_frame.specs.RegisterFrame.{ocr_in}
use Rattle.mmc_frame.specs.declared.addressing.Addressing.{Addressing}
use Rattle.mmc_frame.specs.declared.addressing.Addressing.TheVariants.{Bytes, Sectors}
use Rattle.mmc_frame.specs.declared.commands.TheConstants.{SD_SEND_OP_COND, SEND_OP_COND}
use Rattle.mmc_frame.specs.declared.fault.FrameFault.{FrameFault}
use Rattle.mmc_frame.specs.declared.kind.Kind.{Kind}
use Rattle.mmc_frame.specs.declared.kind.Kind.TheVariants.{Mmc, Sd}
use Rattle.mmc_regs.specs.Ocr.{card_capacity_status, power_up_status}
use Rattle.mmc_card.specs.declared.exchange.Exchange.{Exchange}
use Rattle.mmc_card.specs.declared.exchange.Exchange.TheVariants.{Command}
use Rattle.mmc_card.specs.declared.exchange.Reply.TheVariants.{Short}
use Rattle.card_explain.specs.declared.exchange.KnownCard.{KnownCard}

-- bit 30 of an OCR
abbrev pub addressing_by : ℕ → Addressing
addressing_by bit = if bit == 1 then Sectors else Bytes

-- an eMMC device answers CMD1 with its OCR, an SD card ACMD41
abbrev pub kind_by : ℕ → Option Kind
kind_by index = if index == SEND_OP_COND then Some Mmc else (if index == SD_SEND_OP_COND then Some Sd else None)

abbrev pub told_as : KnownCard → Option Kind → ℕ → KnownCard
told_as card None ocr = card
told_as card (Some kind) ocr =
    if power_up_status ocr == 1 then record { kind = kind; addressing = addressing_by (card_capacity_status ocr) }
    else record card { kind = kind }

abbrev pub told_by : KnownCard → ℕ → ℕ → KnownCard
told_by card index ocr = told_as card (kind_by index) ocr

abbrev pub heard_by : KnownCard → Option (ℕ × ℕ) → Result ℕ FrameFault → KnownCard
heard_by card (Some (index, argument)) (Ok ocr) = told_by card index ocr
heard_by card asked heard = card

-- an OCR tells the kind of the card, and that of a card which is ready how its commands count
abbrev pub known_after : KnownCard → Exchange → KnownCard
known_after card (Command frame want (Short response)) = heard_by card (command_in frame) (ocr_in response)
known_after card exchange = card
