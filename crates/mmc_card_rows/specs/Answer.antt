-- What the card in memory answers.
use Rattle.std.specs.Prelude.{◌%◌, ◌&&◌, ◌*◌, ◌+◌, ◌<◌, ◌==◌, ◌^◌, bit_or, if◌then◌else◌, nat_lt, ℕ}
use Rattle.mmc_frame.specs.declared.commands.TheConstants as Index
use Rattle.mmc_card.specs.CardAnswer.{CardAnswer, Checked, R2, R3, Silent}
use Rattle.mmc_card_rows.specs.declared.answer.Answer.{Answer}
use Rattle.mmc_card_rows.specs.declared.answer.Answer.TheVariants as Is
use Rattle.mmc_card_rows.specs.declared.delays.Delays.{Delays}

abbrev pub answer_of : Answer → CardAnswer
answer_of Is.Silent = Silent
answer_of (Is.Checked index argument) = Checked index argument
answer_of (Is.R3 ocr) = R3 ocr
answer_of (Is.R2 register) = R2 register

-- the index is one of a command
abbrev pub HasIndex : Answer → Type 0
HasIndex (Is.Checked index argument) = index < 64
HasIndex _ = Unit {0}

-- the OCR of a card that isn't ready, with these bits 30 and 29
abbrev pub early_ocr : ℕ → ℕ → ℕ
early_ocr early ocr = 2 ^ 29 * (early % 4) + ocr % 2 ^ 29

-- The answer as it is sent, in what nobody judges: the status in the response to CMD3 may have APP_CMD, bit 5, and an OCR
-- before the card is ready other bits 30 and 29.
abbrev pub said_as : Delays → CardAnswer → CardAnswer
said_as delays Silent = Silent
said_as delays (Checked index argument) =
    Checked index
    (if delays.shows_app_cmd && (index == Index.SEND_RELATIVE_ADDR) then bit_or argument 0x20 else argument)
said_as delays (R3 ocr) = R3 (if nat_lt ocr (2 ^ 31) then early_ocr delays.early ocr else ocr)
said_as delays (R2 register) = R2 register
