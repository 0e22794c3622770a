-- Relation (docs/AUDIT.md, "What to read").
-- What of a response is judged. Its other bits are open: a card sends them as it likes, and no host and no contract reads
-- them. Cards in the field differ in them: APP_CMD in an R6, EXCEPTION_EVENT, reserved bits, and CURRENT_STATE and
-- READY_FOR_DATA in the R1 of any command but CMD13.
use Rattle.std.specs.Prelude.{◌&&◌, ◌+◌, ◌<◌, ◌==◌, ◌^◌, ◌≡◌, ◌⊎◌, false, if◌then◌else◌, ℕ}
use Rattle.std.specs.Int.RustNames.{bit_and}
use Rattle.mmc_frame.specs.Field.{field}
use Rattle.mmc_frame.specs.Status.{error_mask, state_number}
use Rattle.mmc_frame.specs.declared.card_state.State.TheVariants.{Tran}
use Rattle.mmc_frame.specs.declared.kind.Kind.{Kind}
use Rattle.mmc_frame.specs.declared.commands.TheConstants as Index
use Rattle.mmc_regs.specs.Ocr.{window_at_3_3_volts}
use Rattle.mmc_card.specs.Card.{Card}
use Rattle.mmc_card.specs.CardAnswer.{CardAnswer, Checked, R2, R3, Silent, status}
use Rattle.mmc_card.specs.Made.{is_sd}

-- Of a status the errors of the card's kind and CARD_IS_LOCKED, bit 25. So bit 7, SWITCH_ERROR of eMMC, is open in the status
-- of an SD card, where it is reserved.
abbrev pub errors_and_lock : Kind → ℕ
errors_and_lock kind = error_mask kind + 2 ^ 25

-- of the status that CMD13 asks for CURRENT_STATE too, bits 12 to 9
abbrev pub errors_and_state : Kind → ℕ
errors_and_state kind = errors_and_lock kind + 0x1e00

-- By the command's index: of the response to SD's CMD3 the RCA, to its CMD8 voltage and pattern, and of all others a status
-- (SD Physical Layer 6.00, sections 4.9.5 and 4.9.6).
abbrev pub judged : Kind → ℕ → ℕ
judged kind index =
    if (index == Index.SEND_RELATIVE_ADDR) && is_sd kind then 0xffff0000
    else if (index == Index.SEND_IF_COND) && is_sd kind then 0xfff
    else if index == Index.SEND_STATUS then errors_and_state kind
    else errors_and_lock kind

-- as far as these bits go the two are the same
abbrev pub Agree : ℕ → ℕ → ℕ → Type 0
Agree bits one other = bit_and one bits ≡ bit_and other bits

-- Where the status shows tran, what is told has its READY_FOR_DATA, bit 8. In other states a card may be ready for data or not,
-- whatever line DAT0 says (SD Physical Layer 6.00, section 4.10.1; JESD84-B51, section 6.13).
abbrev pub IsReadyInTran : ℕ → ℕ → Type 0
IsReadyInTran told status = field 12 9 status ≡ state_number Tran → field 8 8 told ≡ field 8 8 status

-- An OCR as it is told before the card is ready, with bit 31 at 0: its window, bits 23 to 0, is empty, or has 3.2 to 3.4 V,
-- bits 21 and 20, as it will have them. Its other bits are open (SD Physical Layer 6.00, section 5.1; JESD84-B51, section
-- 7.1).
abbrev pub IsEarlyOcr : ℕ → ℕ → Type 0
IsEarlyOcr told ocr = (told < 2 ^ 31) × ((field 23 0 told ≡ 0) ⊎ (window_at_3_3_volts told ≡ window_at_3_3_volts ocr))

-- The answer of a card of this kind as it is sent: the same, but for what isn't judged of it.
abbrev pub IsSaid : Kind → CardAnswer → CardAnswer → Type 0
IsSaid kind Silent said = said ≡ Silent
IsSaid kind (Checked index argument) said =
    (told : ℕ) × (said ≡ Checked index told) × Agree (judged kind index) told argument
    × (index ≡ Index.SEND_STATUS → IsReadyInTran told argument)
IsSaid kind (R3 ocr) said =
    (told : ℕ) × (said ≡ R3 told) × ((told ≡ ocr) ⊎ ((ocr < 2 ^ 31) × IsEarlyOcr told ocr))
IsSaid kind (R2 bytes) said = said ≡ R2 bytes

-- what an R1 says of its card
abbrev pub Shows : Card → ℕ → Type 0
Shows card told = Agree (errors_and_lock card.made.kind) told (status false card)

-- and what the R1 of CMD13 says
abbrev pub ShowsItself : Card → ℕ → Type 0
ShowsItself card told =
    Agree (errors_and_state card.made.kind) told (status false card) × IsReadyInTran told (status false card)
