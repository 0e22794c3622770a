-- The named bits of the card status (SD Physical Layer 6.00, section 4.10.1; JESD84-B51, section 6.13).
use Rattle.std.specs.Prelude.{◌+◌, ◌&&◌, ◌^◌, ℕ, Bool, true, false, List, [], ◌∷◌, codes, if◌then◌else◌}
use Rattle.mmc_frame.specs.declared.kind.Kind.{Kind}
use Rattle.mmc_frame.specs.declared.kind.Kind.TheVariants.{Sd, Mmc}
use Rattle.mmc_frame.specs.declared.status_bits.Standard.{Standard}
use Rattle.mmc_frame.specs.declared.status_bits.Standard.TheVariants.{Both, Sd as SdAlone, Mmc as MmcAlone}
use Rattle.mmc_frame.specs.declared.status_bits.StatusBit.{StatusBit}

-- the place and the name of each bit, the highest first; of bit 6 both standards' names
abbrev pub bit_names : List (ℕ × List ℕ)
bit_names =
    (31, codes "OUT_OF_RANGE") ∷ (30, codes "ADDRESS_ERROR") ∷ (29, codes "BLOCK_LEN_ERROR")
    ∷ (28, codes "ERASE_SEQ_ERROR") ∷ (27, codes "ERASE_PARAM") ∷ (26, codes "WP_VIOLATION")
    ∷ (25, codes "CARD_IS_LOCKED") ∷ (24, codes "LOCK_UNLOCK_FAILED") ∷ (23, codes "COM_CRC_ERROR")
    ∷ (22, codes "ILLEGAL_COMMAND") ∷ (21, codes "CARD_ECC_FAILED") ∷ (20, codes "CC_ERROR") ∷ (19, codes "ERROR")
    ∷ (16, codes "CSD_OVERWRITE") ∷ (15, codes "WP_ERASE_SKIP") ∷ (14, codes "CARD_ECC_DISABLED")
    ∷ (13, codes "ERASE_RESET") ∷ (8, codes "READY_FOR_DATA") ∷ (7, codes "SWITCH_ERROR") ∷ (6, codes "FX_EVENT")
    ∷ (6, codes "EXCEPTION_EVENT") ∷ (5, codes "APP_CMD") ∷ (3, codes "AKE_SEQ_ERROR") ∷ []

abbrev pub named : StatusBit → ℕ × List ℕ
named bit = (bit.place, bit.name.now)

-- the standard of this kind of card defines the bit
abbrev pub defines : Kind → Standard → Bool
defines kind Both = true
defines Sd SdAlone = true
defines Sd MmcAlone = false
defines Mmc SdAlone = false
defines Mmc MmcAlone = true

-- those of the bits that report an error of this kind of card
abbrev pub errors_among : Kind → List StatusBit → ℕ
errors_among kind [] = 0
errors_among kind (bit ∷ bits) =
    (if defines kind bit.standard && bit.is_error then 2 ^ bit.place else 0) + errors_among kind bits
