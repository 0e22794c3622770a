-- Headline (docs/AUDIT.md, "What to read").
-- The OCR, a register of 32 bits (SD Physical Layer 6.00, section 5.1; JESD84-B51, section 7.1).
use Rattle.std.specs.Prelude.{ℕ}
use Rattle.mmc_frame.specs.Field.{field}

-- 1 once the card has powered up
abbrev pub power_up_status : ℕ → ℕ
power_up_status ocr = field 31 31 ocr

-- CCS of an SD card: 1 where it is addressed by sectors
abbrev pub card_capacity_status : ℕ → ℕ
card_capacity_status ocr = field 30 30 ocr

-- of an eMMC device: 2 where it is addressed by sectors, 0 where by bytes
abbrev pub access_mode : ℕ → ℕ
access_mode ocr = field 30 29 ocr

-- bits 21 and 20, 3.3 to 3.4 V and 3.2 to 3.3 V: 3 where the card works at 3.3 V
abbrev pub window_at_3_3_volts : ℕ → ℕ
window_at_3_3_volts ocr = field 21 20 ocr
