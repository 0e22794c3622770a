-- Relation (docs/AUDIT.md, "What to read").
-- The switch status that an SD card sends after CMD6, 64 bytes of which bits 511 to 504 are the first
-- (SD Physical Layer 6.00, section 4.3.10.4). Function 1 of group 1, the access mode, is high speed.
use Rattle.std.specs.Prelude.{ℕ, List, slice_index}
use Rattle.mmc_frame.specs.Field.{field}

-- bit 401, in byte 13: whether the group has high speed
abbrev pub high_speed_support : List ℕ → ℕ
high_speed_support status = field 1 1 (slice_index status 13)

-- bits 379 to 376, the low half of byte 16: the function of the group that is selected, or that would be
abbrev pub access_mode_selected : List ℕ → ℕ
access_mode_selected status = field 3 0 (slice_index status 16)
