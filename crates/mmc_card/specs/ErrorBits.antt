-- Relation (docs/AUDIT.md, "What to read").
-- The error bits of the card status, in units of bit 13
-- (SD Physical Layer 6.00, section 4.10.1; JESD84-B51, section 6.13). SWITCH_ERROR is bit 7, and stands alone.
use Rattle.std.specs.Prelude.{◌+◌, ◌-◌, ◌^◌, ℕ}

abbrev pub out_of_range : ℕ
out_of_range = 2 ^ (31 - 13)

abbrev pub address_error : ℕ
address_error = 2 ^ (30 - 13)

abbrev pub block_len_error : ℕ
block_len_error = 2 ^ (29 - 13)

abbrev pub erase_seq_error : ℕ
erase_seq_error = 2 ^ (28 - 13)

abbrev pub erase_param : ℕ
erase_param = 2 ^ (27 - 13)

abbrev pub wp_violation : ℕ
wp_violation = 2 ^ (26 - 13)

-- no error
abbrev pub card_is_locked : ℕ
card_is_locked = 2 ^ (25 - 13)

abbrev pub lock_unlock_failed : ℕ
lock_unlock_failed = 2 ^ (24 - 13)

abbrev pub com_crc_error : ℕ
com_crc_error = 2 ^ (23 - 13)

abbrev pub illegal_command : ℕ
illegal_command = 2 ^ (22 - 13)

abbrev pub card_ecc_failed : ℕ
card_ecc_failed = 2 ^ (21 - 13)

abbrev pub cc_error : ℕ
cc_error = 2 ^ (20 - 13)

-- ERROR
abbrev pub general_error : ℕ
general_error = 2 ^ (19 - 13)

abbrev pub csd_overwrite : ℕ
csd_overwrite = 2 ^ (16 - 13)

abbrev pub wp_erase_skip : ℕ
wp_erase_skip = 2 ^ (15 - 13)

abbrev pub erase_reset : ℕ
erase_reset = 2 ^ (13 - 13)

-- those of a command that isn't carried out
abbrev pub command_error_bits : ℕ
command_error_bits = com_crc_error + illegal_command

-- those that carrying a command out may raise, after its response (SD Physical Layer 6.00, section 4.10.1, type X), but for
-- LOCK_UNLOCK_FAILED, which is no result of a write or an erase
abbrev pub execution_error_bits : ℕ
execution_error_bits =
    out_of_range + address_error + block_len_error + erase_param + wp_violation + card_ecc_failed + cc_error
    + general_error + csd_overwrite + wp_erase_skip

-- all others from bit 13 on
abbrev pub error_bits : ℕ
error_bits =
    out_of_range + address_error + block_len_error + erase_seq_error + erase_param + wp_violation
    + lock_unlock_failed + card_ecc_failed + cc_error + general_error
    + csd_overwrite + wp_erase_skip + erase_reset
