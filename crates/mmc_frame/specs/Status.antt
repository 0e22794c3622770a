-- Relation (docs/AUDIT.md, "What to read").
-- The card status, a number of 32 bits (SD Physical Layer 6.00, section 4.10.1; JESD84-B51, section 6.13).
use Rattle.std.specs.Prelude.{◌*◌, ◌-◌, ◌^◌, ◌≡◌, ◌≤◌, ℕ}
use Rattle.std.specs.Int.RustNames.{bit_and}
use Rattle.mmc_frame.specs.Field.{field}
use Rattle.mmc_frame.specs.declared.kind.Kind.{Kind}
use Rattle.mmc_frame.specs.declared.kind.Kind.TheVariants.{Sd, Mmc}
use Rattle.mmc_frame.specs.declared.card_state.State.{State}
use Rattle.mmc_frame.specs.declared.status.Status.{Status}
use Rattle.mmc_frame.specs.declared.card_state.State.TheVariants.{Idle, Ready, Ident, Stby, Tran, Data, Rcv, Prg, Dis}

-- the bits of a set of named bits
abbrev pub bits_in : Status → ℕ
bits_in set = set.0

-- CURRENT_STATE, bits 12 to 9
abbrev pub state_number : State → ℕ
state_number Idle = 0
state_number Ready = 1
state_number Ident = 2
state_number Stby = 3
state_number Tran = 4
state_number Data = 5
state_number Rcv = 6
state_number Prg = 7
state_number Dis = 8

-- the bits that report an error: 31 to 26, 24 to 19, 16, 15 and 13, for eMMC also SWITCH_ERROR, bit 7
abbrev pub error_mask : Kind → ℕ
error_mask Sd = 0xfdf9a000
error_mask Mmc = 0xfdf9a080

abbrev pub error_bits : Kind → ℕ → ℕ
error_bits kind status = bit_and status (error_mask kind)

-- the status without bits 23 and 22, COM_CRC_ERROR and ILLEGAL_COMMAND
abbrev pub own_status : ℕ → ℕ
own_status status = status - 2 ^ 22 * field 23 22 status

-- no error, state tran, ready for data (bit 8)
pub record IsClean (kind : Kind) (status : ℕ) : Type 0 where
  pub no_error : error_bits kind status ≡ 0
  pub in_tran : field 12 9 status ≡ state_number Tran
  pub ready_for_data : field 8 8 status ≡ 1

-- no error, but the card is still on its way to tran: in one of the states stby to prg, and in tran not ready for data
pub record IsAtWork (kind : Kind) (status : ℕ) : Type 0 where
  pub no_error : error_bits kind status ≡ 0
  pub from_stby : state_number Stby ≤ field 12 9 status
  pub to_prg : field 12 9 status ≤ state_number Prg
  pub unready : field 12 9 status ≡ state_number Tran → field 8 8 status ≡ 0
