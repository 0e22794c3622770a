-- The registers of a new card, by their fields at their bits.
use Rattle.std.specs.Prelude.{ℕ, ◌+◌, ◌*◌, ◌^◌, List, [], ◌∷◌, Bool, false, true, if◌then◌else◌}
use Rattle.mmc_card_rows.specs.declared.registers.KindRegisters.TheVariants.{Mmc, Sd}
use Rattle.mmc_card_rows.specs.declared.registers.Registers.{Registers}

abbrev pub bit : Bool → ℕ
bit set = if set then 1 else 0

-- A CSD whose size is counted in blocks: what no card varies, then CCC, READ_BL_LEN, C_SIZE, C_SIZE_MULT, WRITE_BL_LEN and
-- TMP_WRITE_PROTECT (SD Physical Layer 6.00, section 5.3.2; JESD84-B51, section 7.3).
unfoldable pub csd_by_blocks : ℕ → ℕ → ℕ → ℕ → ℕ → Bool → ℕ
csd_by_blocks fixed ccc read_bl_len c_size c_size_mult is_protected =
    fixed + ccc * 2 ^ 84 + read_bl_len * 2 ^ 80 + c_size * 2 ^ 62 + c_size_mult * 2 ^ 47 + read_bl_len * 2 ^ 22
    + bit is_protected * 2 ^ 12

-- A CSD version 2.0: what no card varies, then CCC, C_SIZE and TMP_WRITE_PROTECT (SD Physical Layer 6.00, section 5.3.3).
unfoldable pub csd_v2 : ℕ → ℕ → ℕ → Bool → ℕ
csd_v2 fixed ccc c_size is_protected = fixed + ccc * 2 ^ 84 + c_size * 2 ^ 48 + bit is_protected * 2 ^ 12

-- the classes 0, 2, 4, 5, 7 and 8 of an SD card, and 10 of one that has CMD6
abbrev pub sd_classes : Bool → ℕ
sd_classes high_speed = if high_speed then 0x5b5 else 0x1b5

-- the SCR: SD_SPEC 2, the bus widths, and CMD_SUPPORT (SD Physical Layer 6.00, section 5.6)
abbrev pub new_scr : Bool → Bool → List ℕ
new_scr four_lines cmd23 =
    2 ∷ (if four_lines then 5 else 1) ∷ 0 ∷ (if cmd23 then 2 else 0) ∷ 0 ∷ 0 ∷ 0 ∷ 0 ∷ []

-- an SD card that publishes RCA 1 and knows CMD8
abbrev pub sd_registers : ℕ → List ℕ → List ℕ → List ℕ → Bool → Registers
sd_registers ocr cid csd scr high_speed =
    record {
      kind = Sd (record {
        scr = scr;
        rca = 1;
        rca_changes = false;
        answers_cmd8 = true;
        has_high_speed = high_speed;
      });
      ocr = ocr;
      cid = cid;
      csd = csd;
      is_locked = false;
    }

abbrev pub mmc_registers : ℕ → List ℕ → List ℕ → List ℕ → Registers
mmc_registers ocr cid csd ext_csd =
    record { kind = Mmc (record { ext_csd = ext_csd }); ocr = ocr; cid = cid; csd = csd; is_locked = false }
