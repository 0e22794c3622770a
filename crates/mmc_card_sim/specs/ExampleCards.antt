-- What the cards of `examples/` are built by: the registers of their card files, no waits and no image.
use Rattle.std.specs.Prelude.{Bool, List, None, false, replicate, slice_set, true, ℕ}
use Rattle.std.specs.Int.{to_be_bytes, w128, w64}
use Rattle.mmc_card_rows.specs.declared.registers.KindRegisters.{KindRegisters}
use Rattle.mmc_card_rows.specs.declared.registers.KindRegisters.TheVariants.{Sd}
use Rattle.mmc_card_sim.specs.declared.spec.CardSpec.{CardSpec}

-- the registers of an SD card that publishes RCA 1: it knows CMD8 and names high speed, or neither
abbrev pub sd_registers : ℕ → Bool → KindRegisters
sd_registers scr is_new =
    Sd (record { scr = to_be_bytes w64 scr; rca = 1; rca_changes = false; answers_cmd8 = is_new; has_high_speed = is_new })

abbrev pub card_with : KindRegisters → ℕ → ℕ → ℕ → CardSpec
card_with kind ocr csd sectors =
    record {
      registers = record {
        kind = kind;
        ocr = ocr;
        cid = to_be_bytes w128 1;
        csd = to_be_bytes w128 csd;
        is_locked = false;
      };
      sectors = sectors;
      ready = 0;
      busy = 0;
      early = None;
      keeps_length = true;
      refusal = None;
      stays_busy = false;
      goes_on = false;
      lagging = 0;
      late = 0;
      shows_app_cmd = false;
      ages = false;
      image = None;
    }

-- bytes 181, 192, 196, 213, 221, 224, 226 and 231 of the EXT_CSD of `emmc.card`; all others are 0
abbrev pub emmc_ext_csd : List ℕ
emmc_ext_csd =
    let content = slice_set (replicate 512 0) 181 0x01 in
    let revision = slice_set content 192 0x08 in
    let timing = slice_set revision 196 0x03 in
    let sectors = slice_set timing 213 0x08 in
    let write_protect = slice_set sectors 221 0x01 in
    let erase_unit = slice_set write_protect 224 0x01 in
    let boot_sectors = slice_set erase_unit 226 0x01 in
    slice_set boot_sectors 231 0x10
