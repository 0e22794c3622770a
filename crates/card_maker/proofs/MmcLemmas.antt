-- The registers of a new eMMC device.
use Rattle.std.proofs.Common.{◌≡◌, ℕ, ◌*◌, ◌^◌, ◌<◌, ◌≤◌, List, Bool, true, cond, inl, inr}
use Rattle.std.proofs.Common.{sym, refl, ap, ◌∙◌, arith}
use Rattle.std.specs.Prelude.{◌==◌, ◌⊎◌, is_ok, nat_le, nat_lt, not}
use Rattle.std.proofs.lemmas.Bool.{and_from, le-leb, le-ltb, lt-ltb}
use Rattle.mmc_frame.specs.declared.kind.Kind.TheVariants as Is
use Rattle.mmc_regs.specs.Csd.{csd_from, has_block_length}
use Rattle.mmc_regs.specs.CsdFields.{read_bl_len}
use Rattle.mmc_regs.specs.Register.{register_number}
use Rattle.mmc_ext_csd.specs.ExtCsd.{hc_erase_grp_size, sec_count}
use Rattle.mmc_regs.specs.Ocr.{window_at_3_3_volts}
use Rattle.mmc_card.specs.Made.{has_sector_addresses, is_read_only, user_sectors}
use Rattle.mmc_card.specs.Profile.{IsByteAddressed, IsSectorAddressed}
use Rattle.mmc_card_sim.specs.CardSpec.{has_access_mode, has_ocr}
use Rattle.mmc_card_sim.specs.Registers.{made_of}
use Rattle.card_maker.specs.NewExtCsd.{new_ext_csd}
use Rattle.mmc_regs.specs.Register.{checked_register}
use Rattle.card_maker.specs.NewRegisters.{csd_by_blocks, mmc_registers}
use Rattle.card_maker.specs.Sizes.{IsCardOf, SaysCount}
use Rattle.card_maker.specs.Wanted.{HasMmcFeatures, HasPartitions}
use Rattle.card_maker.specs.declared.csd.TheConstants.{MMC_FIXED}
use Rattle.card_maker.specs.declared.wanted.Wanted.{Wanted}
use Rattle.mmc_regs.proofs.CheckedLemmas.{checked_bytes, checked_length}
use Rattle.card_maker.proofs.ExtLemmas.{ext_boot, ext_bytes, ext_gp, ext_gp_2, ext_gp_3, ext_gp_4, ext_length, ext_rev, ext_sector_size}
use Rattle.card_maker.proofs.ExtLemmas.{ext_sectors, ext_speed, ext_unit, ext_unprotected}
use Rattle.card_maker.proofs.FieldLemmas.{mmc_csd_says}
use Rattle.card_maker.proofs.SdLemmas.{block_length_taken, blocks_say, checked_taken, cond_yes, protected_said}

erases : (unit : ℕ) → unit ≡ 1 → not (unit == 0) ≡ true
erases unit one = rw one refl

some_unit : (unit : ℕ) → unit ≡ 1 → unit ≡ 0 → ⊥
some_unit unit one none = absurd (omega (arith, one, none))

-- a device of either size, whose OCR, addresses and size go together
device : (ocr sectors count cid number boot gp : ℕ) (speed : Bool) → boot < 256 → ocr < 2 ^ 32
    → has_ocr ocr ≡ true → has_access_mode ocr ≡ true → window_at_3_3_volts ocr ≡ 3
    → (let registers = mmc_registers ocr (checked_register cid) (checked_register number) (new_ext_csd count boot gp speed) in
    let made = made_of registers in
    IsByteAddressed made ⊎ IsSectorAddressed made → has_sector_addresses made ≡ nat_lt 4194304 sectors
    → user_sectors made ≡ sectors → IsCardOf Is.Mmc sectors registers)
device ocr sectors count cid number boot gp speed few width has_one mode window addressed addresses size =
    let unit = hc_erase_grp_size (new_ext_csd count boot gp speed) in
    record {
      kind_is = refl;
      widths = record {
        ocr = width;
        cid = checked_length cid;
        csd = checked_length number;
        cid_bytes = checked_bytes cid;
        csd_bytes = checked_bytes number;
        own = (ext_length count boot gp speed, ext_bytes count boot gp speed few);
      };
      taken = and_from _ _ (ap is_ok (checked_taken cid))
          (and_from _ _ (ap (λ r. is_ok (csd_from Is.Mmc r)) (checked_taken number))
          (and_from _ _ has_one (and_from _ _ mode (erases unit (ext_unit count boot gp speed)))));
      in_profile = record {
        window = window;
        unlocked = refl;
        sd = λ e. cc;
        mmc = λ _. record {
          revision = omega (arith, ext_rev count boot gp speed);
          sector_size = ext_sector_size count boot gp speed;
          unprotected = ext_unprotected count boot gp speed;
          erase_group = some_unit unit (ext_unit count boot gp speed);
          addresses = addressed;
        };
      };
      addresses = addresses;
      size = size;
    }

-- at most 2 GiB
pub bytes_card : (sectors read size mult cid number boot gp count : ℕ) (speed protect : Bool) → SaysCount read size mult sectors
    → sectors ≤ 4194304 → boot < 256 → number ≡ csd_by_blocks MMC_FIXED 0x0f5 read size mult protect
    → IsCardOf Is.Mmc sectors (mmc_registers 0x00ff8080 (checked_register cid) (checked_register number)
    (new_ext_csd count boot gp speed))
bytes_card sectors read size mult cid number boot gp count speed protect says_size small few is =
    let n = register_number (checked_register number) in
    let says = mmc_csd_says 0x0f5 read size mult protect (omega arith) (omega (arith, says_size.most_block)) says_size.fits
    says_size.mult_fits number is in
    let length : has_block_length (read_bl_len n) ≡ true =
    ap has_block_length says.read ∙ block_length_taken read says_size.least_block says_size.most_block in
    device 0x00ff8080 sectors count cid number boot gp speed few (omega arith) refl refl refl
    (inl (record { mode = refl; read_length = length })) (sym (le-ltb 4194304 sectors small))
    (blocks_say n 0x0f5 read size mult sectors protect says says_size)

-- above 2 GiB
pub sectors_card : (sectors cid number boot gp : ℕ) (speed : Bool) → 4194304 < sectors → sectors < 2 ^ 32 → boot < 256
    → IsCardOf Is.Mmc sectors (mmc_registers 0x40ff8080 (checked_register cid) (checked_register number)
    (new_ext_csd sectors boot gp speed))
sectors_card sectors cid number boot gp speed large fits few =
    let count : sec_count (new_ext_csd sectors boot gp speed) ≡ sectors = ext_sectors sectors boot gp speed fits in
    device 0x40ff8080 sectors sectors cid number boot gp speed few (omega arith) refl refl refl
    (inr (record { mode = refl; counted = λ none. absurd (omega (arith, count, none)) })) (sym (lt-ltb 4194304 sectors large)) count

-- ---- what else is wanted

pub mmc_protection : (read size mult ocr cid number : ℕ) (ext_csd : List ℕ) (protect : Bool) → read < 16 → size < 4096
    → mult < 8 → number ≡ csd_by_blocks MMC_FIXED 0x0f5 read size mult protect
    → is_read_only (made_of (mmc_registers ocr (checked_register cid) (checked_register number) ext_csd)) ≡ protect
mmc_protection read size mult ocr cid number ext_csd protect a b c is =
    let says = mmc_csd_says 0x0f5 read size mult protect (omega arith) a b c number is in
    protected_said _ protect says.perm says.tmp

pub mmc_features : (wanted : Wanted) (ocr sectors boot gp : ℕ) (cid csd : List ℕ)
    → HasMmcFeatures wanted (made_of (mmc_registers ocr cid csd (new_ext_csd sectors boot gp wanted.high_speed)))
mmc_features wanted ocr sectors boot gp cid csd = record { high_speed = ext_speed sectors boot gp wanted.high_speed }

-- a partition that isn't too large exists
part_exists : (size wanted most : ℕ) → size ≡ wanted → wanted ≤ most → cond (nat_le size most) size 0 ≡ wanted
part_exists size wanted most is few =
    cond_yes (nat_le size most) size 0 (le-leb size most (omega (arith, is, few))) ∙ is

-- addresses of bytes, or of sectors
pub bytes_partitions : (wanted : Wanted) (sectors boot gp : ℕ) (cid csd : List ℕ) → wanted.boot ≡ boot * 256
    → wanted.gp ≡ gp * 1024 → wanted.gp ≤ 8388608
    → HasPartitions wanted (made_of (mmc_registers 0x00ff8080 cid csd (new_ext_csd sectors boot gp wanted.high_speed)))
bytes_partitions wanted sectors boot gp cid csd boots gps few =
    let speed = wanted.high_speed in
    record {
      boot1 = ext_boot sectors boot gp speed ∙ sym boots;
      boot2 = ext_boot sectors boot gp speed ∙ sym boots;
      gp1 = part_exists _ wanted.gp 8388608 (ext_gp sectors boot gp speed (omega arith) ∙ sym gps) few;
      gp2 = part_exists _ 0 8388608 (ext_gp_2 sectors boot gp speed) (omega arith);
      gp3 = part_exists _ 0 8388608 (ext_gp_3 sectors boot gp speed) (omega arith);
      gp4 = part_exists _ 0 8388608 (ext_gp_4 sectors boot gp speed) (omega arith);
    }

pub sectors_partitions : (wanted : Wanted) (sectors boot gp : ℕ) (cid csd : List ℕ) → wanted.boot ≡ boot * 256
    → wanted.gp ≡ gp * 1024 → wanted.gp ≤ 4294967296
    → HasPartitions wanted (made_of (mmc_registers 0x40ff8080 cid csd (new_ext_csd sectors boot gp wanted.high_speed)))
sectors_partitions wanted sectors boot gp cid csd boots gps few =
    let speed = wanted.high_speed in
    record {
      boot1 = ext_boot sectors boot gp speed ∙ sym boots;
      boot2 = ext_boot sectors boot gp speed ∙ sym boots;
      gp1 = part_exists _ wanted.gp 4294967296 (ext_gp sectors boot gp speed (omega arith) ∙ sym gps) few;
      gp2 = part_exists _ 0 4294967296 (ext_gp_2 sectors boot gp speed) (omega arith);
      gp3 = part_exists _ 0 4294967296 (ext_gp_3 sectors boot gp speed) (omega arith);
      gp4 = part_exists _ 0 4294967296 (ext_gp_4 sectors boot gp speed) (omega arith);
    }
