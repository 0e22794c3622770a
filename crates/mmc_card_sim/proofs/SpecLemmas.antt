-- What follows of a spec whose registers are taken, and of one that isn't refused.
use Rattle.std.proofs.Common.{Bool, List, [], arith, cond, false, length, refl, suc, true, zero, ◌&&◌, ◌*◌, ◌+◌, ◌-◌}
use Rattle.std.proofs.Common.{◌<◌, ◌^◌, ◌∷◌, ◌≡◌, ◌≤◌, ℕ}
use Rattle.std.specs.Prelude.{Err, IfSome, None, Ok, Option, Result, Some, ◌==◌, if◌then◌else◌, is_ok, nat_le}
use Rattle.std.specs.Prelude.{slice_index, slice_index_or}
use Rattle.std.proofs.Math.Nat.{le_trans}
use Rattle.std.proofs.Math.Pow.{pow_mono}
use Rattle.std.proofs.lemmas.Nat.{pow_pos}
use Rattle.std.proofs.lemmas.Bool.Decides.{nat_tests}
use Rattle.mmc_frame.proofs.Bytes.{and_true}
use Rattle.mmc_frame.specs.Flips.{AreBytes}
use Rattle.mmc_frame.specs.RegisterFrame.{has_end_bit, is_sound_register}
use Rattle.mmc_frame.specs.declared.addressing.Addressing.{Addressing}
use Rattle.mmc_frame.specs.declared.addressing.Addressing.TheVariants.{Bytes, Sectors}
use Rattle.mmc_frame.specs.declared.kind.Kind.{Kind}
use Rattle.mmc_frame.specs.declared.kind.Kind.TheVariants as Is
use Rattle.mmc_regs.specs.Csd.{IsSdCsd, csd_from, csd_number, csd_of, erase_unit_of, has_block_length}
use Rattle.mmc_regs.specs.CsdFields.{csd_structure, erase_blk_en, read_bl_len, sector_size, write_bl_len}
use Rattle.mmc_regs.specs.Register.{checked_number}
use Rattle.mmc_regs.specs.SwitchStatus.{access_mode_selected, high_speed_support}
use Rattle.mmc_regs.specs.declared.csd.Csd.{Csd}
use Rattle.mmc_regs.specs.declared.csd.Csd.TheVariants.{Mmc as MmcCsd, V1, V2}
use Rattle.mmc_regs.specs.declared.fault.RegFault.{RegFault}
use Rattle.mmc_regs.specs.declared.fault.RegFault.TheVariants.{Range, Structure}
use Rattle.mmc_ext_csd.specs.ExtCsd.{erase_unit}
use Rattle.mmc_ext_csd.specs.Partition.{existing_sectors}
use Rattle.mmc_card.proofs.ByteLemmas.{bytes_by}
use Rattle.mmc_card.specs.Made.{HasRegisters, Made, addressing_of, is_sd, mmc_sectors, sd_sectors, sectors_in}
use Rattle.mmc_card.specs.Made.{user_sectors}
use Rattle.mmc_card.specs.Sectors.{part_number}
use Rattle.mmc_card.specs.declared.part.Part.{Part}
use Rattle.mmc_card.specs.declared.part.Part.TheVariants.{Boot1, Boot2, Gp1, Gp2, Gp3, Gp4, User}
use Rattle.mmc_card_sim.specs.CardSpec.{HasOwnWidths, HasWidths, each_register_is_taken, has_cid, has_csd}
use Rattle.mmc_card_sim.specs.CardSpec.{has_no_ready_bit, has_ocr, image_fits, kind_is_taken, mmc_sizes}
use Rattle.mmc_card_sim.specs.CardSpec.{sd_sizes, sizes_of, takes_image_within, works_at_3_3_volts}
use Rattle.mmc_card_rows.specs.Registers.{ext_csd_of, kind_of, made_of, scr_of, switch_status_by}
use Rattle.mmc_card_rows.specs.Registers.{switch_status_of}
use Rattle.mmc_card_rows.specs.Sizes.{total}
use Rattle.mmc_card_rows.specs.declared.registers.KindRegisters.{KindRegisters}
use Rattle.mmc_card_rows.specs.declared.registers.KindRegisters.TheVariants.{Mmc, Sd}
use Rattle.mmc_card_rows.specs.declared.registers.Registers.{Registers}
use Rattle.mmc_card_rows.specs.declared.store.TheConstants.{MAX_LARGE}

-- Registers that are taken.

by_ok : {T E : Type 0} (b : Bool) (x : T) (y : E) → is_ok (cond b (Ok x) (Err y)) ≡ true → b ≡ true
by_ok true x y h = refl
by_ok false x y h = h

-- the two checks of a register that its reader takes
checks : (register : List ℕ) → is_ok (checked_number register) ≡ true
    → (is_sound_register register ≡ true) × (has_end_bit register ≡ true)
checks register h = and_true (is_sound_register register) (has_end_bit register) (by_ok _ _ _ h)

number_taken : (kind : Kind) (number : Result ℕ RegFault) → is_ok (csd_from kind number) ≡ true → is_ok number ≡ true
number_taken kind (Ok n) h = refl
number_taken kind (Err fault) h = h

below_ready_bit : (ocr : ℕ) → ocr < 2 ^ 32 → has_no_ready_bit ocr ≡ true → ocr < 2 ^ 31
below_ready_bit ocr fits h = grind (arith, nat_tests, h)

scr_length : (kind : KindRegisters) → HasOwnWidths kind → kind_of kind ≡ Is.Sd → length (scr_of kind) ≡ 8
scr_length (Sd sd) widths is_sd = widths.0
scr_length (Mmc mmc) widths is_sd = cc

scr_bytes : (kind : KindRegisters) → HasOwnWidths kind → AreBytes (scr_of kind)
scr_bytes (Sd sd) widths = widths.1
scr_bytes (Mmc mmc) widths = tt

ext_csd_length : (kind : KindRegisters) → HasOwnWidths kind → kind_of kind ≡ Is.Mmc → length (ext_csd_of kind) ≡ 512
ext_csd_length (Sd sd) widths is_mmc = cc
ext_csd_length (Mmc mmc) widths is_mmc = widths.0

ext_csd_bytes : (kind : KindRegisters) → HasOwnWidths kind → AreBytes (ext_csd_of kind)
ext_csd_bytes (Sd sd) widths = tt
ext_csd_bytes (Mmc mmc) widths = widths.1

status_by_length : (b : Bool) → length (switch_status_by b) ≡ 64
status_by_length true = refl
status_by_length false = refl

status_length : (kind : KindRegisters) → kind_of kind ≡ Is.Sd → length (switch_status_of kind) ≡ 64
status_length (Sd sd) is_sd = status_by_length sd.has_high_speed
status_length (Mmc mmc) is_sd = cc

status_by_bytes : (b : Bool) → AreBytes (switch_status_by b)
status_by_bytes true = bytes_by (switch_status_by true) refl
status_by_bytes false = bytes_by (switch_status_by false) refl

status_bytes : (kind : KindRegisters) → AreBytes (switch_status_of kind)
status_bytes (Sd sd) = status_by_bytes sd.has_high_speed
status_bytes (Mmc mmc) = tt

selected_by : (b : Bool)
    → access_mode_selected (switch_status_by b)
    ≡ (if high_speed_support (switch_status_by b) == 1 then 1 else 15)
selected_by true = refl
selected_by false = refl

selected : (kind : KindRegisters) → kind_of kind ≡ Is.Sd
    → access_mode_selected (switch_status_of kind)
    ≡ (if high_speed_support (switch_status_of kind) == 1 then 1 else 15)
selected (Sd sd) is_sd = selected_by sd.has_high_speed
selected (Mmc mmc) is_sd = cc

pub registers_hold : (registers : Registers) → HasWidths registers → each_register_is_taken registers ≡ true
    → HasRegisters (made_of registers)
registers_hold registers widths h =
    let cid = and_true (has_cid registers) _ h in
    let csd = and_true (has_csd registers) _ cid.1 in
    let rest = and_true (has_ocr registers.ocr) (kind_is_taken registers.kind registers.ocr) csd.1 in
    let ocr = and_true (works_at_3_3_volts registers.ocr) (has_no_ready_bit registers.ocr) rest.0 in
    let cid_checks = checks registers.cid cid.0 in
    let csd_checks = checks registers.csd (number_taken (kind_of registers.kind) _ csd.0) in
    record {
      ocr = below_ready_bit registers.ocr widths.ocr ocr.1;
      cid = widths.cid;
      csd = widths.csd;
      cid_check = cid_checks.0;
      cid_end = cid_checks.1;
      csd_check = csd_checks.0;
      csd_end = csd_checks.1;
      scr = scr_length registers.kind widths.own;
      switch_status = status_length registers.kind;
      selected = selected registers.kind;
      ext_csd = ext_csd_length registers.kind widths.own;
      cid_bytes = widths.cid_bytes;
      csd_bytes = widths.csd_bytes;
      scr_bytes = scr_bytes registers.kind widths.own;
      switch_status_bytes = status_bytes registers.kind;
      ext_csd_bytes = ext_csd_bytes registers.kind widths.own;
    }

byte_below : (bytes : List ℕ) → AreBytes bytes → (i : ℕ) → slice_index bytes i < 256
byte_below [] h i = omega arith
byte_below (x ∷ xs) h zero = h.0
byte_below (x ∷ xs) h (suc i) = byte_below xs h.1 i

pub small_unit : (block : List ℕ) → AreBytes block → erase_unit block ≤ 2 ^ 20
small_unit block bytes = omega (arith, byte_below block bytes 224)

unit_of_blocks : (blocks exponent : ℕ) → blocks < 128 → exponent < 16
    → (1 ≤ (blocks + 1) * 2 ^ (exponent - 9)) × ((blocks + 1) * 2 ^ (exponent - 9) ≤ 2 ^ 20)
unit_of_blocks blocks exponent few short =
    let some = pow_pos (exponent - 9) in
    let least : 1 ≤ 2 ^ (exponent - 9) = omega (arith, some) in
    let most : 2 ^ (exponent - 9) ≤ 2 ^ 6 = pow_mono {i = exponent - 9} {j = 6} (omega arith) in
    (grind (arith, least), grind (arith, most))

unit_by : (b : Bool) (unit : ℕ) → (1 ≤ unit) × (unit ≤ 2 ^ 20) → (1 ≤ cond b 1 unit) × (cond b 1 unit ≤ 2 ^ 20)
unit_by true unit h = (omega arith, omega arith)
unit_by false unit h = h

pub sd_unit : (csd : Csd) → IsSdCsd csd → (1 ≤ erase_unit_of csd) × (erase_unit_of csd ≤ 2 ^ 20)
sd_unit (V1 csd) h =
    unit_by (erase_blk_en csd == 1) _
    (unit_of_blocks (sector_size csd) (write_bl_len csd) (omega arith) (omega arith))
sd_unit (V2 csd) h = (omega arith, omega arith)
sd_unit (MmcCsd csd) h = absurd h

-- The sizes of a spec that isn't refused.

at_most : (n limit : ℕ) → nat_le n limit ≡ true → n ≤ limit
at_most n limit h = grind (arith, nat_tests, h)

-- it has at most so many sectors as it may have
pub few_sectors : (limit : ℕ) (sizes : List ℕ) (image : Option (List ℕ)) → takes_image_within limit sizes image ≡ true
    → total sizes ≤ limit
few_sectors limit sizes image h =
    at_most _ limit (and_true (nat_le (total sizes) limit) (image_fits image (total sizes)) h).0

length_of : (bytes : List ℕ) (size : ℕ) → (length bytes == size) ≡ true → length bytes ≡ size
length_of bytes size h = grind (arith, nat_tests, h)

-- an image has 512 bytes for each of them
pub image_length : (limit : ℕ) (sizes : List ℕ) (image : Option (List ℕ)) → takes_image_within limit sizes image ≡ true
    → IfSome image (λ bytes. length bytes ≡ 512 * total sizes)
image_length limit sizes None h = tt
image_length limit sizes (Some bytes) h =
    length_of bytes (512 * total sizes)
    (and_true (nat_le (total sizes) limit) (image_fits (Some bytes) (total sizes)) h).1

size_within : (sizes : List ℕ) (i : ℕ) → slice_index_or sizes i 0 ≤ total sizes
size_within [] i = omega arith
size_within (size ∷ sizes) zero = omega arith
size_within (size ∷ sizes) (suc i) = omega (arith, size_within sizes i)

exists : (size : ℕ) (addressing : Addressing) → size ≤ MAX_LARGE → size ≡ existing_sectors size addressing
exists size Bytes h = grind (arith, nat_tests, h)
exists size Sectors h = grind (arith, nat_tests, h)

mmc_size : (made : Made) → total (mmc_sizes (user_sectors made) made.ext_csd) ≤ MAX_LARGE → (part : Part)
    → slice_index_or (mmc_sizes (user_sectors made) made.ext_csd) (part_number part) 0 ≡ mmc_sectors made part
mmc_size made few part =
    let sizes = mmc_sizes (user_sectors made) made.ext_csd in
    let within = λ (i : ℕ). le_trans (size_within sizes i) few in
    let by = addressing_of made in
    elim part as (λ part. slice_index_or sizes (part_number part) 0 ≡ mmc_sectors made part) [
      | User ↦ refl
      | Boot1 ↦ refl
      | Boot2 ↦ refl
      | Gp1 ↦ exists _ by (within 3)
      | Gp2 ↦ exists _ by (within 4)
      | Gp3 ↦ exists _ by (within 5)
      | Gp4 ↦ exists _ by (within 6)
    ]

sd_size : (made : Made) (part : Part)
    → slice_index_or (sd_sizes (user_sectors made)) (part_number part) 0 ≡ sd_sectors made part
sd_size made User = refl
sd_size made Boot1 = refl
sd_size made Boot2 = refl
sd_size made Gp1 = refl
sd_size made Gp2 = refl
sd_size made Gp3 = refl
sd_size made Gp4 = refl

size_by : (b : Bool) (made : Made)
    → total (if b then sd_sizes (user_sectors made) else mmc_sizes (user_sectors made) made.ext_csd) ≤ MAX_LARGE
    → (part : Part)
    → slice_index_or
    (if b then sd_sizes (user_sectors made) else mmc_sizes (user_sectors made) made.ext_csd)
    (part_number part) 0
    ≡ (if b then sd_sectors made part else mmc_sectors made part)
size_by true made few part = sd_size made part
size_by false made few part = mmc_size made few part

-- no general purpose partition is too large to exist
pub sizes_exist : (registers : Registers) → total (sizes_of registers) ≤ MAX_LARGE → (part : Part)
    → slice_index_or (sizes_of registers) (part_number part) 0 ≡ sectors_in (made_of registers) part
sizes_exist registers few part = size_by (is_sd (kind_of registers.kind)) (made_of registers) few part

-- there are seven
length_by : (b : Bool) (user : ℕ) (block : List ℕ) → length (if b then sd_sizes user else mmc_sizes user block) ≡ 7
length_by true user block = refl
length_by false user block = refl

pub length_sizes : (registers : Registers) → length (sizes_of registers) ≡ 7
length_sizes registers =
    length_by (is_sd (kind_of registers.kind)) (user_sectors (made_of registers)) (ext_csd_of registers.kind)

-- The number of a CSD is that of its bytes.

same_number : (read csd : Csd) → ◌≡◌ {A = Result Csd RegFault} (Ok read) (Ok csd) → csd_number csd ≡ csd_number read
same_number read csd h = cc

sd_number : (b c d : Bool) (number : ℕ) (csd : Csd)
    → cond b (cond c (Ok (V1 number)) (Err Range)) (cond d (Ok (V2 number)) (Err Structure)) ≡ Ok csd
    → csd_number csd ≡ number
sd_number true true d number csd h = same_number (V1 number) csd h
sd_number true false d number csd h = cc
sd_number false c true number csd h = same_number (V2 number) csd h
sd_number false c false number csd h = cc

pub number_of_csd : (kind : Kind) (number : ℕ) (csd : Csd) → csd_of kind number ≡ Ok csd → csd_number csd ≡ number
number_of_csd Is.Sd number csd h =
    sd_number (csd_structure number == 0)
    (has_block_length (read_bl_len number) && has_block_length (write_bl_len number))
    (csd_structure number == 1) number csd h
number_of_csd Is.Mmc number csd h = same_number (MmcCsd number) csd h
