-- The EXT_CSD of a new eMMC device, by its bytes (JESD84-B51, section 7.4).
use Rattle.std.specs.Prelude.{ℕ, ◌==◌, List, Bool, if◌then◌else◌, not, replicate, slice_set}
use Rattle.std.specs.Int.{byte_at}
use Rattle.card_maker.specs.NewRegisters.{bit}

-- GP_SIZE_MULT_1, PARTITION_SETTING_COMPLETED and PARTITIONING_SUPPORT
abbrev pub with_partition : List ℕ → ℕ → List ℕ
with_partition block gp =
    let low = slice_set block 143 (byte_at 0 gp) in
    let middle = slice_set low 144 (byte_at 1 gp) in
    let high = slice_set middle 145 (byte_at 2 gp) in
    let complete = slice_set high 155 (bit (not (gp == 0))) in
    slice_set complete 160 (bit (not (gp == 0)))

-- EXT_CSD_REV, CSD_STRUCTURE and DEVICE_TYPE
abbrev pub with_speed : List ℕ → Bool → List ℕ
with_speed block high_speed = slice_set (slice_set (slice_set block 192 8) 194 2) 196 (if high_speed then 3 else 1)

-- SEC_COUNT
abbrev pub with_sectors : List ℕ → ℕ → List ℕ
with_sectors block sectors =
    let low = slice_set block 212 (byte_at 0 sectors) in
    let second = slice_set low 213 (byte_at 1 sectors) in
    let third = slice_set second 214 (byte_at 2 sectors) in
    slice_set third 215 (byte_at 3 sectors)

-- HC_WP_GRP_SIZE, HC_ERASE_GRP_SIZE, BOOT_SIZE_MULT and SEC_FEATURE_SUPPORT
abbrev pub with_units : List ℕ → ℕ → List ℕ
with_units block boot = slice_set (slice_set (slice_set (slice_set block 221 1) 224 1) 226 boot) 231 0x10

unfoldable pub new_ext_csd : ℕ → ℕ → ℕ → Bool → List ℕ
new_ext_csd sectors boot gp high_speed =
    with_units (with_sectors (with_speed (with_partition (replicate 512 0) gp) high_speed) sectors) boot
