-- The EXT_CSD of a new eMMC device.
use Rattle.std.proofs.Common.{◌≡◌, ℕ, zero, suc, ◌+◌, ◌*◌, ◌/◌, ◌%◌, ◌^◌, ◌<◌, List, length, Bool, true, false, cond, refl, arith}
use Rattle.std.specs.Prelude.{◌==◌, not, replicate, slice_set}
use Rattle.std.specs.Int.{byte_at}
use Rattle.std.proofs.lemmas.Bool.{eqb-true}
use Rattle.mmc_frame.specs.Flips.{AreBytes}
use Rattle.mmc_ext_csd.specs.ExtCsd.{boot_sectors, data_sector_size, ext_csd_rev, gp_sectors, has_protection, hc_erase_grp_size}
use Rattle.mmc_ext_csd.specs.ExtCsd.{high_speed_at_52_mhz, sec_count}
use Rattle.mmc_card.proofs.ByteLemmas.{bytes_replicate, bytes_set}
use Rattle.card_maker.specs.NewExtCsd.{new_ext_csd, with_partition, with_sectors, with_speed, with_units}
use Rattle.card_maker.specs.NewRegisters.{bit}

byte_small : (k n : ℕ) → byte_at k n < 256
byte_small zero n = omega arith
byte_small (suc k) n = omega arith

bit_small : (b : Bool) → bit b < 256
bit_small true = omega arith
bit_small false = omega arith

speed_small : (b : Bool) → cond b 3 1 < 256
speed_small true = omega arith
speed_small false = omega arith

pub ext_length : (sectors boot gp : ℕ) (speed : Bool) → length (new_ext_csd sectors boot gp speed) ≡ 512
unfolding new_ext_csd
ext_length sectors boot gp speed = refl

partition_bytes : (block : List ℕ) (gp : ℕ) → AreBytes block → AreBytes (with_partition block gp)
partition_bytes block gp h =
    let low : List ℕ = slice_set block 143 (byte_at 0 gp) in
    let middle : List ℕ = slice_set low 144 (byte_at 1 gp) in
    let high : List ℕ = slice_set middle 145 (byte_at 2 gp) in
    let complete : List ℕ = slice_set high 155 (bit (not (gp == 0))) in
    bytes_set complete 160 (bit (not (gp == 0))) (bit_small (not (gp == 0)))
    (bytes_set high 155 (bit (not (gp == 0))) (bit_small (not (gp == 0)))
    (bytes_set middle 145 (byte_at 2 gp) (byte_small 2 gp) (bytes_set low 144 (byte_at 1 gp) (byte_small 1 gp)
    (bytes_set block 143 (byte_at 0 gp) (byte_small 0 gp) h))))

speed_bytes : (block : List ℕ) (speed : Bool) → AreBytes block → AreBytes (with_speed block speed)
speed_bytes block speed h =
    let revision : List ℕ = slice_set block 192 8 in
    let structure : List ℕ = slice_set revision 194 2 in
    bytes_set structure 196 (cond speed 3 1) (speed_small speed)
    (bytes_set revision 194 2 (omega arith) (bytes_set block 192 8 (omega arith) h))

sectors_bytes : (block : List ℕ) (n : ℕ) → AreBytes block → AreBytes (with_sectors block n)
sectors_bytes block n h =
    let low : List ℕ = slice_set block 212 (byte_at 0 n) in
    let second : List ℕ = slice_set low 213 (byte_at 1 n) in
    let third : List ℕ = slice_set second 214 (byte_at 2 n) in
    bytes_set third 215 (byte_at 3 n) (byte_small 3 n) (bytes_set second 214 (byte_at 2 n) (byte_small 2 n)
    (bytes_set low 213 (byte_at 1 n) (byte_small 1 n) (bytes_set block 212 (byte_at 0 n) (byte_small 0 n) h)))

units_bytes : (block : List ℕ) (boot : ℕ) → boot < 256 → AreBytes block → AreBytes (with_units block boot)
units_bytes block boot small h =
    let protect : List ℕ = slice_set block 221 1 in
    let erase : List ℕ = slice_set protect 224 1 in
    let boots : List ℕ = slice_set erase 226 boot in
    bytes_set boots 231 0x10 (omega arith) (bytes_set erase 226 boot small
    (bytes_set protect 224 1 (omega arith) (bytes_set block 221 1 (omega arith) h)))

pub ext_bytes : (sectors boot gp : ℕ) (speed : Bool) → boot < 256 → AreBytes (new_ext_csd sectors boot gp speed)
unfolding new_ext_csd
ext_bytes sectors boot gp speed small =
    let zeros : List ℕ = replicate 512 0 in
    let partition : List ℕ = with_partition zeros gp in
    let fast : List ℕ = with_speed partition speed in
    units_bytes (with_sectors fast sectors) boot small (sectors_bytes fast sectors (speed_bytes partition speed
    (partition_bytes zeros gp (bytes_replicate 512 0 (omega arith)))))

pub ext_rev : (sectors boot gp : ℕ) (speed : Bool) → ext_csd_rev (new_ext_csd sectors boot gp speed) ≡ 8
unfolding new_ext_csd
ext_rev sectors boot gp speed = refl

pub ext_unit : (sectors boot gp : ℕ) (speed : Bool) → hc_erase_grp_size (new_ext_csd sectors boot gp speed) ≡ 1
unfolding new_ext_csd
ext_unit sectors boot gp speed = refl

pub ext_sector_size : (sectors boot gp : ℕ) (speed : Bool) → data_sector_size (new_ext_csd sectors boot gp speed) ≡ 0
unfolding new_ext_csd
ext_sector_size sectors boot gp speed = refl

pub ext_unprotected : (sectors boot gp : ℕ) (speed : Bool) → has_protection (new_ext_csd sectors boot gp speed) ≡ false
unfolding new_ext_csd
ext_unprotected sectors boot gp speed = refl

pub ext_sectors : (sectors boot gp : ℕ) (speed : Bool) → sectors < 2 ^ 32
    → sec_count (new_ext_csd sectors boot gp speed) ≡ sectors
unfolding new_ext_csd
ext_sectors sectors boot gp speed fits = omega arith

pub ext_boot : (sectors boot gp : ℕ) (speed : Bool) → boot_sectors (new_ext_csd sectors boot gp speed) ≡ boot * 256
unfolding new_ext_csd
ext_boot sectors boot gp speed = refl

pub ext_speed : (sectors boot gp : ℕ) (speed : Bool)
    → (high_speed_at_52_mhz (new_ext_csd sectors boot gp speed) == 1) ≡ speed
unfolding new_ext_csd
ext_speed sectors boot gp true = refl
ext_speed sectors boot gp false = refl

gp_by : (gp : ℕ) (t : Bool) → (gp == 0) ≡ t → gp < 2 ^ 24
    → cond (bit (not t) / 1 % 2 == 0) 0
    ((byte_at 0 gp + 256 * (byte_at 1 gp + 256 * (byte_at 2 gp + 256 * 0))) * (1 * (1 * 1024))) ≡ gp * 1024
gp_by gp true none fits = let z = eqb-true gp 0 none in omega (arith, z)
gp_by gp false some fits = omega arith

pub ext_gp : (sectors boot gp : ℕ) (speed : Bool) → gp < 2 ^ 24 → gp_sectors 1 (new_ext_csd sectors boot gp speed) ≡ gp * 1024
unfolding new_ext_csd
ext_gp sectors boot gp speed fits = gp_by gp (gp == 0) refl fits

none_by : (b : Bool) → cond {A = ℕ} b 0 0 ≡ 0
none_by true = refl
none_by false = refl

pub ext_gp_2 : (sectors boot gp : ℕ) (speed : Bool) → gp_sectors 2 (new_ext_csd sectors boot gp speed) ≡ 0
unfolding new_ext_csd
ext_gp_2 sectors boot gp speed = none_by (bit (not (gp == 0)) / 1 % 2 == 0)

pub ext_gp_3 : (sectors boot gp : ℕ) (speed : Bool) → gp_sectors 3 (new_ext_csd sectors boot gp speed) ≡ 0
unfolding new_ext_csd
ext_gp_3 sectors boot gp speed = none_by (bit (not (gp == 0)) / 1 % 2 == 0)

pub ext_gp_4 : (sectors boot gp : ℕ) (speed : Bool) → gp_sectors 4 (new_ext_csd sectors boot gp speed) ≡ 0
unfolding new_ext_csd
ext_gp_4 sectors boot gp speed = none_by (bit (not (gp == 0)) / 1 % 2 == 0)
