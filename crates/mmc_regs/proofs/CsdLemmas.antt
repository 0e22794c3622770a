-- A CSD in which TMP_WRITE_PROTECT has come on says the same else.
use Rattle.std.proofs.Common.{ℕ, ◌+◌, ◌*◌, ◌/◌, ◌%◌, ◌^◌, ◌<◌, ◌==◌, ◌&&◌, ◌||◌, ◌≡◌, ◌∙◌, List, Bool, true, false, ap, arith, cond}
use Rattle.std.proofs.Common.{refl, subst, suc, sym, zero, [], ◌∷◌}
use Rattle.std.specs.Prelude.{Err, Ok, Result, if◌then◌else◌, slice_index}
use Rattle.std.proofs.lemmas.Bool.{eq-eqb, eqb-true}
use Rattle.byteorder.specs.Numbers.{big_from-lt}
use Rattle.mmc_frame.specs.Flips.{AreBytes}
use Rattle.std.proofs.lemmas.Nat.{shr-shr}
use Rattle.mmc_frame.specs.declared.kind.Kind.{Kind}
use Rattle.mmc_frame.specs.declared.kind.Kind.TheVariants.{Sd, Mmc as MmcDevice}
use Rattle.mmc_regs.proofs.CheckedLemmas.{check_small, checked_number_is}
use Rattle.mmc_regs.specs.Csd.{bytes_by_blocks, csd_number, csd_of, erase_unit_of, erase_unit_v1, has_block_length, is_protected}
use Rattle.mmc_regs.specs.Csd.{lasting_csd, may_switch, protected_csd, sd_csd_of, sectors_of}
use Rattle.mmc_regs.specs.CsdFields.{c_size, c_size_mult, c_size_v2, ccc, class_10, csd_structure, erase_blk_en, perm_write_protect}
use Rattle.mmc_regs.specs.CsdFields.{lasting_number, read_bl_len, sector_size, tmp_write_protect, with_protection, write_bl_len}
use Rattle.mmc_regs.specs.Register.{checked_register, register_number}
use Rattle.mmc_regs.specs.declared.csd.Csd.{Csd}
use Rattle.mmc_regs.specs.declared.csd.Csd.TheVariants.{V1, V2, Mmc}
use Rattle.mmc_regs.specs.declared.fault.RegFault.{RegFault}
use Rattle.mmc_regs.specs.declared.fault.RegFault.TheVariants.{Range, Structure}

-- the same above TMP_WRITE_PROTECT
abbrev pub Above : ℕ → ℕ → Type 0
Above x y = x / 2 ^ 13 ≡ y / 2 ^ 13

from_bit : (k x y : ℕ) → Above x y → x / 2 ^ (13 + k) ≡ y / 2 ^ (13 + k)
from_bit k x y same = sym (shr-shr x 13 k) ∙ ap (λ n. n / 2 ^ k) same ∙ shr-shr y 13 k

-- each field that stands there
pub same_structure : (x y : ℕ) → Above x y → csd_structure x ≡ csd_structure y
same_structure x y same = ap (λ n. n % 4) (from_bit 113 x y same)

pub same_ccc : (x y : ℕ) → Above x y → ccc x ≡ ccc y
same_ccc x y same = ap (λ n. n % 4096) (from_bit 71 x y same)

pub same_class_10 : (x y : ℕ) → Above x y → class_10 x ≡ class_10 y
same_class_10 x y same = ap (λ n. n % 2) (from_bit 81 x y same)

pub same_read_length : (x y : ℕ) → Above x y → read_bl_len x ≡ read_bl_len y
same_read_length x y same = ap (λ n. n % 16) (from_bit 67 x y same)

same_size : (x y : ℕ) → Above x y → c_size x ≡ c_size y
same_size x y same = ap (λ n. n % 4096) (from_bit 49 x y same)

same_mult : (x y : ℕ) → Above x y → c_size_mult x ≡ c_size_mult y
same_mult x y same = ap (λ n. n % 8) (from_bit 34 x y same)

same_protection : (x y : ℕ) → Above x y → perm_write_protect x ≡ perm_write_protect y
same_protection x y same = ap (λ n. n % 2) (from_bit 0 x y same)

same_erase_block : (x y : ℕ) → Above x y → erase_blk_en x ≡ erase_blk_en y
same_erase_block x y same = ap (λ n. n % 2) (from_bit 33 x y same)

same_sector_size : (x y : ℕ) → Above x y → sector_size x ≡ sector_size y
same_sector_size x y same = ap (λ n. n % 128) (from_bit 26 x y same)

pub same_write_length : (x y : ℕ) → Above x y → write_bl_len x ≡ write_bl_len y
same_write_length x y same = ap (λ n. n % 16) (from_bit 9 x y same)

same_size_v2 : (x y : ℕ) → Above x y → c_size_v2 x ≡ c_size_v2 y
same_size_v2 x y same = ap (λ n. n % 2 ^ 22) (from_bit 35 x y same)

-- and what they come to
pub same_switch : (x y : ℕ) → Above x y → may_switch x ≡ may_switch y
same_switch x y same =
    ap (λ n. (n == 0) || (class_10 x == 1)) (same_ccc x y same) ∙ ap (λ n. (ccc y == 0) || (n == 1)) (same_class_10 x y same)

same_blocks : (x y : ℕ) → Above x y → bytes_by_blocks x ≡ bytes_by_blocks y
same_blocks x y same =
    ap (λ n. (n + 1) * 2 ^ (c_size_mult x + 2) * 2 ^ read_bl_len x) (same_size x y same)
    ∙ ap (λ n. (c_size y + 1) * 2 ^ (n + 2) * 2 ^ read_bl_len x) (same_mult x y same)
    ∙ ap (λ n. (c_size y + 1) * 2 ^ (c_size_mult y + 2) * 2 ^ n) (same_read_length x y same)

same_unit : (x y : ℕ) → Above x y → erase_unit_v1 x ≡ erase_unit_v1 y
same_unit x y same = rw (same_erase_block x y same, same_sector_size x y same, same_write_length x y same) refl

-- two of one structure that are the same above it
abbrev pub AreAlike : Csd → Csd → Type 0
AreAlike (V1 x) (V1 y) = Above x y
AreAlike (V2 x) (V2 y) = Above x y
AreAlike (Mmc x) (Mmc y) = Above x y
AreAlike _ _ = ⊥

pub alike_sectors : (one other : Csd) → AreAlike one other → sectors_of one ≡ sectors_of other
alike_sectors (V1 x) (V1 y) same = ap (λ n. n / 512) (same_blocks x y same)
alike_sectors (V2 x) (V2 y) same = ap (λ n. (n + 1) * 1024) (same_size_v2 x y same)
alike_sectors (Mmc x) (Mmc y) same = ap (λ n. n / 512) (same_blocks x y same)
alike_sectors (V1 x) (V2 y) same = absurd same
alike_sectors (V1 x) (Mmc y) same = absurd same
alike_sectors (V2 x) (V1 y) same = absurd same
alike_sectors (V2 x) (Mmc y) same = absurd same
alike_sectors (Mmc x) (V1 y) same = absurd same
alike_sectors (Mmc x) (V2 y) same = absurd same

pub alike_unit : (one other : Csd) → AreAlike one other → erase_unit_of one ≡ erase_unit_of other
alike_unit (V1 x) (V1 y) same = same_unit x y same
alike_unit (V2 x) (V2 y) same = refl
alike_unit (Mmc x) (Mmc y) same = refl
alike_unit (V1 x) (V2 y) same = absurd same
alike_unit (V1 x) (Mmc y) same = absurd same
alike_unit (V2 x) (V1 y) same = absurd same
alike_unit (V2 x) (Mmc y) same = absurd same
alike_unit (Mmc x) (V1 y) same = absurd same
alike_unit (Mmc x) (V2 y) same = absurd same

pub alike_lasting : (one other : Csd) → AreAlike one other → lasting_csd one ≡ lasting_csd other
alike_lasting (V1 x) (V1 y) same = ap (λ n. V1 (n * 2 ^ 13)) same
alike_lasting (V2 x) (V2 y) same = ap (λ n. V2 (n * 2 ^ 13)) same
alike_lasting (Mmc x) (Mmc y) same = ap (λ n. Mmc (n * 2 ^ 13)) same
alike_lasting (V1 x) (V2 y) same = absurd same
alike_lasting (V1 x) (Mmc y) same = absurd same
alike_lasting (V2 x) (V1 y) same = absurd same
alike_lasting (V2 x) (Mmc y) same = absurd same
alike_lasting (Mmc x) (V1 y) same = absurd same
alike_lasting (Mmc x) (V2 y) same = absurd same

-- both are read, or neither is
abbrev pub AreReadAlike : Result Csd RegFault → Result Csd RegFault → Type 0
AreReadAlike (Ok one) (Ok other) = AreAlike one other
AreReadAlike (Err one) (Err other) = one ≡ other
AreReadAlike _ _ = ⊥

sd_by : (first fits second : Bool) (x y : ℕ) → Above x y
    → AreReadAlike (cond first (cond fits (Ok (V1 x)) (Err Range)) (cond second (Ok (V2 x)) (Err Structure)))
    (cond first (cond fits (Ok (V1 y)) (Err Range)) (cond second (Ok (V2 y)) (Err Structure)))
sd_by true true second x y same = same
sd_by true false second x y same = refl
sd_by false fits true x y same = same
sd_by false fits false x y same = refl

sd_alike : (x y : ℕ) → Above x y → AreReadAlike (sd_csd_of x) (sd_csd_of y)
sd_alike x y same =
    let first = csd_structure x == 0 in
    let fits = has_block_length (read_bl_len x) && has_block_length (write_bl_len x) in
    let second = csd_structure x == 1 in
    let other : cond first (cond fits (Ok (V1 y)) (Err Range)) (cond second (Ok (V2 y)) (Err Structure)) ≡ sd_csd_of y =
    ap (λ n. cond (n == 0) (cond fits (Ok (V1 y)) (Err Range)) (cond (n == 1) (Ok (V2 y)) (Err Structure))) (same_structure x y same)
    ∙ ap (λ n. cond (csd_structure y == 0) (cond (has_block_length n && has_block_length (write_bl_len x)) (Ok (V1 y)) (Err Range))
    (cond (csd_structure y == 1) (Ok (V2 y)) (Err Structure))) (same_read_length x y same)
    ∙ ap (λ n. cond (csd_structure y == 0) (cond (has_block_length (read_bl_len y) && has_block_length n) (Ok (V1 y)) (Err Range))
    (cond (csd_structure y == 1) (Ok (V2 y)) (Err Structure))) (same_write_length x y same) in
    subst (AreReadAlike (sd_csd_of x)) other (sd_by first fits second x y same)

pub read_alike : (kind : Kind) (x y : ℕ) → Above x y → AreReadAlike (csd_of kind x) (csd_of kind y)
read_alike Sd x y same = sd_alike x y same
read_alike MmcDevice x y same = same

-- What has come on.

not_one : (bit : ℕ) → bit < 2 → (bit == 1) ≡ false → bit ≡ 0
not_one zero small other = refl
not_one (suc zero) small other = cc
not_one (suc (suc n)) small other = absurd (omega (arith, small))

protected_by : (perm tmp : Bool) → tmp ≡ true → (perm || tmp) ≡ true
protected_by true tmp is = refl
protected_by false tmp is = is

bit_by : (is_set : Bool) (n : ℕ) → (tmp_write_protect n == 1) ≡ is_set
    → Above (cond is_set n (n + 2 ^ 12)) n × (tmp_write_protect (cond is_set n (n + 2 ^ 12)) ≡ 1)
bit_by true n set = (refl, eqb-true (tmp_write_protect n) 1 set)
bit_by false n set =
    let low : n / 2 ^ 12 % 2 ≡ 0 = not_one (n / 2 ^ 12 % 2) (omega arith) set in
    (omega (arith, low), omega (arith, low))

-- a register of bytes is a number of 128 bits
below : (xs : List ℕ) → AreBytes xs → (k : ℕ) → slice_index xs k < 256
below [] are k = omega arith
below (x ∷ xs) are zero = are.0
below (x ∷ xs) are (suc k) = below xs are.1 k

fits_by : (is_set : Bool) (n : ℕ) → n < 256 ^ 16 → (tmp_write_protect n == 1) ≡ is_set → cond is_set n (n + 2 ^ 12) < 256 ^ 16
fits_by true n small set = small
fits_by false n small set =
    let low = not_one (n / 2 ^ 12 % 2) (omega arith) set in
    omega (arith, low, small)

-- Above TMP_WRITE_PROTECT it is the same, and it says that it is set.
pub protection_comes_on : (register : List ℕ) → AreBytes register
    → Above (register_number (protected_csd register)) (register_number register)
    × (is_protected (register_number (protected_csd register)) ≡ true)
protection_comes_on register are =
    let n = register_number register in
    let m = with_protection n in
    let small : n < 256 ^ 16 = big_from-lt 0 16 register (below register are) in
    let set = bit_by (tmp_write_protect n == 1) n refl in
    let is = checked_number_is m (fits_by (tmp_write_protect n == 1) n small refl) in
    let check = check_small m in
    let above : register_number (protected_csd register) / 2 ^ 13 ≡ m / 2 ^ 13 = omega (arith, is, check) in
    let bit : tmp_write_protect (register_number (protected_csd register)) ≡ tmp_write_protect m = omega (arith, is, check) in
    (above ∙ set.0, protected_by (perm_write_protect _ == 1) _ (eq-eqb (tmp_write_protect _) 1 (bit ∙ set.1)))

-- what lasts of a CSD has its block length
pub lasting_write_length : (n : ℕ) → write_bl_len (lasting_number n) ≡ write_bl_len n
lasting_write_length n = omega arith
