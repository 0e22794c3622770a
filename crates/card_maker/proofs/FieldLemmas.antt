-- The fields of the CSD of a new card.
use Rattle.std.proofs.Common.{◌≡◌, ℕ, ◌+◌, ◌*◌, ◌/◌, ◌%◌, ◌^◌, ◌<◌, Bool, true, false, ap, ◌∙◌, arith}
use Rattle.mmc_regs.specs.CsdFields.{c_size, c_size_mult, c_size_v2, ccc, class_10, csd_structure, perm_write_protect, read_bl_len}
use Rattle.mmc_regs.specs.CsdFields.{tmp_write_protect, write_bl_len}
use Rattle.mmc_regs.specs.Register.{register_number}
use Rattle.mmc_regs.specs.Register.{checked_register}
use Rattle.card_maker.specs.NewRegisters.{bit, csd_by_blocks, csd_v2}
use Rattle.card_maker.specs.declared.csd.TheConstants.{MMC_FIXED, V1_FIXED, V2_FIXED}
use Rattle.mmc_regs.proofs.CheckedLemmas.{check_in, check_small, checked_number_is}

bit_small : (b : Bool) → bit b < 2
bit_small true = omega arith
bit_small false = omega arith

-- what a CSD in blocks says
pub record SaysBlocks (n classes length size mult : ℕ) (protect : Bool) : Type 0 where
  pub classes_said : ccc n ≡ classes
  pub class_10_said : class_10 n ≡ classes / 1024 % 2
  pub read : read_bl_len n ≡ length
  pub write : write_bl_len n ≡ length
  pub count : c_size n ≡ size
  pub multiplier : c_size_mult n ≡ mult
  pub perm : perm_write_protect n ≡ 0
  pub tmp : tmp_write_protect n ≡ bit protect

v1_says : (n classes length size mult low : ℕ) (protect : Bool) → classes < 4096 → length < 16 → size < 4096 → mult < 8
    → low < 256 → n ≡ csd_by_blocks V1_FIXED classes length size mult protect + low
    → SaysBlocks n classes length size mult protect × (csd_structure n ≡ 0)
unfolding csd_by_blocks
v1_says n classes length size mult low protect a b c d e is =
    let p = bit_small protect in (
      record {
        classes_said = omega arith;
        class_10_said = omega arith;
        read = omega arith;
        write = omega arith;
        count = omega arith;
        multiplier = omega arith;
        perm = omega arith;
        tmp = omega arith;
      },
      omega arith,
    )

mmc_says : (n classes length size mult low : ℕ) (protect : Bool) → classes < 4096 → length < 16 → size < 4096 → mult < 8
    → low < 256 → n ≡ csd_by_blocks MMC_FIXED classes length size mult protect + low
    → SaysBlocks n classes length size mult protect
unfolding csd_by_blocks
mmc_says n classes length size mult low protect a b c d e is =
    let p = bit_small protect in
    record {
      classes_said = omega arith;
      class_10_said = omega arith;
      read = omega arith;
      write = omega arith;
      count = omega arith;
      multiplier = omega arith;
      perm = omega arith;
      tmp = omega arith;
    }

-- what a CSD version 2.0 says
pub record SaysUnits (n classes size : ℕ) (protect : Bool) : Type 0 where
  pub version : csd_structure n ≡ 1
  pub classes_said : ccc n ≡ classes
  pub class_10_said : class_10 n ≡ classes / 1024 % 2
  pub count : c_size_v2 n ≡ size
  pub perm : perm_write_protect n ≡ 0
  pub tmp : tmp_write_protect n ≡ bit protect

v2_says : (n classes size low : ℕ) (protect : Bool) → classes < 4096 → size < 4194304 → low < 256
    → n ≡ csd_v2 V2_FIXED classes size protect + low → SaysUnits n classes size protect
unfolding csd_v2
v2_says n classes size low protect a b c is =
    let p = bit_small protect in
    record {
      version = omega arith;
      classes_said = omega arith;
      class_10_said = omega arith;
      count = omega arith;
      perm = omega arith;
      tmp = omega arith;
    }

-- the number of a register, where the lowest byte of its number is 0
pub number_and_check : (number : ℕ) → number < 256 ^ 16 → number % 256 ≡ 0
    → register_number (checked_register number) ≡ number + (2 * check_in number + 1)
number_and_check number fits low =
    checked_number_is number fits ∙ ap (λ n. n + (2 * check_in number + 1)) (omega arith)

pub v1_csd_says : (classes length size mult : ℕ) (protect : Bool) → classes < 4096 → length < 16 → size < 4096 → mult < 8
    → (number : ℕ) → number ≡ csd_by_blocks V1_FIXED classes length size mult protect
    → SaysBlocks (register_number (checked_register number)) classes length size mult protect
    × (csd_structure (register_number (checked_register number)) ≡ 0)
unfolding csd_by_blocks
v1_csd_says classes length size mult protect a b c d number is =
    let p = bit_small protect in
    v1_says _ classes length size mult (2 * check_in number + 1) protect a b c d (check_small number)
    (number_and_check number (omega arith) (omega arith) ∙ ap (λ n. n + (2 * check_in number + 1)) is)

pub mmc_csd_says : (classes length size mult : ℕ) (protect : Bool) → classes < 4096 → length < 16 → size < 4096 → mult < 8
    → (number : ℕ) → number ≡ csd_by_blocks MMC_FIXED classes length size mult protect
    → SaysBlocks (register_number (checked_register number)) classes length size mult protect
unfolding csd_by_blocks
mmc_csd_says classes length size mult protect a b c d number is =
    let p = bit_small protect in
    mmc_says _ classes length size mult (2 * check_in number + 1) protect a b c d (check_small number)
    (number_and_check number (omega arith) (omega arith) ∙ ap (λ n. n + (2 * check_in number + 1)) is)

pub v2_csd_says : (classes size : ℕ) (protect : Bool) → classes < 4096 → size < 4194304 → (number : ℕ)
    → number ≡ csd_v2 V2_FIXED classes size protect
    → SaysUnits (register_number (checked_register number)) classes size protect
unfolding csd_v2
v2_csd_says classes size protect a b number is =
    let p = bit_small protect in
    v2_says _ classes size (2 * check_in number + 1) protect a b (check_small number)
    (number_and_check number (omega arith) (omega arith) ∙ ap (λ n. n + (2 * check_in number + 1)) is)
