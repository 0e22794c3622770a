-- A status without errors of an earlier command.
use Rattle.std.proofs.Common.{◌≡◌, ◌+◌, ◌*◌, ap, arith, refl, ℕ}
use Rattle.std.proofs.lemmas.Nat.Bits.{bit_at_and, bit_at-zero}
use Rattle.std.specs.Int.{bit_at}
use Rattle.mmc_frame.specs.Field.{field}
use Rattle.mmc_frame.specs.Status.{error_bits, error_mask, own_status}
use Rattle.mmc_frame.specs.declared.kind.Kind.{Kind}
use Rattle.mmc_frame.specs.declared.kind.Kind.TheVariants.{Mmc, Sd}

-- both bits are errors
crc_is_error : (kind : Kind) → bit_at (error_mask kind) 23 ≡ 1
crc_is_error Sd = refl
crc_is_error Mmc = refl

illegal_is_error : (kind : Kind) → bit_at (error_mask kind) 22 ≡ 1
illegal_is_error Sd = refl
illegal_is_error Mmc = refl

bits_22_23 : (n : ℕ) → field 23 22 n ≡ bit_at n 22 + 2 * bit_at n 23
bits_22_23 n = omega arith

pub own_where_clear : (kind : Kind) (status : ℕ) → error_bits kind status ≡ 0 → own_status status ≡ status
own_where_clear kind status none =
    let high = bit_at_and status (error_mask kind) 23 in
    let low = bit_at_and status (error_mask kind) 22 in
    let no_high = ap (λ n. bit_at n 23) none in
    let no_low = ap (λ n. bit_at n 22) none in
    let crc = crc_is_error kind in
    let illegal = illegal_is_error kind in
    let parts = bits_22_23 status in
    omega (arith, high, low, no_high, no_low, crc, illegal, parts, bit_at-zero 23, bit_at-zero 22)
