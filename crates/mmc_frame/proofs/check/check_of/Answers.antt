use Rattle.std.proofs.Common.{◌≡◌, ◌+◌, ◌<◌, ◌++◌, [], ◌∷◌, take, refl, sym, ap, ◌∙◌, arith}
use Rattle.std.specs.Prelude.{slice_index, bit_xor, ◌*◌}
use Rattle.std.proofs.lemmas.List.{take_more}
use Rattle.mmc_frame.specs.Check.{bits_of, byte_bits, remainder}
use Rattle.mmc_frame.specs.declared.check.TheConstants.{SHIFTED}
use Rattle.mmc_frame.proofs.Linear.{remainder-lt}
use Rattle.mmc_frame.proofs.Bytes.{zeros, check_step, bits_pushed}
use Rattle.mmc_frame.proofs.check.check_of.Goals as goal

pub loop-byte-init : goal.loop-byte-init
unfolding remainder
loop-byte-init c = record { small = omega arith; so_far = refl }

pub loop-byte-preserved : goal.loop-byte-preserved
loop-byte-preserved c =
    let i = c.loop-byte.byte-index in
    let xs = c.args.bytes.now in
    let more : take (i + 1) xs ≡ take i xs ++ slice_index xs i ∷ [] = take_more xs i 0 c.loop-byte-test.true in
    let now : remainder (bits_of (take (i + 1) xs) ++ zeros)
    ≡ remainder ((bits_of (take i xs) ++ byte_bits (slice_index xs i)) ++ zeros) =
    ap (λ ys. remainder (bits_of ys ++ zeros)) more
    ∙ ap (λ bs. remainder (bs ++ zeros)) (bits_pushed (take i xs) (slice_index xs i)) in
    let fits : slice_index xs i < 256 = omega (arith, c.type_inv.bytes i) in
    let step = check_step (bits_of (take i xs)) (slice_index xs i) fits in
    let was : slice_index SHIFTED (bit_xor (2 * c.loop-byte.check) (slice_index xs i)) ≡ slice_index SHIFTED
    (bit_xor (2 * remainder (bits_of (take i xs) ++ zeros)) (slice_index xs i)) =
    ap (λ r. slice_index SHIFTED (bit_xor (2 * r) (slice_index xs i))) c.loop-byte.invariant.so_far in
    let so_far : c.with_byte-check.result ≡ remainder (bits_of (take (i + 1) xs) ++ zeros) = c.with_byte-check.ensures
    ∙ was ∙ step ∙ sym now in
    record { small = rw so_far (remainder-lt (bits_of (take (i + 1) xs) ++ zeros)); so_far = so_far }
