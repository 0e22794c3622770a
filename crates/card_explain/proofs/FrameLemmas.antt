-- Zeros before the bits of a frame change no remainder.
use Rattle.std.proofs.Common.{◌≡◌, ℕ, ◌+◌, ◌*◌, ◌/◌, ◌%◌, ◌∙◌, [], ◌∷◌, ◌++◌, List, ap, arith, false, length, length-drop, length-take, refl, replicate, sym}
use Rattle.std.proofs.Math.Seq.{get_or-append_seam}
use Rattle.std.specs.Prelude.{slice_index, slice_range}
use Rattle.mmc_frame.specs.Check.{bits_of, remainder}
use Rattle.mmc_frame.specs.RegisterFrame.{with_check}
use Rattle.card_explain.specs.Frames.{remainder_of}
use Rattle.card_explain.specs.LongFrames.{register_check}

after_zeros : (a b c d e : ℕ)
    → remainder (bits_of (0 ∷ 0 ∷ 0 ∷ 0 ∷ 0 ∷ 0 ∷ 0 ∷ 0 ∷ 0 ∷ 0 ∷ a ∷ b ∷ c ∷ d ∷ e ∷ []) ++ replicate 7 false)
    ≡ remainder (bits_of (a ∷ b ∷ c ∷ d ∷ e ∷ []) ++ replicate 7 false)
unfolding remainder
after_zeros a b c d e = refl

halved : (n : ℕ) → (2 * n + 1) / 2 ≡ n
halved n = omega arith

-- the last byte of a register that ends with the bytes of a frame
pub check_after_zeros : (frame register : List ℕ)
    → register ≡ with_check (0 ∷ 0 ∷ 0 ∷ 0 ∷ 0 ∷ 0 ∷ 0 ∷ 0 ∷ 0 ∷ 0 ∷ (slice_index frame 0 % 128) ∷ slice_index frame 1
    ∷ slice_index frame 2 ∷ slice_index frame 3 ∷ slice_index frame 4 ∷ [])
    → slice_index register 15 / 2 ≡ remainder_of frame
unfolding remainder_of
check_after_zeros frame register is =
    ap (λ r. slice_index r 15 / 2) is ∙ halved _ ∙ after_zeros _ _ _ _ _

-- the last byte of a register that begins with the bytes of one in an R2
pub check_of_register : (frame register : List ℕ) → length frame ≡ 17
    → register ≡ with_check (slice_range frame 1 16) → slice_index register 15 / 2 ≡ register_check frame
unfolding register_check
check_of_register frame register size is =
    let covered = slice_range frame 1 16 in
    let len : length covered ≡ 15 = simp (length-take, length-drop) (omega arith) in
    ap (λ r. slice_index r 15 / 2) is
    ∙ ap (λ k. slice_index (with_check covered) k / 2) (sym len)
    ∙ ap (λ n. n / 2) (get_or-append_seam covered (2 * remainder (bits_of covered ++ replicate 7 false) + 1) [] 0)
    ∙ halved _
