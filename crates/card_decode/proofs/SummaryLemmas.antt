-- The check that fits fifteen bytes, and the sizes that a register gives.
use Rattle.std.proofs.Common.{arith, length-take, ◌≡◌, ◌+◌, ◌*◌, ℕ, List, [], ◌++◌, length, take, sym, ap, ◌∙◌}
use Rattle.std.proofs.Math.Seq.{get_or-append_seam}
use Rattle.std.specs.Prelude.{slice_index, replicate, false}
use Rattle.mmc_frame.specs.Check.{remainder, bits_of}
use Rattle.mmc_frame.specs.RegisterFrame.{with_check}
use Rattle.card_decode.specs.Summaries.{fitting_check}

pub last_byte : (bytes whole : List ℕ) → length bytes ≡ 16 → whole ≡ with_check (take 15 bytes)
    → slice_index whole 15 ≡ fitting_check bytes
unfolding fitting_check
last_byte bytes whole size made =
    let covered = take 15 bytes in
    let len : length covered ≡ 15 = simp length-take (omega arith) in
    ap (λ w. slice_index w 15) made
    ∙ ap (λ k. slice_index (with_check covered) k) (sym len)
    ∙ get_or-append_seam covered (2 * remainder (bits_of covered ++ replicate 7 false) + 1) [] 0
