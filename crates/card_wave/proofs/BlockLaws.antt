-- Each line of a sound block ends with the check of its data.
use Rattle.std.proofs.Common.{◌≡◌, ℕ, zero, suc, ◌<◌, List, ◌++◌, length, false, true, refl, ap, ◌∙◌, arith}
use Rattle.std.specs.Prelude.{slice_index_or}
use Rattle.std.proofs.lemmas.List.{map-append}
use Rattle.mmc_card.specs.declared.exchange.Width.{Width}
use Rattle.mmc_card.specs.declared.exchange.Width.TheVariants.{One, Four, Eight}
use Rattle.card_wave.specs.declared.sample.Sample.{Sample}
use Rattle.card_wave.specs.LineCheck.{check_bits, line_check, remainder}
use Rattle.card_wave.specs.BlockSamples.{check_sample, check_samples, line_bits, lines_of}
use Rattle.card_wave.proofs.NoRemainder.{no_remainder}

-- what the checks of a block show of a line in use
line_of_checks : (width : Width) (block : List Sample) (k : ℕ) → k < length (lines_of width)
    → line_bits k (check_samples width true block) ≡ check_bits (line_check (line_bits k block))
unfolding check_samples check_sample line_bits
line_of_checks One block zero lt = refl
line_of_checks One block (suc k) lt = absurd (omega arith)
line_of_checks Four block zero lt = refl
line_of_checks Four block (suc zero) lt = refl
line_of_checks Four block (suc (suc zero)) lt = refl
line_of_checks Four block (suc (suc (suc zero))) lt = refl
line_of_checks Four block (suc (suc (suc (suc k)))) lt = absurd (omega arith)
line_of_checks Eight block zero lt = refl
line_of_checks Eight block (suc zero) lt = refl
line_of_checks Eight block (suc (suc zero)) lt = refl
line_of_checks Eight block (suc (suc (suc zero))) lt = refl
line_of_checks Eight block (suc (suc (suc (suc zero)))) lt = refl
line_of_checks Eight block (suc (suc (suc (suc (suc zero))))) lt = refl
line_of_checks Eight block (suc (suc (suc (suc (suc (suc zero)))))) lt = refl
line_of_checks Eight block (suc (suc (suc (suc (suc (suc (suc zero))))))) lt = refl
line_of_checks Eight block (suc (suc (suc (suc (suc (suc (suc (suc k)))))))) lt = absurd (omega arith)

pub line_divides : (width : Width) (block : List Sample) (k : ℕ) → k < length (lines_of width)
    → remainder (line_bits k (block ++ check_samples width true block)) ≡ 0
unfolding line_bits
line_divides width block k lt =
    ap remainder (map-append (λ (s : Sample). slice_index_or s.dat k false) block (check_samples width true block)
    ∙ ap (λ l. line_bits k block ++ l) (line_of_checks width block k lt))
    ∙ no_remainder (line_bits k block)
