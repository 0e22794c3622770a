use Rattle.std.proofs.Common.{◌%◌, ◌∙◌, ap, arith}
use Rattle.mmc_frame.specs.Check.{bits_of}
use Rattle.mmc_frame.specs.Flips.{flip_at}
use Rattle.mmc_card_sim.proofs.FlipLemmas.{frame_flipped}
use Rattle.mmc_card_sim.proofs.flip.flip.Goals as goal

pub returns-clause-bits : goal.returns-clause-bits
returns-clause-bits c =
    frame_flipped c.from.result (c.args.position % 8) c.args.frame.now (omega arith) (omega arith)
    ∙ ap (λ p. flip_at p (bits_of c.args.frame.now)) (omega arith)
