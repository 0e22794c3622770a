use Rattle.card_wave.proofs.BlockLaws.{line_divides}
use Rattle.card_wave.proofs.laws.each_line_of_a_block_divides.Goals as goal

pub returns : goal.returns
returns c = line_divides
