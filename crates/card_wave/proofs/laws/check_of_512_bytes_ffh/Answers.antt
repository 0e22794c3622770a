use Rattle.card_wave.proofs.Linear.{check_of_ones}
use Rattle.card_wave.proofs.laws.check_of_512_bytes_ffh.Goals as goal

pub returns : goal.returns
returns c = check_of_ones
