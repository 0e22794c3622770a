use Rattle.card_wave.specs.BlockSamples.{status_samples}
use Rattle.card_wave.proofs.DrawLemmas.{drawn_none}
use Rattle.card_wave.proofs.wave_writer.WaveWriter.draw_status.Goals as goal

pub returns-in-Nothing : goal.returns-in-Nothing
unfolding status_samples
returns-in-Nothing g c = rw c.in-Nothing.is (drawn_none _ _)
