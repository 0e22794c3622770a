use Rattle.card_wave.specs.CommandSamples.{reply_samples}
use Rattle.card_wave.proofs.DrawLemmas.{drawn_none}
use Rattle.card_wave.proofs.wave_writer.WaveWriter.draw_reply.Goals as goal

pub returns-in-Nothing-Silent : goal.returns-in-Nothing-Silent
unfolding reply_samples
returns-in-Nothing-Silent g c = let h = c.in-Nothing-Silent in rw (h.is-0, h.is-1) (drawn_none _ _)
