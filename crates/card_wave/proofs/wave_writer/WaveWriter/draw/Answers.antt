use Rattle.std.proofs.Common.{◌∷◌, []}
use Rattle.text_out.proofs.WritingLemmas.{front_before}
use Rattle.card_wave.specs.WaveText.{wave_text}
use Rattle.card_wave.proofs.DrawLemmas.{draws_failed}
use Rattle.card_wave.proofs.wave_writer.WaveWriter.draw.Goals as goal

pub returns-in_err-put_sample : goal.returns-in_err-put_sample
unfolding wave_text
returns-in_err-put_sample g c =
    draws_failed _ _ _ _ (c.args.sample ∷ []) [] c.from_residual.ensures.0
    (front_before _ _ _ [] c.in_err-put_sample.ensures)
