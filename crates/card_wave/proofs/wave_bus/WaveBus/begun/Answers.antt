use Rattle.std.proofs.Common.{ap}
use Rattle.card_wave.specs.declared.sample.Sample.{Sample}
use Rattle.card_wave.specs.declared.wave_writer.WaveEnd.{WaveEnd}
use Rattle.card_wave.proofs.LabelLemmas.{header_by}
use Rattle.card_wave.proofs.wave_bus.WaveBus.begun.Goals as goal

abbrev first : Sample → WaveEnd
first lines = record { clock = 1; lines = lines }

pub returns-clause-begins : goal.returns-clause-begins
returns-clause-begins g c =
    record {
      header = header_by _ _ c.put_header-fault.result _ (rw c.is_some.ensures at c.put_header-fault.ensures);
      end = ap first c.idle.ensures;
    }
