use Rattle.card_wave.proofs.CheckLemmas.{none_shown}
use Rattle.card_wave.proofs.line_checks.LineChecks.new.Goals as goal

pub returns : goal.returns
returns c = none_shown
