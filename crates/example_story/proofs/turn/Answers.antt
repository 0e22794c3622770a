use Rattle.example_story.proofs.KeptLemmas.{is_kept}
use Rattle.example_story.proofs.turn.Goals as goal

pub returns : goal.returns
returns g c = record { machine = λ is unmisused. c.turn.ensures.machine (is_kept _ _ is unmisused) }
