use Rattle.card_commands.proofs.CheckLemmas.{taken_by}
use Rattle.card_commands.proofs.check.check_spec.Goals as goal

pub returns : goal.returns
returns g c = (
  taken_by c.in_ok-sectors.field-0 c.in-Some.sectors _ c.in-Some.is c.in_ok-sectors.ensures.taken,
  c.in_ok-is_opened.ensures.opened,
)
