use Rattle.kelifandro.proofs.CallLemmas.{as_noted_by}
use Rattle.kelifandro.proofs.calls.open_card.Goals as goal

pub returns-clause-stands : goal.returns-clause-stands
returns-clause-stands c = as_noted_by c.args.card.now c.stands_by.result c.stands_by.ensures.noted
