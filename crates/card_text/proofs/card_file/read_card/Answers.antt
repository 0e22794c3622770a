use Rattle.std.proofs.Common.{ap, sym, subst, ◌∙◌}
use Rattle.card_text.specs.CardFile.{plan_of}
use Rattle.card_text.specs.Planning.{CanBePlanned}
use Rattle.card_text.proofs.PlanLemmas.{can_be_planned}
use Rattle.card_text.proofs.card_file.read_card.Goals as goal

pub returns-clause-plan : goal.returns-clause-plan
returns-clause-plan c =
    subst CanBePlanned (sym (c.in_ok-plan.ensures ∙ ap plan_of c.as_slice-2.ensures.value))
    (can_be_planned _ _ _ c.in_ok-said.ensures.ok)
