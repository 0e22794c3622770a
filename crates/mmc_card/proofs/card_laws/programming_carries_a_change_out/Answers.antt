use Rattle.mmc_card.proofs.SetLemmas.{carried_out, nothing_changed}
use Rattle.mmc_card.proofs.card_laws.programming_carries_a_change_out.Goals as goal

pub returns : goal.returns
returns c = record { changes = carried_out; nothing = nothing_changed }
