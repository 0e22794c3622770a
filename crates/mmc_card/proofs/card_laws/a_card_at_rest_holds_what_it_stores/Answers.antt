use Rattle.mmc_card.proofs.SetLemmas.{at_rest}
use Rattle.mmc_card.proofs.card_laws.a_card_at_rest_holds_what_it_stores.Goals as goal

pub returns : goal.returns
returns c = at_rest
