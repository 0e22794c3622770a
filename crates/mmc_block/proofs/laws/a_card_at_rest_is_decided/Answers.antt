use Rattle.mmc_block.proofs.RestLemmas.{rest_decided}
use Rattle.mmc_block.proofs.laws.a_card_at_rest_is_decided.Goals as goal

pub returns : goal.returns
returns c card finished part sector =
    rest_decided card c.a_card_at_rest_holds_what_it_stores.ensures finished part sector
