use Rattle.mmc_record.proofs.NoteLemmas.{card_checks}
use Rattle.mmc_record.proofs.laws.a_card_s_registers_have_their_checks.Goals as goal

pub returns : goal.returns
returns c limits made info registers is = card_checks limits made info registers is
