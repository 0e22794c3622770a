use Rattle.mmc_card_sim.proofs.FaultLemmas.{spoiled, unspoiled}
use Rattle.mmc_card_sim.proofs.faulty_exchanges.send_spoiled.Goals as goal

pub returns-in-Good : goal.returns-in-Good
returns-in-Good c = spoiled _ _ _ _ _ _ (rw c.in-Good.is at c.send.ensures)

pub returns-in_default : goal.returns-in_default
returns-in_default c = unspoiled _ _ _ _ _ _ _ c.in_default.not-Good c.send.ensures
