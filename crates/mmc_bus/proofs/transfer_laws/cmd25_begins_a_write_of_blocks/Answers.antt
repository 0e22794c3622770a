use Rattle.std.proofs.Common.{false, refl, true}
use Rattle.mmc_frame.specs.declared.card_state.State.TheVariants.{Rcv}
use Rattle.mmc_bus.proofs.Readers.{with_errors}
use Rattle.mmc_bus.proofs.CommandLemmas.{begins, transfers}
use Rattle.mmc_bus.proofs.transfer_laws.cmd25_begins_a_write_of_blocks.Goals as goal
use Rattle.mmc_card.specs.RowsTransfer.{begun, preset, transfer_errors}

pub returns : goal.returns
returns c = λ old new address heard facts card.
    begins true 25 _ old address heard new facts card refl refl refl
    (λ left errors choice. transfers (λ d. transfer_errors true d address) choice.drops_quietly 25 (with_errors left errors old.card)
    (λ d. begun Rcv false (preset d) d address) refl refl refl)
