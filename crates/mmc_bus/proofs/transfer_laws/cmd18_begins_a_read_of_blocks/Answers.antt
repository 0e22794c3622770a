use Rattle.std.proofs.Common.{false, refl}
use Rattle.mmc_frame.specs.declared.card_state.State.TheVariants.{Data}
use Rattle.mmc_bus.proofs.Readers.{with_errors}
use Rattle.mmc_bus.proofs.CommandLemmas.{begins, transfers}
use Rattle.mmc_bus.proofs.transfer_laws.cmd18_begins_a_read_of_blocks.Goals as goal
use Rattle.mmc_card.specs.RowsTransfer.{begun, preset, transfer_errors}

pub returns : goal.returns
returns c = λ old new address heard facts card.
    begins false 18 _ old address heard new facts card refl refl refl
    (λ left errors choice. transfers (λ d. transfer_errors false d address) choice.drops_quietly 18 (with_errors left errors old.card)
    (λ d. begun Data false (preset d) d address) refl refl refl)
