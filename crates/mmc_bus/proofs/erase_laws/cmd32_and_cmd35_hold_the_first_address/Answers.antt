use Rattle.std.proofs.Common.{ap, false, refl}
use Rattle.mmc_frame.specs.declared.card_state.State.TheVariants.{Tran}
use Rattle.mmc_bus.proofs.FoundLemmas.{unless_found}
use Rattle.mmc_bus.proofs.Readers.{with_errors}
use Rattle.mmc_bus.proofs.CommandLemmas.{does_in, r1_told}
use Rattle.mmc_bus.proofs.erase_laws.cmd32_and_cmd35_hold_the_first_address.Goals as goal
use Rattle.mmc_card.specs.CardAnswer.{Checked, status}
use Rattle.mmc_bus.specs.Heard.{response_of}
use Rattle.mmc_card.specs.declared.command.Command.TheVariants.{EraseStart}
use Rattle.mmc_card.specs.RowsErase.{hold_first}
use Rattle.mmc_card.specs.Judged.{Shows}

pub returns : goal.returns
returns c = record {
  sd = λ old new address heard facts kind none.
      does_in (response_of 32) Tran Shows _
      (λ choice card. Checked 32 (status false card)) EraseStart old 32 address heard new
      (unless_found old 32 address heard new facts) (rw kind refl)
      refl refl (λ left errors choice keeps there. ap (λ held. hold_first 32 (with_errors left errors old.card) address held) none)
      (λ left errors choice said is. r1_told old.card.made.kind 32 false (with_errors left errors old.card) said refl refl is);
  mmc = λ old new address heard facts kind none.
      does_in (response_of 35) Tran Shows _
      (λ choice card. Checked 35 (status false card)) EraseStart old 35 address heard new
      (unless_found old 35 address heard new facts) (rw kind refl)
      refl refl (λ left errors choice keeps there. ap (λ held. hold_first 35 (with_errors left errors old.card) address held) none)
      (λ left errors choice said is. r1_told old.card.made.kind 35 false (with_errors left errors old.card) said refl refl is);
}
