use Rattle.std.proofs.Common.{ap, false, refl}
use Rattle.mmc_frame.specs.declared.card_state.State.TheVariants.{Tran}
use Rattle.mmc_bus.proofs.FoundLemmas.{unless_found}
use Rattle.mmc_bus.proofs.Readers.{with_errors}
use Rattle.mmc_bus.proofs.CommandLemmas.{does_in, r1_told}
use Rattle.mmc_bus.proofs.erase_laws.cmd33_and_cmd36_hold_the_last_address.Goals as goal
use Rattle.mmc_card.specs.CardAnswer.{Checked, status}
use Rattle.mmc_bus.specs.Heard.{response_of}
use Rattle.mmc_card.specs.declared.command.Command.TheVariants.{EraseEnd}
use Rattle.mmc_card.specs.RowsErase.{hold_last}
use Rattle.mmc_card.specs.Judged.{Shows}

pub returns : goal.returns
returns c = record {
  sd = λ old new first address heard facts kind one.
      does_in (response_of 33) Tran Shows _
      (λ choice card. Checked 33 (status false card)) EraseEnd old 33 address heard new
      (unless_found old 33 address heard new facts) (rw kind refl)
      refl refl (λ left errors choice keeps there. ap (λ held. hold_last 33 (with_errors left errors old.card) address held) one)
      (λ left errors choice said is. r1_told old.card.made.kind 33 false (with_errors left errors old.card) said refl refl is);
  mmc = λ old new first address heard facts kind one.
      does_in (response_of 36) Tran Shows _
      (λ choice card. Checked 36 (status false card)) EraseEnd old 36 address heard new
      (unless_found old 36 address heard new facts) (rw kind refl)
      refl refl (λ left errors choice keeps there. ap (λ held. hold_last 36 (with_errors left errors old.card) address held) one)
      (λ left errors choice said is. r1_told old.card.made.kind 36 false (with_errors left errors old.card) said refl refl is);
}
