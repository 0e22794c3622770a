use Rattle.std.proofs.Common.{◌∙◌, ap, false, refl}
use Rattle.mmc_frame.specs.declared.card_state.State.TheVariants.{Tran}
use Rattle.mmc_bus.proofs.FoundLemmas.{unless_found}
use Rattle.mmc_bus.proofs.Readers.{with_errors}
use Rattle.mmc_bus.proofs.CommandLemmas.{does_in, r1_told}
use Rattle.mmc_bus.proofs.erase_laws.cmd38_erases_the_range.Goals as goal
use Rattle.mmc_card.specs.CardAnswer.{Checked, status}
use Rattle.mmc_bus.specs.Heard.{response_of}
use Rattle.mmc_card.specs.declared.command.Command.TheVariants.{Erase}
use Rattle.mmc_card.specs.RowsErase.{erase_held}
use Rattle.mmc_card.specs.Judged.{Shows}

pub returns : goal.returns
returns c = λ old new argument first last heard facts two range.
    does_in (response_of 38) Tran Shows _
    (λ choice card. Checked 38 (status false card)) Erase old 38 argument heard new
    (unless_found old 38 argument heard new facts) refl
    refl refl (λ left errors choice keeps there. ap (λ held. erase_held (with_errors left errors old.card) argument held) two ∙ rw range refl)
    (λ left errors choice said is. r1_told old.card.made.kind 38 false (with_errors left errors old.card) said refl refl is)
