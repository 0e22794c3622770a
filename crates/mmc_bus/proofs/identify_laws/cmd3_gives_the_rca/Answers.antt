use Rattle.std.proofs.Common.{ap, false, refl}
use Rattle.mmc_frame.specs.declared.card_state.State.TheVariants.{Ident}
use Rattle.mmc_bus.proofs.FoundLemmas.{unless_found}
use Rattle.mmc_bus.proofs.Readers.{with_errors}
use Rattle.mmc_bus.proofs.CommandLemmas.{does_in, low_reached, r1_told}
use Rattle.mmc_bus.proofs.identify_laws.cmd3_gives_the_rca.Goals as goal
use Rattle.mmc_card.specs.CardAnswer.{Checked, status}
use Rattle.mmc_bus.specs.Heard.{response_of}
use Rattle.mmc_card.specs.declared.command.Command.TheVariants.{SetRelativeAddr}
use Rattle.mmc_card.specs.Card.{Card}
use Rattle.mmc_card.specs.Rows.{row}
use Rattle.mmc_card.specs.Judged.{Shows}

pub returns : goal.returns
returns c = λ old new argument heard facts k kind.
    does_in (response_of 3) Ident Shows _
    (λ choice card. Checked 3 (status false card)) SetRelativeAddr old 3 argument heard new
    (unless_found old 3 argument heard new facts) (rw kind refl)
    refl (rw kind refl) (λ left errors choice keeps there. ap (λ (c : Card). row choice SetRelativeAddr c 3 argument)
    (low_reached choice SetRelativeAddr (with_errors left errors old.card) Ident k.held there refl))
    (λ left errors choice said is. r1_told old.card.made.kind 3 false (with_errors left errors old.card) said refl (rw kind refl) is)
