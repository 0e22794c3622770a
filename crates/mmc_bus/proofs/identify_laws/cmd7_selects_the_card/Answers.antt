use Rattle.std.proofs.Common.{ap, false, refl}
use Rattle.mmc_frame.specs.declared.card_state.State.TheVariants.{Stby}
use Rattle.mmc_card.proofs.Cards.{in_state}
use Rattle.mmc_bus.proofs.FoundLemmas.{whatever}
use Rattle.mmc_bus.proofs.Readers.{with_errors}
use Rattle.mmc_bus.proofs.CommandLemmas.{does, in_is, low_reached, named, owns, r1_told}
use Rattle.mmc_bus.proofs.identify_laws.cmd7_selects_the_card.Goals as goal
use Rattle.mmc_card.specs.CardAnswer.{Checked, status}
use Rattle.mmc_bus.specs.Heard.{response_of}
use Rattle.mmc_card.specs.declared.command.Command.TheVariants.{SelectCard}
use Rattle.mmc_card.specs.Card.{Card}
use Rattle.mmc_card.specs.Rows.{row}
use Rattle.mmc_card.specs.Judged.{Shows}

pub returns : goal.returns
returns c = λ old new argument heard facts k.
    does (response_of 7) _ Shows _ (λ choice card. Checked 7 (status false card)) SelectCard old 7 argument heard new
    (whatever (response_of 7) old 7 argument heard new facts refl) refl
    (λ own legal. (in_state old.card.state Stby legal, named argument old.card own))
    (λ there. (owns argument old.card there.1, in_is old.card.state Stby there.0))
    (λ left errors choice keeps there. ap (λ (c : Card). row choice SelectCard c 7 argument)
    (low_reached choice SelectCard (with_errors left errors old.card) Stby k.held there.0 refl))
    (λ left errors choice said is. r1_told old.card.made.kind 7 false (with_errors left errors old.card) said refl refl is)
