use Rattle.std.proofs.Common.{◌∙◌, ◌≡◌, ap, refl}
use Rattle.mmc_frame.specs.declared.card_state.State.TheVariants.{Stby}
use Rattle.mmc_card.proofs.Cards.{in_state}
use Rattle.mmc_bus.proofs.FoundLemmas.{whatever}
use Rattle.mmc_bus.proofs.Readers.{with_errors}
use Rattle.mmc_bus.proofs.CommandLemmas.{does, in_is, low_reached, named, owns}
use Rattle.mmc_bus.proofs.identify_laws.cmd9_tells_the_csd.Goals as goal
use Rattle.mmc_card.proofs.ToldLemmas.{told_registers}
use Rattle.mmc_card.specs.CardAnswer.{R2}
use Rattle.mmc_card.specs.Made.{IsToldCsd, csd_told}
use Rattle.mmc_bus.specs.Heard.{or_unsound, register_of}
use Rattle.mmc_card.specs.declared.command.Command.TheVariants.{SendCsd}
use Rattle.mmc_card.specs.Card.{Card}
use Rattle.mmc_card.specs.Rows.{row}

pub returns : goal.returns
returns c = λ old new argument heard facts k.
    does register_of _ (λ card csd. IsToldCsd card.made csd) _ (λ choice card. R2 (csd_told choice.is_protected card.made)) SendCsd old 9
    argument heard new (whatever register_of old 9 argument heard new facts refl) refl
    (λ own legal. (in_state old.card.state Stby legal, named argument old.card own))
    (λ there. (owns argument old.card there.1, in_is old.card.state Stby there.0))
    (λ left errors choice keeps there. ap (λ (c : Card). row choice SendCsd c 9 argument)
    (low_reached choice SendCsd (with_errors left errors old.card) Stby k.held there.0 refl)
    ∙ ap (λ n. row choice SendCsd (with_errors left n old.card) 9 argument) (keeps refl))
    (λ left errors choice said is.
    let told = told_registers choice.is_protected old.card.made k.registers in (
      csd_told choice.is_protected old.card.made,
      ap register_of is ∙ ap or_unsound (c.register_comes_back.ensures _ told.csd told.csd_check told.csd_end),
      (choice.is_protected, refl),
    ))
