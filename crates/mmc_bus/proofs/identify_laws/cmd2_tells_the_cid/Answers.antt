use Rattle.std.proofs.Common.{◌∙◌, ◌≡◌, ap, refl}
use Rattle.mmc_frame.specs.declared.card_state.State.TheVariants.{Ready}
use Rattle.mmc_bus.proofs.FoundLemmas.{whatever}
use Rattle.mmc_bus.proofs.Readers.{with_errors}
use Rattle.mmc_bus.proofs.CommandLemmas.{does_in, low_reached}
use Rattle.mmc_bus.proofs.identify_laws.cmd2_tells_the_cid.Goals as goal
use Rattle.mmc_card.specs.CardAnswer.{R2}
use Rattle.mmc_bus.specs.Heard.{or_unsound, register_of}
use Rattle.mmc_card.specs.declared.command.Command.TheVariants.{AllSendCid}
use Rattle.mmc_card.specs.Card.{Card}
use Rattle.mmc_card.specs.Rows.{row}

pub returns : goal.returns
returns c = λ old new argument heard facts k.
    does_in register_of Ready (λ card cid. cid ≡ card.made.cid) _ (λ choice card. R2 card.made.cid) AllSendCid old 2 argument heard new
    (whatever register_of old 2 argument heard new facts refl) refl
    refl refl (λ left errors choice keeps there. ap (λ (c : Card). row choice AllSendCid c 2 argument)
    (low_reached choice AllSendCid (with_errors left errors old.card) Ready k.held there refl)
    ∙ ap (λ n. row choice AllSendCid (with_errors left n old.card) 2 argument) (keeps refl))
    (λ left errors choice said is. (
      old.card.made.cid,
      ap register_of is ∙ ap or_unsound (c.register_comes_back.ensures old.card.made.cid k.registers.cid k.registers.cid_check
          k.registers.cid_end),
      refl,
    ))
