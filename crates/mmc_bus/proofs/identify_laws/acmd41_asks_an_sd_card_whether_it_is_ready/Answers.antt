use Rattle.std.proofs.Common.{◌&&◌, ◌≡◌, not, refl, true}
use Rattle.mmc_bus.proofs.CommandLemmas.{not_false}
use Rattle.mmc_bus.proofs.InquiryLemmas.{inquires, told_sd}
use Rattle.mmc_bus.proofs.identify_laws.acmd41_asks_an_sd_card_whether_it_is_ready.Goals as goal
use Rattle.mmc_card.specs.declared.command.Command.TheVariants.{SdSendOpCond}
use Rattle.mmc_card.specs.RowsIdentify.{is_served}

pub returns : goal.returns
returns c = λ old new argument heard facts k.
    inquires _ (is_served old.card argument ≡ true) (λ choice. is_served old.card argument && not choice.is_slow)
    SdSendOpCond old 41 argument heard new facts k
    (told_sd old.card.made.kind old.card.app old.card) (λ there. (rw (there.0, there.1) refl, there.2)) refl refl refl refl
    (λ left errors choice. refl)
    (λ served choice wait. not_false choice.is_slow (rw served at wait))
