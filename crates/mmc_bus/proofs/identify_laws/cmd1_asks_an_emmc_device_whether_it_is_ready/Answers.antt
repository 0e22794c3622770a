use Rattle.std.proofs.Common.{not, refl}
use Rattle.mmc_bus.proofs.CommandLemmas.{not_false}
use Rattle.mmc_bus.proofs.InquiryLemmas.{inquires, told_mmc}
use Rattle.mmc_bus.proofs.identify_laws.cmd1_asks_an_emmc_device_whether_it_is_ready.Goals as goal
use Rattle.mmc_card.specs.declared.command.Command.TheVariants.{SendOpCond}

pub returns : goal.returns
returns c = λ old new argument heard facts k.
    inquires _ Unit (λ choice. not choice.is_slow) SendOpCond old 1 argument heard new facts k
    (told_mmc old.card.made.kind old.card.app old.card) (λ there. (rw there.0 refl, there.1)) refl refl refl refl (λ left errors choice. refl)
    (λ served choice wait. not_false choice.is_slow wait)
