use Rattle.std.proofs.Common.{ap, refl, true}
use Rattle.mmc_frame.specs.declared.card_state.State.TheVariants.{Tran}
use Rattle.mmc_bus.proofs.FoundLemmas.{unless_found}
use Rattle.mmc_bus.proofs.Readers.{with_errors}
use Rattle.mmc_bus.proofs.CommandLemmas.{dropped, in_is, shows_dropped, tells_kind}
use Rattle.mmc_bus.proofs.InquiryLemmas.{told_app}
use Rattle.mmc_card.specs.Card.{Card}
use Rattle.mmc_card.specs.Rows.{without_addresses}
use Rattle.mmc_card.specs.RowsTransfer.{sending}
use Rattle.mmc_bus.proofs.transfer_laws.acmd51_sends_the_scr.Goals as goal
use Rattle.mmc_card.specs.CardAnswer.{Checked, status}
use Rattle.mmc_bus.specs.Heard.{response_of}
use Rattle.mmc_card.specs.declared.command.Command.TheVariants.{SendScr}
use Rattle.mmc_bus.specs.CommandLaws.{ShowsDropped}

pub returns : goal.returns
returns c = λ old new argument heard facts.
    tells_kind (response_of 51) _ ShowsDropped _
    (λ choice card. Checked 51 (status true (without_addresses choice.drops_quietly card))) SendScr old 51 argument heard new
    (unless_found old 51 argument heard new facts)
    (told_app old.card.made.kind old.card.app old.card) (λ there. rw (there.0, there.1) refl) refl
    (λ there. in_is old.card.state Tran there.2)
    (λ left errors choice keeps. ap (λ (d : Card). (d, Checked 51 (status true (without_addresses choice.drops_quietly (with_errors left errors old.card)))))
    (dropped (λ d. sending d.made.scr d.timing d) choice.drops_quietly (with_errors left errors old.card) refl))
    (λ left errors choice said is. shows_dropped old.card.made.kind 51 true choice (with_errors left errors old.card) said refl refl is)
