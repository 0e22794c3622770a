use Rattle.std.proofs.Common.{ap, refl, true}
use Rattle.mmc_frame.specs.declared.card_state.State.TheVariants.{Tran}
use Rattle.mmc_bus.proofs.FoundLemmas.{unless_found}
use Rattle.mmc_bus.proofs.Readers.{with_errors}
use Rattle.mmc_bus.proofs.CommandLemmas.{does_in, dropped, shows_dropped}
use Rattle.mmc_bus.proofs.switch_laws.acmd6_sets_the_width.Goals as goal
use Rattle.mmc_card.specs.CardAnswer.{Checked, shown, status}
use Rattle.mmc_card.specs.Card.{Card}
use Rattle.mmc_card.specs.Rows.{without_addresses}
use Rattle.mmc_card.specs.RowsSwitch.{width_by}
use Rattle.mmc_frame.specs.Field.{field}
use Rattle.mmc_bus.specs.Heard.{response_of}
use Rattle.mmc_card.specs.declared.command.Command.TheVariants.{SetBusWidth}
use Rattle.mmc_bus.specs.CommandLaws.{ShowsDropped}

pub returns : goal.returns
returns c = λ old new argument heard facts kind app.
    does_in (response_of 6) Tran ShowsDropped _
    (λ choice card. Checked 6 (status true (without_addresses choice.drops_quietly card))) SetBusWidth old 6 argument heard new
    (unless_found old 6 argument heard new facts)
    (rw (kind, app) refl)
    refl refl (λ left errors choice keeps there. ap (λ (d : Card). (d, Checked 6 (status true (without_addresses choice.drops_quietly (with_errors left errors old.card)))))
    (dropped (λ d. record (shown d) { width = width_by (field 1 0 argument) d.width }) choice.drops_quietly (with_errors left errors old.card) refl))
    (λ left errors choice said is. shows_dropped old.card.made.kind 6 true choice (with_errors left errors old.card) said refl refl is)
