use Rattle.std.proofs.Common.{ap, false, refl}
use Rattle.mmc_frame.specs.declared.card_state.State.TheVariants.{Tran}
use Rattle.mmc_bus.proofs.FoundLemmas.{unless_found}
use Rattle.mmc_bus.proofs.Readers.{with_errors}
use Rattle.mmc_bus.proofs.CommandLemmas.{does_known, dropped, shows_dropped}
use Rattle.mmc_bus.proofs.transfer_laws.cmd23_presets_the_count.Goals as goal
use Rattle.mmc_card.specs.CardAnswer.{Checked, status}
use Rattle.mmc_bus.specs.Heard.{response_of}
use Rattle.mmc_card.specs.Made.{has_cmd23}
use Rattle.mmc_card.specs.Card.{Card}
use Rattle.mmc_card.specs.Rows.{without_addresses}
use Rattle.mmc_card.specs.RowsTransfer.{preset_to}
use Rattle.mmc_card.specs.declared.command.Command.TheVariants.{SetBlockCount}
use Rattle.mmc_bus.specs.CommandLaws.{ShowsDropped}

pub returns : goal.returns
returns c = λ old new argument heard facts.
    does_known (response_of 23) Tran (has_cmd23 old.card.made) ShowsDropped _
    (λ choice card. Checked 23 (status false (without_addresses choice.drops_quietly card))) SetBlockCount old 23 argument heard new
    (unless_found old 23 argument heard new facts) refl
    refl refl (λ left errors choice keeps there. ap (λ (d : Card). (d, Checked 23 (status false (without_addresses choice.drops_quietly (with_errors left errors old.card)))))
    (dropped (λ d. preset_to d argument) choice.drops_quietly (with_errors left errors old.card) refl))
    (λ left errors choice said is. shows_dropped old.card.made.kind 23 false choice (with_errors left errors old.card) said refl refl is)
