use Rattle.std.proofs.Common.{ap, refl, true}
use Rattle.mmc_frame.specs.declared.card_state.State.TheVariants.{Idle}
use Rattle.mmc_bus.proofs.FoundLemmas.{unless_found}
use Rattle.mmc_bus.proofs.Readers.{with_errors}
use Rattle.mmc_bus.proofs.CommandLemmas.{does, dropped, either_in, in_either, named, owns, told_by_kind, unheard}
use Rattle.mmc_bus.proofs.CommandLemmas.{none_held, shows_dropped}
use Rattle.mmc_card.proofs.Narrow.{both}
use Rattle.mmc_bus.proofs.identify_laws.cmd55_announces_an_application_command.Goals as goal
use Rattle.mmc_card.specs.CardAnswer.{Checked, shown, status}
use Rattle.mmc_card.specs.Card.{Card, is_identified}
use Rattle.mmc_bus.specs.Heard.{response_of}
use Rattle.mmc_card.specs.Made.{is_sd}
use Rattle.mmc_card.specs.Rows.{without_addresses}
use Rattle.mmc_card.specs.declared.command.Command.TheVariants.{AppCmd}
use Rattle.mmc_bus.specs.CommandLaws.{ShowsDropped}

pub returns : goal.returns
returns c = record {
  idle = λ old new argument heard facts k.
      does (response_of 55) _ ShowsDropped _
      (λ choice card. Checked 55 (status true (without_addresses choice.drops_quietly card))) AppCmd old 55 argument heard new
      (unless_found old 55 argument heard new facts) refl
      (λ own legal. let h = both (is_sd old.card.made.kind) _ legal in (
        told_by_kind old.card.made.kind h.0,
        in_either old.card.state Idle (is_identified old.card.state) h.1,
        named argument old.card own,
      ))
      (λ there. (
        owns argument old.card there.2,
        rw (there.0, either_in old.card.state Idle (is_identified old.card.state) there.1) refl,
      ))
      (λ left errors choice keeps there. ap (λ (d : Card). (
        record d { app = true },
        Checked 55 (status true (without_addresses choice.drops_quietly (with_errors left errors old.card))),
      )) (dropped shown choice.drops_quietly (with_errors left errors old.card) refl))
      (λ left errors choice said is. shows_dropped old.card.made.kind 55 true choice (with_errors left errors old.card) said refl refl is);
  mmc = λ old new argument heard facts k kind mine none.
      unheard (response_of 55) AppCmd old 55 argument heard new facts refl (owns argument old.card mine)
      (rw kind refl) (λ choice. none_held choice AppCmd old.card none) refl;
}
