use Rattle.std.proofs.Common.{◌∙◌, ap, false, inl, inr, refl}
use Rattle.mmc_frame.specs.declared.card_state.State.TheVariants.{Tran}
use Rattle.mmc_bus.proofs.FoundLemmas.{unless_found}
use Rattle.mmc_bus.proofs.Readers.{with_errors}
use Rattle.mmc_bus.proofs.CommandLemmas.{does_in, dropped, shows_dropped}
use Rattle.mmc_bus.proofs.transfer_laws.cmd16_sets_the_block_length.Goals as goal
use Rattle.mmc_card.specs.CardAnswer.{Checked, showing, shown, status}
use Rattle.mmc_card.specs.Card.{Card}
use Rattle.mmc_card.specs.Rows.{without_addresses}
use Rattle.mmc_bus.specs.Heard.{response_of}
use Rattle.mmc_card.specs.declared.command.Command.TheVariants.{SetBlocklen}
use Rattle.mmc_bus.specs.CommandLaws.{ShowsDropped}

pub returns : goal.returns
returns c = record {
  does = λ old new heard facts.
      does_in (response_of 16) Tran ShowsDropped _
      (λ choice card. Checked 16 (status false (without_addresses choice.drops_quietly card))) SetBlocklen old 16 512 heard new
      (unless_found old 16 512 heard new facts) refl
      refl refl (λ left errors choice keeps there. ap (λ (d : Card).
      (record d { block_length = 512 }, Checked 16 (status false (without_addresses choice.drops_quietly (with_errors left errors old.card)))))
      (dropped shown choice.drops_quietly (with_errors left errors old.card) refl)) (λ left errors choice said is. shows_dropped old.card.made.kind 16 false choice
      (with_errors left errors old.card) said refl refl is);
  answered = λ old new told heard facts h. elim (facts.sound told h) [
    | inl o ↦ inl (o.card ∙ dropped (λ d. record (shown d) { block_length = 512 }) o.choice.drops_quietly (showing o.left o.found old.card) refl)
    | inr f ↦ inr (f.card.1 ∙ dropped shown f.card.0.drops_quietly old.card refl)
  ];
}
