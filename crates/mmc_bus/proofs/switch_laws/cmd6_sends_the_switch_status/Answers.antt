use Rattle.std.proofs.Common.{◌∙◌, ◌≡◌, ap, false, refl, sym, ℕ}
use Rattle.mmc_frame.specs.declared.card_state.State.TheVariants.{Tran}
use Rattle.mmc_bus.proofs.FoundLemmas.{unless_found}
use Rattle.mmc_bus.proofs.Readers.{with_errors}
use Rattle.mmc_bus.proofs.CommandLemmas.{comes, does_known_chosen, dropped, shows_dropped, switch_bytes}
use Rattle.mmc_bus.proofs.switch_laws.cmd6_sends_the_switch_status.Goals as goal
use Rattle.mmc_bus.specs.CommandLaws.{ShowsDropped, bytes_sent}
use Rattle.mmc_bus.specs.Heard.{response_of}
use Rattle.mmc_card.specs.Card.{Card, Source}
use Rattle.mmc_card.specs.CardAnswer.{CardAnswer, Checked, Choice, showing, status}
use Rattle.mmc_card.specs.Laws.{timing_once_sent}
use Rattle.mmc_card.specs.Made.{has_switch_function}
use Rattle.mmc_card.specs.Rows.{row, without_addresses}
use Rattle.mmc_card.specs.RowsErase.{forgotten}
use Rattle.mmc_card.specs.RowsSwitch.{switch_source}
use Rattle.mmc_card.specs.RowsTransfer.{sending, sending_from}
use Rattle.mmc_card.specs.declared.command.Command.TheVariants.{SwitchFunc}

-- the row, from the card as it was
sends : (choice : Choice) (card : Card) (argument : ℕ)
    → row choice SwitchFunc (without_addresses choice.drops_quietly card) 6 argument
    ≡ (
      sending_from (switch_source choice card argument) (forgotten card),
      Checked 6 (status false (without_addresses choice.drops_quietly card)),
    )
sends choice card argument =
    ap (λ (d : Card). (d, Checked 6 (status false (without_addresses choice.drops_quietly card))))
    (dropped (λ d. sending_from (switch_source choice d argument) d) choice.drops_quietly card refl)

pub returns : goal.returns
returns c = record {
  does = λ old new argument heard facts kind app.
      does_known_chosen {N = Source} (response_of 6) Tran (has_switch_function old.card.made)
      (λ choice. switch_source choice old.card argument) (λ (card : Card). card.source)
      ShowsDropped
      (λ source. sending (bytes_sent source) (timing_once_sent source old.card.timing) (forgotten old.card))
      (λ choice card. Checked 6 (status false (without_addresses choice.drops_quietly card))) SwitchFunc old 6 argument heard new
      (unless_found old 6 argument heard new facts)
      (rw (kind, app) refl) refl refl
      (λ left errors choice keeps. sends choice (with_errors left errors old.card) argument
      ∙ ap (λ (s : Source). (
        sending_from s (forgotten old.card),
        Checked 6 (status false (without_addresses choice.drops_quietly (with_errors left errors old.card))),
      ))
      (sym (switch_bytes old.card.timing old.card argument _ (choice, refl))))
      (λ left errors choice said is. shows_dropped old.card.made.kind 6 false choice
      (with_errors left errors old.card) said refl refl is) (λ choice. switch_bytes old.card.timing old.card argument _ (choice, refl));
  sends = λ old new argument told heard facts kind app h none.
      let o = (unless_found old 6 argument heard new facts).obeyed told h none in
      let d = comes o.choice SwitchFunc (showing o.left o.found old.card) 6 argument _ (rw (kind, app) refl)
      (sends o.choice (showing o.left o.found old.card) argument) in
      (o.choice, ap (λ (card : Card). card.source) (o.card ∙ ap (λ (x : Card × CardAnswer). x.0) d));
}
