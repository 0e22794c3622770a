use Rattle.std.proofs.Common.{◌∙◌, ◌≡◌, List, ap, false, refl, subst, sym, ℕ}
use Rattle.mmc_frame.specs.declared.card_state.State.TheVariants.{Tran}
use Rattle.mmc_bus.proofs.FoundLemmas.{unless_found}
use Rattle.mmc_bus.proofs.Readers.{with_errors}
use Rattle.mmc_bus.proofs.CommandLemmas.{comes, does_in_chosen, dropped, shows_dropped}
use Rattle.mmc_bus.proofs.switch_laws.cmd8_sends_the_ext_csd.Goals as goal
use Rattle.mmc_card.proofs.ByteLemmas.{reread_is}
use Rattle.mmc_card.specs.Card.{Card}
use Rattle.mmc_card.specs.CardAnswer.{CardAnswer, Checked, Choice, showing, status}
use Rattle.mmc_bus.specs.CommandLaws.{ShowsDropped, bytes_sent}
use Rattle.mmc_bus.specs.Heard.{response_of}
use Rattle.mmc_card.specs.declared.command.Command.TheVariants.{SendExtCsd}
use Rattle.mmc_card.specs.RowsErase.{forgotten}
use Rattle.mmc_card.specs.RowsSwitch.{IsExtCsdOf, ext_csd_now, is_read, reread}
use Rattle.mmc_card.specs.RowsTransfer.{sending}
use Rattle.mmc_card.specs.Rows.{row, without_addresses}

-- the row, from the card as it was
sends : (choice : Choice) (card : Card) (argument : ℕ)
    → row choice SendExtCsd (without_addresses choice.drops_quietly card) 8 argument
    ≡ (
      sending (reread is_read choice.unread (ext_csd_now card)) card.timing (forgotten card),
      Checked 8 (status false (without_addresses choice.drops_quietly card)),
    )
sends choice card argument =
    ap (λ (d : Card). (d, Checked 8 (status false (without_addresses choice.drops_quietly card))))
    (dropped (λ d. sending (reread is_read choice.unread (ext_csd_now d)) d.timing d) choice.drops_quietly card refl)

pub returns : goal.returns
returns c = record {
  does = λ old new argument heard facts kind.
      does_in_chosen {N = List ℕ} (response_of 8) Tran (λ choice. reread is_read choice.unread (ext_csd_now old.card))
      (λ (card : Card). bytes_sent card.source) ShowsDropped
      (λ bytes. sending bytes old.card.timing (forgotten old.card))
      (λ choice card. Checked 8 (status false (without_addresses choice.drops_quietly card))) SendExtCsd old 8 argument heard new
      (unless_found old 8 argument heard new facts) (rw kind refl)
      refl refl (λ left errors choice keeps. sends choice (with_errors left errors old.card) argument)
      (λ left errors choice said is. shows_dropped old.card.made.kind 8 false choice (with_errors left errors old.card) said refl (rw kind refl) is)
      (λ choice. refl);
  sends = λ old new argument told heard facts kind h none.
      let o = (unless_found old 8 argument heard new facts).obeyed told h none in
      let d = comes o.choice SendExtCsd (showing o.left o.found old.card) 8 argument _ (rw kind refl)
      (sends o.choice (showing o.left o.found old.card) argument) in
      subst (IsExtCsdOf old.card)
      (sym (ap (λ (card : Card). bytes_sent card.source) (o.card ∙ ap (λ (x : Card × CardAnswer). x.0) d)))
      (reread_is o.choice.unread old.card);
}
