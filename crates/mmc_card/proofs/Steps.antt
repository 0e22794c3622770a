-- What holds of a card holds after a step, if all that a step may do to the card keeps it.
use Rattle.std.proofs.Common.{Bool, List, ℕ, ◌&&◌, ◌≡◌, ap, false, not, refl, suc, true, zero}
use Rattle.mmc_frame.specs.Frame.{command_in}
use Rattle.mmc_frame.specs.declared.card_state.State.TheVariants.{Data, Prg, Rcv}
use Rattle.mmc_card.specs.declared.exchange.DataIn.{DataIn}
use Rattle.mmc_card.specs.declared.exchange.DataOut.{DataOut}
use Rattle.mmc_card.specs.declared.exchange.Reply.{Reply}
use Rattle.mmc_card.proofs.Cards.{among_wider}
use Rattle.mmc_card.proofs.Conditions.{along, by_cond, first_by_cond}
use Rattle.mmc_card.proofs.Narrow.{both}
use Rattle.mmc_card.specs.CardAnswer.{Choice, garbled, raised, reset, showing}
use Rattle.mmc_card.specs.ErrorBits.{command_error_bits, error_bits, execution_error_bits}
use Rattle.mmc_card.specs.Blocks.{accepted, asked_for, can_send, can_accept, fallen_early, fallen_short, ignoring, offered}
use Rattle.mmc_card.specs.Blocks.{polled_once, programmed, rejected, rested, run_past, sent, waited, will_send}
use Rattle.mmc_card.specs.Card.{AreAmong, Card, is_in}
use Rattle.mmc_card.specs.Faults.{MeetsBlock, MeetsCommand, Passes, PollStep, ReadStep, brownout, busy, fail, fail_early}
use Rattle.mmc_card.specs.Faults.{at_once, faithful, has_failed, has_fallen_short, has_rested, has_run}
use Rattle.mmc_card.specs.Faults.{fail_switch, fall_short, find_error, flip_command, lose_block, show_errors}
use Rattle.mmc_card.specs.Faults.{lose_command, lose_reply, lose_status, outlive, reject, slow_inquiry, slow_status, spoil, turn_out}
use Rattle.mmc_card.specs.Rows.{answered}
use Rattle.mmc_card.specs.Sectors.{Sector}
use Rattle.mmc_card.specs.BusView.{BusView}

-- it survives a failure of the power
abbrev pub Survives : (Card → Type 0) → Type 0
Survives P = (lands : ℕ → Bool) (keeps_length : Bool) (card : Card) → P card → P (reset lands keeps_length card)

-- it bears error bits that are raised
abbrev pub Bears : (Card → Type 0) → Type 0
Bears P = (bits : ℕ) (card : Card) → AreAmong bits error_bits → P card → P (raised bits card)

-- it holds of a card that ignores further blocks too
abbrev pub Ignores : (Card → Type 0) → Type 0
Ignores P = (ignores : Bool) (card : Card) → P card → P (ignoring ignores card)

-- error bits of execution are error bits
among_all : (bits : ℕ) → AreAmong bits execution_error_bits → AreAmong bits error_bits
among_all bits among = among_wider bits execution_error_bits error_bits among refl

-- blocks that are sent and not taken keep what each of them keeps
after_run : (P : Card → Type 0) (choice : Choice) (blocks : ℕ) (card : Card) → P card
    → ((c : Card) → is_in c.state Data ≡ true → P c → P (sent choice c)) → P (run_past choice blocks card)
after_run P choice zero card start sends = start
after_run P choice (suc blocks) card start sends =
    let before = after_run P choice blocks card start sends in
    by_cond P (is_in (run_past choice blocks card).state Data) (λ here. sends (run_past choice blocks card) here before)
    (λ _. before)

pub after_time : (P : Card → Type 0) (old met : BusView) → P old.card → P (rested old.card)
    → ((choice : Choice) (c : Card) → is_in c.state Data ≡ true → P c → P (sent choice c))
    → ((lands : ℕ → Bool) → is_in old.card.state Prg ≡ true → P (programmed lands old.card))
    → ((lands : ℕ → Bool) → is_in old.card.state Rcv ≡ true → P (fallen_short lands old.card)) → Ignores P → Bears P
    → Passes old met → P met.card
after_time P old met start rest sends failed fell ignored bears passes =
    let card_of : (c : Card) → met.card ≡ c → P c → P met.card = λ c e. along P e in
    elim passes [
      | at_once e ↦ card_of old.card (ap (λ (v : BusView). v.card) e) start
      | has_rested e ↦ card_of _ (ap (λ (v : BusView). v.card) e) rest
      | has_run choice blocks e ↦ card_of _ (ap (λ (v : BusView). v.card) e)
          (after_run P choice blocks old.card start (sends choice))
      | has_failed lands bits of prg switching e ↦ card_of _ (ap (λ (v : BusView). v.card) e)
          (bears bits _ (among_all bits of.0) (failed lands prg))
      | has_fallen_short lands bits ignores of rcv is_busy e ↦ card_of _ (ap (λ (v : BusView). v.card) e)
          (bears bits _ (among_all bits of.0) (ignored ignores _ (fell lands rcv)))
    ]

pub after_command : (P : Card → Type 0) (old : BusView) (frame : List ℕ) (reply : Reply) (new : BusView) → P old.card
    → ((choice : Choice) → P (answered choice old.card (command_in frame)).0)
    → ((choice : Choice) (left found : ℕ) → AreAmong left command_error_bits → AreAmong found error_bits
    → P (answered choice (showing left found old.card) (command_in frame)).0)
    → ((keeps : Bool) → P (garbled keeps old.card)) → Bears P → Survives P → MeetsCommand old frame reply new → P new.card
after_command P old frame reply new stays answers leaves garbles bears survives step =
    elim step [
      | faithful choice patient count card spells ↦ along P card (answers choice)
      | lose_command count card silent ↦ along P card stays
      | flip_command keeps_count count card silent ↦ along P card (garbles keeps_count)
      | lose_reply choice patient count card heard silent ↦ along P card (answers choice)
      | slow_inquiry choice slow late inquiry count card spells ↦ along P card (answers choice)
      | slow_status choice behind late status count card spells ↦ along P card (answers choice)
      | fail_switch choice fails switch count card spells ↦ along P card (answers choice)
      | find_error choice finds patient may count card spells ↦ along P card (answers choice)
      | outlive choice bits argument among patient resets count card silent ↦ along P card (bears bits _ among (answers choice))
      | show_errors choice left found among errors some cleared patient count card spells ↦ along P card
          (leaves choice left found among (among_all found errors))
      | brownout choice lands keeps_length after patient count card silent ↦ along P card
          (survives lands keeps_length _ (by_cond P after (λ _. answers choice) (λ _. stays)))
    ]

pub after_poll : (P : Card → Type 0) (old : BusView) (said : Bool) (new : BusView) → P old.card → P (rested old.card)
    → (old.card.is_busy ≡ true → P (waited old.card))
    → ((lands : ℕ → Bool) → is_in old.card.state Prg ≡ true → P (programmed lands old.card))
    → ((lands : ℕ → Bool) → is_in old.card.state Prg ≡ true → P (fallen_early lands old.card))
    → ((lands : ℕ → Bool) → is_in old.card.state Rcv ≡ true → P (fallen_short lands old.card)) → Ignores P → Bears P
    → Survives P → PollStep old said new → P new.card
after_poll P old said new stays rests slows fails early falls ignored bears survives step =
    let polls : (choice : Choice) → P (polled_once choice old.card).0 =
    λ choice. first_by_cond P (old.card.is_busy && choice.is_slow) _ _
    (λ b. slows (both old.card.is_busy choice.is_slow b).0) (λ _. rests) in
    elim step [
      | faithful choice patient count card answer ↦ along P card (polls choice)
      | busy is_busy late count card answer ↦ along P card (slows is_busy)
      | fail lands bits of prg switching count card answer ↦ along P card
          (bears bits _ (among_all bits of.0) (fails lands prg))
      | fail_early lands bits of prg switching is_busy count card answer ↦ along P card
          (bears bits _ (among_all bits of.0) (early lands prg))
      | fall_short lands bits ignores of rcv is_busy count card answer ↦ along P card
          (bears bits _ (among_all bits of.0) (ignored ignores _ (falls lands rcv)))
      | brownout choice lands keeps_length after patient count card answer ↦ along P card
          (survives lands keeps_length _ (by_cond P after (λ _. polls choice) (λ _. stays)))
    ]

pub after_write : (P : Card → Type 0) (old : BusView) (block : Sector) (got : DataOut) (new : BusView) → P old.card
    → (can_accept old.lines old.card ≡ true → P (accepted block old.card))
    → ((ignores is_busy : Bool) → can_accept old.lines old.card ≡ true → P (rejected ignores is_busy old.card))
    → ((lands : ℕ → Bool) → can_accept old.lines old.card ≡ true → P (accepted block (fallen_short lands old.card)))
    → ((lands : ℕ → Bool) → can_accept old.lines old.card ≡ true → P (rejected true false (fallen_short lands old.card)))
    → Ignores P → Bears P → Survives P → MeetsBlock old block got new → P new.card
after_write P old block got new stays accepts rejects falls turns ignored bears survives step =
    let offers : P (offered old.lines block old.card) =
    by_cond P (can_accept old.lines old.card) accepts (λ _. stays) in
    elim step [
      | faithful count card answer ↦ along P card offers
      | lose_block can count card answer ↦ along P card stays
      | reject bits ignores is_busy among can count card answer ↦ along P card
          (bears bits _ (among_all bits among) (rejects ignores is_busy can))
      | lose_status bits is_accepted ignores is_busy among can count card answer ↦ along P card
          (bears bits _ (among_all bits among) (by_cond P is_accepted (λ _. accepts can) (λ _. rejects ignores is_busy can)))
      | fall_short lands bits ignores of can count card answer ↦ along P card
          (bears bits _ (among_all bits of.0) (ignored ignores _ (falls lands can)))
      | turn_out lands several can count card answer ↦ along P card (turns lands can)
      | brownout lands keeps_length after count card answer ↦ along P card
          (survives lands keeps_length _ (by_cond P after (λ _. offers) (λ _. stays)))
    ]

pub after_read : (P : Card → Type 0) (old : BusView) (size : ℕ) (got : DataIn) (block : Sector) (new : BusView)
    → P old.card → ((choice : Choice) → can_send old.lines size old.card ≡ true → P (sent choice old.card))
    → Bears P → Survives P
    → ReadStep old size got block new → P new.card
after_read P old size got block new stays sends bears survives step =
    let asks : (choice : Choice) → P (asked_for choice old.lines size old.card) =
    λ choice. by_cond P (will_send choice old.lines size old.card)
    (λ will. sends choice (both (not (choice.is_slow && old.card.is_busy)) _ will).1) (λ _. stays) in
    elim step [
      | faithful choice count card answer good ↦ along P card (asks choice)
      | spoil choice bits goes_on comes among can count card answer ↦ along P card
          (bears bits _ (among_all bits among) (by_cond P goes_on (λ _. sends choice can) (λ _. stays)))
      | brownout choice lands keeps_length after count card answer ↦ along P card
          (survives lands keeps_length _ (by_cond P after (λ _. asks choice) (λ _. stays)))
    ]
