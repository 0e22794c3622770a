-- The table, command by command.
use Rattle.std.proofs.Common.{◌<◌, ◌∙◌, ◌≡◌, Bool, ap, cond, false, refl, subst, sym, true, ℕ, inl, inr}
use Rattle.std.specs.Prelude.{◌==◌, ◌&&◌, None, Option, Some, if◌then◌else◌, length, not}
use Rattle.std.proofs.lemmas.List.{length-set}
use Rattle.std.proofs.lemmas.Bool.{agree_below_at, eqb-true}
use Rattle.mmc_frame.specs.Field.{field}
use Rattle.mmc_frame.specs.declared.commands.TheConstants as Index
use Rattle.mmc_frame.specs.declared.kind.Kind.{Kind}
use Rattle.mmc_frame.specs.declared.kind.Kind.TheVariants.{Mmc, Sd}
use Rattle.mmc_card.proofs.Conditions.{by_cond, first_by_cond}
use Rattle.mmc_card.proofs.Responses.{after_response}
use Rattle.mmc_bus.proofs.FoundLemmas.{found_some}
use Rattle.mmc_card.specs.Card.{Both, Card, First, Held, NoAddress, is_in}
use Rattle.mmc_card.specs.CardAnswer.{CardAnswer, Choice, Silent}
use Rattle.mmc_card.specs.Rows.{command_of, found, hindered, is_foreign, is_legal, leaves_erase, may_find, obeyed, reached}
use Rattle.mmc_card.specs.Rows.{responded, row}
use Rattle.mmc_card.specs.RowsErase.{erase_held, hold_first, hold_last, holds_address, is_no_range}
use Rattle.mmc_card.specs.RowsIdentify.{is_served, may_lag}
use Rattle.mmc_card.specs.RowsSwitch.{ext_csd_now, is_read, is_to_speed_up, refusal, reread, switch_row}
use Rattle.mmc_card.specs.RowsSwitch.{switch_source, switched}
use Rattle.mmc_card.specs.RowsTransfer.{begun, preset, sending, sending_from, transfer_errors, transferred}
use Rattle.mmc_card.specs.declared.command.Command.{Command}
use Rattle.mmc_card.specs.declared.command.Command.TheVariants.{SdSendOpCond, SendScr, SetBusWidth, AllSendCid, AppCmd}
use Rattle.mmc_card.specs.declared.command.Command.TheVariants.{Erase, EraseEnd, EraseStart, GoIdleState}
use Rattle.mmc_card.specs.declared.command.Command.TheVariants.{ReadMultipleBlock, ReadSingleBlock, SelectCard, SendCsd}
use Rattle.mmc_card.specs.declared.command.Command.TheVariants.{SendExtCsd, SendIfCond, SendOpCond, SendRelativeAddr}
use Rattle.mmc_card.specs.declared.command.Command.TheVariants.{SendStatus, SetBlockCount, SetBlocklen, SetRelativeAddr}
use Rattle.mmc_card.specs.declared.command.Command.TheVariants.{StopTransmission, Switch, SwitchFunc, Unknown}
use Rattle.mmc_card.specs.declared.command.Command.TheVariants.{WriteBlock, WriteMultipleBlock}
use Rattle.mmc_card.specs.declared.response.Response.{Response}
use Rattle.mmc_card.specs.declared.response.Response.TheVariants as To
use Rattle.mmc_card.specs.CardAnswer.{refused, shown}
use Rattle.mmc_card.specs.Made.{HasRegisters, Made}
use Rattle.mmc_frame.specs.declared.card_state.State.TheVariants as In
use Rattle.mmc_host.specs.declared.data.Data.{Data}
use Rattle.mmc_host.specs.Fits.{AreSent, AreToCome, Begins, HasDataAfter, IsAnswered, IsBusyAfter}
use Rattle.mmc_card.specs.Wanted.{response_to, want_of}
use Rattle.mmc_host.specs.Table.{data_of, response_of}
use Rattle.mmc_card.proofs.ByteLemmas.{reread_length, sent_length}

-- the card that a command reaches has other errors and erase addresses alone
record Likeness (old now : Card) : Type 0 where
  state : now.state ≡ old.state
  is_busy : now.is_busy ≡ old.is_busy
  count : now.count ≡ old.count
  made : now.made ≡ old.made

like_reached : (choice : Choice) (command : Command) (card : Card) → Likeness card (reached choice command card)
like_reached choice command card =
    let same : Likeness card card = record { state = refl; is_busy = refl; count = refl; made = refl } in
    by_cond (Likeness card) (leaves_erase command) (λ _. same)
    (λ _. by_cond (Likeness card) (holds_address card.erase)
    (λ _. by_cond (Likeness card) choice.drops_quietly
    (λ _. record { state = refl; is_busy = refl; count = refl; made = refl })
    (λ _. record { state = refl; is_busy = refl; count = refl; made = refl }))
    (λ _. same))

-- Busy.

abbrev Rests : Command → Card → Card → Type 0
Rests command old new = IsBusyAfter (response_of command) old new

busy_first : (index : ℕ) (card : Card) (argument : ℕ) (held : Held)
    → Rests EraseStart card (hold_first index card argument held).0
busy_first index card argument NoAddress = λ busy. inl busy
busy_first index card argument _ = λ busy. inl busy

busy_last : (index : ℕ) (card : Card) (argument : ℕ) (held : Held)
    → Rests EraseEnd card (hold_last index card argument held).0
busy_last index card argument (First first) = λ busy. inl busy
busy_last index card argument _ = λ busy. inl busy

busy_row : (choice : Choice) (command : Command) (card : Card) (index argument : ℕ)
    → Rests command card (row choice command card index argument).0
busy_row choice GoIdleState card index argument = λ busy. cc
busy_row choice SendOpCond card index argument =
    first_by_cond (Rests SendOpCond card) (not choice.is_slow) _ _ (λ _ busy. inl busy) (λ _ busy. inl busy)
busy_row choice SdSendOpCond card index argument =
    first_by_cond (Rests SdSendOpCond card) (is_served card argument && not choice.is_slow) _ _ (λ _ busy. inl busy) (λ _ busy. inl busy)
busy_row choice SelectCard card index argument = λ busy. inr refl
busy_row choice StopTransmission card index argument =
    first_by_cond (Rests StopTransmission card) (is_in card.state In.Tran && not choice.answers_stop) _ _
    (λ _ busy. inl busy) (λ _ busy. inr refl)
busy_row choice Erase card index argument = λ busy. inr refl
busy_row choice Switch card index argument = λ busy. inr refl
busy_row choice SendStatus card index argument =
    first_by_cond (Rests SendStatus card) (may_lag card && choice.is_behind) _ _ (λ _ busy. inl busy) (λ _ busy. inl busy)
busy_row choice SetBlocklen card index argument =
    first_by_cond (Rests SetBlocklen card) (argument == 512) _ _ (λ _ busy. inl busy) (λ _ busy. inl busy)
busy_row choice ReadSingleBlock card index argument =
    first_by_cond (Rests ReadSingleBlock card) (transfer_errors false card argument == 0) _ _ (λ _ busy. inl busy) (λ _ busy. inl busy)
busy_row choice ReadMultipleBlock card index argument =
    first_by_cond (Rests ReadMultipleBlock card) (transfer_errors false card argument == 0) _ _ (λ _ busy. inl busy) (λ _ busy. inl busy)
busy_row choice WriteBlock card index argument =
    first_by_cond (Rests WriteBlock card) (transfer_errors true card argument == 0) _ _ (λ _ busy. inl busy) (λ _ busy. inl busy)
busy_row choice WriteMultipleBlock card index argument =
    first_by_cond (Rests WriteMultipleBlock card) (transfer_errors true card argument == 0) _ _ (λ _ busy. inl busy) (λ _ busy. inl busy)
busy_row choice EraseStart card index argument = busy_first index card argument card.erase
busy_row choice EraseEnd card index argument = busy_last index card argument card.erase
busy_row choice _ card index argument = λ busy. inl busy

-- a card that is as busy
as_busy : (response : Response) (old before new : Card) → before.is_busy ≡ old.is_busy → IsBusyAfter response before new
    → IsBusyAfter response old new
as_busy response old before new same between = λ busy.
    elim (between busy) [
      | inl was ↦ inl (sym same ∙ was)
      | inr is ↦ inr is
    ]

pub busy_after : (choice : Choice) (command : Command) (card : Card) (index argument : ℕ)
    → IsBusyAfter (response_of command) card (responded choice command card index argument).0
busy_after choice command card index argument =
    let now = reached choice command card in
    let same = (like_reached choice command card).is_busy in
    after_response (Rests command card) choice command card index argument (λ busy. inl busy)
    (λ _. as_busy (response_of command) card now (row choice command now index argument).0 same
    (busy_row choice command now index argument))
    (λ busy. inl (sym same ∙ busy)) (λ busy. inl (sym same ∙ busy))

-- Answers.

-- the index in the answer to a command that came with this one
abbrev answered_index : Command → ℕ → ℕ
answered_index SendRelativeAddr index = Index.SEND_RELATIVE_ADDR
answered_index SetRelativeAddr index = Index.SEND_RELATIVE_ADDR
answered_index SelectCard index = Index.SELECT_CARD
answered_index SendIfCond index = Index.SEND_IF_COND
answered_index SendExtCsd index = Index.SEND_IF_COND
answered_index StopTransmission index = Index.STOP_TRANSMISSION
answered_index SendStatus index = Index.SEND_STATUS
answered_index SetBlocklen index = Index.SET_BLOCKLEN
answered_index ReadSingleBlock index = Index.READ_SINGLE_BLOCK
answered_index ReadMultipleBlock index = Index.READ_MULTIPLE_BLOCK
answered_index SetBlockCount index = Index.SET_BLOCK_COUNT
answered_index WriteBlock index = Index.WRITE_BLOCK
answered_index WriteMultipleBlock index = Index.WRITE_MULTIPLE_BLOCK
answered_index Erase index = Index.ERASE
answered_index Switch index = Index.SWITCH_FUNC
answered_index SwitchFunc index = Index.SWITCH_FUNC
answered_index SetBusWidth index = Index.SWITCH_FUNC
answered_index SendScr index = Index.SEND_SCR
answered_index AppCmd index = Index.APP_CMD
answered_index _ index = index

abbrev is_own : Kind → Bool → ℕ → Bool
is_own kind app index = answered_index (command_of kind app index) index == index

own_index : (kind : Kind) (app : Bool) (index : ℕ) → index < 64 → answered_index (command_of kind app index) index ≡ index
own_index Sd true index below = eqb-true _ index (agree_below_at (λ i. is_own Sd true i) (λ i. true) 64 index refl below)
own_index Sd false index below = eqb-true _ index (agree_below_at (λ i. is_own Sd false i) (λ i. true) 64 index refl below)
own_index Mmc true index below = eqb-true _ index (agree_below_at (λ i. is_own Mmc true i) (λ i. true) 64 index refl below)
own_index Mmc false index below = eqb-true _ index (agree_below_at (λ i. is_own Mmc false i) (λ i. true) 64 index refl below)

abbrev Answers : Command → ℕ → Card × CardAnswer → Type 0
Answers command index pair = IsAnswered (response_of command) (answered_index command index) pair.1

pair_by : {X : Type 0} (P : X → Type 0) (b : Bool) (x y : X) → P x → P y → P (cond b x y)
pair_by P true x y p q = p
pair_by P false x y p q = q

answer_first : (index : ℕ) (card : Card) (argument : ℕ) (held : Held)
    → Answers EraseStart index (hold_first index card argument held)
answer_first index card argument NoAddress = refl
answer_first index card argument _ = refl

answer_last : (index : ℕ) (card : Card) (argument : ℕ) (held : Held)
    → Answers EraseEnd index (hold_last index card argument held)
answer_last index card argument (First first) = refl
answer_last index card argument _ = refl

answer_erase : (index : ℕ) (card : Card) (argument : ℕ) (held : Held) → Answers Erase index (erase_held card argument held)
answer_erase index card argument (Both first last) =
    pair_by (Answers Erase index) (is_no_range card first last) _ _ refl refl
answer_erase index card argument _ = refl

answer_switch : (index : ℕ) (late : Bool) (card : Card) (to : Option Card) → Answers Switch index (switch_row late card to)
answer_switch index late card (Some after) = refl
answer_switch index late card None = refl

answer_row : (choice : Choice) (command : Command) (card : Card) (index argument : ℕ)
    → Answers command index (row choice command card index argument)
answer_row choice GoIdleState card index argument = tt
answer_row choice SendOpCond card index argument = pair_by (Answers SendOpCond index) (not choice.is_slow) _ _ tt tt
answer_row choice SdSendOpCond card index argument =
    pair_by (Answers SdSendOpCond index) (is_served card argument && not choice.is_slow) _ _ tt tt
answer_row choice AllSendCid card index argument = tt
answer_row choice SendCsd card index argument = tt
answer_row choice SendIfCond card index argument =
    by_cond (IsAnswered To.R7 Index.SEND_IF_COND) (field 11 8 argument == 1) (λ _. refl) (λ _. tt)
answer_row choice StopTransmission card index argument =
    pair_by (Answers StopTransmission index) (is_in card.state In.Tran && not choice.answers_stop) _ _ tt refl
answer_row choice SendStatus card index argument =
    pair_by (Answers SendStatus index) (may_lag card && choice.is_behind) _ _ refl refl
answer_row choice SetBlocklen card index argument = pair_by (Answers SetBlocklen index) (argument == 512) _ _ refl refl
answer_row choice ReadSingleBlock card index argument =
    pair_by (Answers ReadSingleBlock index) (transfer_errors false card argument == 0) _ _ refl refl
answer_row choice ReadMultipleBlock card index argument =
    pair_by (Answers ReadMultipleBlock index) (transfer_errors false card argument == 0) _ _ refl refl
answer_row choice WriteBlock card index argument =
    pair_by (Answers WriteBlock index) (transfer_errors true card argument == 0) _ _ refl refl
answer_row choice WriteMultipleBlock card index argument =
    pair_by (Answers WriteMultipleBlock index) (transfer_errors true card argument == 0) _ _ refl refl
answer_row choice EraseStart card index argument = answer_first index card argument card.erase
answer_row choice EraseEnd card index argument = answer_last index card argument card.erase
answer_row choice Erase card index argument = answer_erase index card argument card.erase
answer_row choice Switch card index argument =
    answer_switch index choice.says_late card (if choice.fails_switch then None else switched card argument)
answer_row choice Unknown card index argument = tt
answer_row choice _ card index argument = refl

-- a command that finds an error is answered by an R1
answer_hindered : (command : Command) (index bits : ℕ) (card : Card) → answered_index command index ≡ index → may_find command ≡ true
    → Answers command index (hindered bits card index)
answer_hindered SetRelativeAddr index bits card own may = sym own
answer_hindered SendExtCsd index bits card own may = sym own
answer_hindered SetBlocklen index bits card own may = sym own
answer_hindered ReadSingleBlock index bits card own may = sym own
answer_hindered ReadMultipleBlock index bits card own may = sym own
answer_hindered SetBlockCount index bits card own may = sym own
answer_hindered WriteBlock index bits card own may = sym own
answer_hindered WriteMultipleBlock index bits card own may = sym own
answer_hindered EraseStart index bits card own may = sym own
answer_hindered EraseEnd index bits card own may = sym own
answer_hindered Erase index bits card own may = sym own
answer_hindered Switch index bits card own may = sym own
answer_hindered SwitchFunc index bits card own may = sym own
answer_hindered SetBusWidth index bits card own may = sym own
answer_hindered SendScr index bits card own may = sym own
answer_hindered AppCmd index bits card own may = sym own
answer_hindered _ index bits card own may = cc

answer_obeyed : (choice : Choice) (command : Command) (card : Card) (index argument : ℕ) → answered_index command index ≡ index
    → Answers command index (obeyed choice command card index argument)
answer_obeyed choice command card index argument own =
    by_cond (Answers command index) (found choice command == 0) {x = row choice command card index argument}
    {y = hindered (found choice command) card index} (λ _. answer_row choice command card index argument)
    (λ some. answer_hindered command index (found choice command) card own (found_some choice command some).0)

silent : (response : Response) (index : ℕ) → IsAnswered response index Silent
silent response index = tt

pub answer_told : (choice : Choice) (kind : Kind) (app : Bool) (card : Card) (index argument : ℕ) → index < 64
    → IsAnswered (response_of (command_of kind app index)) index
    (responded choice (command_of kind app index) card index argument).1
answer_told choice kind app card index argument below =
    let command = command_of kind app index in
    let now = reached choice command card in
    subst (λ i. IsAnswered (response_of command) i (responded choice command card index argument).1)
    (own_index kind app index below)
    (pair_by (Answers command index) (is_foreign command card argument) (card, Silent) _
    (silent (response_of command) (answered_index command index))
    (pair_by (Answers command index) (is_legal command card) (obeyed choice command now index argument) (refused now, Silent)
    (answer_obeyed choice command now index argument (own_index kind app index below))
    (silent (response_of command) (answered_index command index))))

-- Data.

-- so many blocks will be moved where none are preset
module _ (moved : ℕ) where
  abbrev Moves : Command → Card → Card → Type 0
  Moves command old new = HasDataAfter (data_of command old.count moved) old new

  -- it neither sends nor accepts blocks that it didn't before
  stays : (told : Data) (old new : Card) → new.state ≡ old.state → HasDataAfter told old new
  stays told old new same = record {
    sends = λ now before. cc (ap (λ s. is_in s In.Data) same, now, before);
    accepts = λ now before. cc (ap (λ s. is_in s In.Rcv) same, now, before);
  }

  leaves : (told : Data) (old new : Card) → is_in new.state In.Data ≡ false → is_in new.state In.Rcv ≡ false
      → HasDataAfter told old new
  leaves told old new no_data no_rcv = record {
    sends = λ now before. cc (now, no_data);
    accepts = λ now before. cc (now, no_rcv);
  }

  -- as many blocks as are preset
  preset_blocks : (is_none : Bool) (count : ℕ)
      → AreToCome (if is_none then moved else count) (if is_none then None else Some count)
  preset_blocks true count = tt
  preset_blocks false count = refl

  begins_to_send : (told : Data) (old new : Card) → is_in new.state In.Rcv ≡ false → Begins told new → HasDataAfter told old new
  begins_to_send told old new no_rcv begins =
      record { sends = λ now before. begins; accepts = λ now before. cc (now, no_rcv) }

  begins_to_accept : (told : Data) (old new : Card) → is_in new.state In.Data ≡ false → Begins told new
      → HasDataAfter told old new
  begins_to_accept told old new no_data begins =
      record { sends = λ now before. cc (now, no_data); accepts = λ now before. begins }

  -- registers of the length that the table says, where a command sends one
  abbrev AreSized : Command → Card → Type 0
  AreSized SendScr card = length card.made.scr ≡ 8
  AreSized SwitchFunc card = length card.made.switch_status ≡ 64
  AreSized SendExtCsd card = length card.made.ext_csd ≡ 512
  AreSized _ card = Unit {0}

  move_first : (index : ℕ) (card : Card) (argument : ℕ) (held : Held)
      → Moves EraseStart card (hold_first index card argument held).0
  move_first index card argument NoAddress = stays _ card _ refl
  move_first index card argument _ = stays _ card _ refl

  move_last : (index : ℕ) (card : Card) (argument : ℕ) (held : Held) → Moves EraseEnd card (hold_last index card argument held).0
  move_last index card argument (First first) = stays _ card _ refl
  move_last index card argument _ = stays _ card _ refl

  move_erase : (card : Card) (argument : ℕ) (held : Held) → Moves Erase card (erase_held card argument held).0
  move_erase card argument (Both first last) =
      first_by_cond (Moves Erase card) (is_no_range card first last) _ _ (λ _. stays _ card _ refl)
      (λ _. leaves _ card _ refl refl)
  move_erase card argument _ = stays _ card _ refl

  move_switch : (late : Bool) (card : Card) (to : Option Card) → Moves Switch card (switch_row late card to).0
  move_switch late card (Some after) = leaves _ card _ refl refl
  move_switch late card None = leaves _ card _ refl refl

  move_transfer : (command : Command) (index errors : ℕ) (card after : Card) → Moves command card after
      → Moves command card (transferred index errors card after).0
  move_transfer command index errors card after begins =
      first_by_cond (Moves command card) (errors == 0) _ _ (λ _. begins) (λ _. stays _ card (shown card) refl)

  status_length : (choice : Choice) (card : Card) (argument : ℕ) → length card.made.switch_status ≡ 64
      → AreSent 64 1 (switch_source choice card argument) card.left
  status_length choice card argument size =
      by_cond (λ source. AreSent 64 1 source card.left) (is_to_speed_up card argument && choice.refuses_speed)
      (λ _. (sent_length choice (refusal choice.selects_none card.made.switch_status) ∙ (length-set card.made.switch_status 16 _ ∙ size), refl))
      (λ _. (sent_length choice card.made.switch_status ∙ size, refl))

  ext_csd_length : (card : Card) → length card.made.ext_csd ≡ 512 → length (ext_csd_now card) ≡ 512
  ext_csd_length card size = simp length-set size

  move_row : (choice : Choice) (command : Command) (card : Card) (index argument : ℕ) → AreSized command card
      → Moves command card (row choice command card index argument).0
  move_row choice GoIdleState card index argument sized = leaves _ card _ refl refl
  move_row choice SendOpCond card index argument sized =
      first_by_cond (Moves SendOpCond card) (not choice.is_slow) _ _ (λ _. leaves _ card _ refl refl) (λ _. stays _ card _ refl)
  move_row choice SdSendOpCond card index argument sized =
      first_by_cond (Moves SdSendOpCond card) (is_served card argument && not choice.is_slow) _ _
      (λ _. leaves _ card _ refl refl) (λ _. stays _ card _ refl)
  move_row choice AllSendCid card index argument sized = leaves _ card _ refl refl
  move_row choice SendRelativeAddr card index argument sized = leaves _ card _ refl refl
  move_row choice SetRelativeAddr card index argument sized = leaves _ card _ refl refl
  move_row choice SelectCard card index argument sized = leaves _ card _ refl refl
  move_row choice StopTransmission card index argument sized =
      first_by_cond (Moves StopTransmission card) (is_in card.state In.Tran && not choice.answers_stop) _ _
      (λ _. stays _ card _ refl)
      (λ _. by_cond (Moves StopTransmission card) (is_in card.state In.Rcv) (λ _. leaves _ card _ refl refl)
      (λ _. by_cond (Moves StopTransmission card) choice.stays_busy (λ _. leaves _ card _ refl refl)
      (λ _. leaves _ card _ refl refl)))
  move_row choice SendStatus card index argument sized =
      first_by_cond (Moves SendStatus card) (may_lag card && choice.is_behind) _ _ (λ _. stays _ card _ refl)
      (λ _. stays _ card _ refl)
  move_row choice SetBlocklen card index argument sized =
      first_by_cond (Moves SetBlocklen card) (argument == 512) _ _ (λ _. stays _ card _ refl) (λ _. stays _ card _ refl)
  move_row choice ReadSingleBlock card index argument sized =
      let after = begun In.Data true (Some 1) card argument in
      move_transfer ReadSingleBlock 17 (transfer_errors false card argument) card after
      (begins_to_send (data_of ReadSingleBlock card.count moved) card after refl (refl, (refl, refl)))
  move_row choice ReadMultipleBlock card index argument sized =
      let after = begun In.Data false (preset card) card argument in
      move_transfer ReadMultipleBlock 18 (transfer_errors false card argument) card after
      (begins_to_send (data_of ReadMultipleBlock card.count moved) card after refl (refl, (refl, preset_blocks (card.count == 0) card.count)))
  move_row choice WriteBlock card index argument sized =
      let after = begun In.Rcv true (Some 1) card argument in
      move_transfer WriteBlock 24 (transfer_errors true card argument) card after
      (begins_to_accept (data_of WriteBlock card.count moved) card after refl (refl, refl))
  move_row choice WriteMultipleBlock card index argument sized =
      let after = begun In.Rcv false (preset card) card argument in
      move_transfer WriteMultipleBlock 25 (transfer_errors true card argument) card after
      (begins_to_accept (data_of WriteMultipleBlock card.count moved) card after refl (refl, preset_blocks (card.count == 0) card.count))
  move_row choice EraseStart card index argument sized = move_first index card argument card.erase
  move_row choice EraseEnd card index argument sized = move_last index card argument card.erase
  move_row choice Erase card index argument sized = move_erase card argument card.erase
  move_row choice Switch card index argument sized =
      move_switch choice.says_late card (if choice.fails_switch then None else switched card argument)
  move_row choice SwitchFunc card index argument sized =
      let after = sending_from (switch_source choice card argument) card in
      begins_to_send (data_of SwitchFunc card.count moved) card after refl (refl, status_length choice card argument sized)
  move_row choice SendScr card index argument sized =
      let after = sending card.made.scr card.timing card in
      begins_to_send (data_of SendScr card.count moved) card after refl (refl, (sized, refl))
  move_row choice SendExtCsd card index argument sized =
      let bytes = reread is_read choice.unread (ext_csd_now card) in
      let after = sending bytes card.timing card in
      let size : length bytes ≡ 512 = reread_length is_read choice.unread (ext_csd_now card) ∙ ext_csd_length card sized in
      begins_to_send (data_of SendExtCsd card.count moved) card after refl (refl, (size, refl))
  move_row choice _ card index argument sized = stays _ card _ refl

  as_before : (told : Data) (old before new : Card) → before.state ≡ old.state → HasDataAfter told before new
      → HasDataAfter told old new
  as_before told old before new same moves = record {
    sends = λ now was. moves.sends now (ap (λ s. is_in s In.Data) same ∙ was);
    accepts = λ now was. moves.accepts now (ap (λ s. is_in s In.Rcv) same ∙ was);
  }

  sized_as : (command : Command) (old now : Card) → now.made ≡ old.made → AreSized command old → AreSized command now
  sized_as SendScr old now same sized = ap (λ (m : Made). length m.scr) same ∙ sized
  sized_as SwitchFunc old now same sized = ap (λ (m : Made). length m.switch_status) same ∙ sized
  sized_as SendExtCsd old now same sized = ap (λ (m : Made). length m.ext_csd) same ∙ sized
  sized_as _ old now same sized = tt

  pub data_after : (choice : Choice) (command : Command) (card : Card) (index argument : ℕ) → AreSized command card
      → HasDataAfter (data_of command card.count moved) card (responded choice command card index argument).0
  data_after choice command card index argument sized =
      let now = reached choice command card in
      let like = like_reached choice command card in
      after_response (Moves command card) choice command card index argument (stays _ card card refl)
      (λ _. as_before _ card now _ like.state
      (subst (λ n. HasDataAfter (data_of command n moved) now (row choice command now index argument).0) like.count
      (move_row choice command now index argument (sized_as command card now like.made sized))))
      (stays _ card (shown now) like.state) (stays _ card (refused now) like.state)

  -- each kind sends its own registers
  abbrev is_of : Kind → Command → Bool
  is_of Sd SendExtCsd = false
  is_of Mmc SendScr = false
  is_of Mmc SwitchFunc = false
  is_of _ _ = true

  means_its_own : (kind : Kind) (app : Bool) (index : ℕ) → index < 64 → is_of kind (command_of kind app index) ≡ true
  means_its_own Sd true index below = agree_below_at (λ i. is_of Sd (command_of Sd true i)) (λ i. true) 64 index refl below
  means_its_own Sd false index below = agree_below_at (λ i. is_of Sd (command_of Sd false i)) (λ i. true) 64 index refl below
  means_its_own Mmc true index below = agree_below_at (λ i. is_of Mmc (command_of Mmc true i)) (λ i. true) 64 index refl below
  means_its_own Mmc false index below =
      agree_below_at (λ i. is_of Mmc (command_of Mmc false i)) (λ i. true) 64 index refl below

  sized_of : (kind : Kind) (command : Command) (card : Card) → card.made.kind ≡ kind → HasRegisters card.made
      → is_of kind command ≡ true → AreSized command card
  sized_of Sd SendScr card is registers own = registers.scr is
  sized_of Sd SwitchFunc card is registers own = registers.switch_status is
  sized_of Mmc SendExtCsd card is registers own = registers.ext_csd is
  sized_of Sd SendExtCsd card is registers own = cc own
  sized_of Mmc SendScr card is registers own = cc own
  sized_of Mmc SwitchFunc card is registers own = cc own
  sized_of _ _ card is registers own = tt

  pub blocks_told : (choice : Choice) (kind : Kind) (app : Bool) (card : Card) (index argument : ℕ) → index < 64
      → card.made.kind ≡ kind → HasRegisters card.made
      → HasDataAfter (data_of (command_of kind app index) card.count moved) card
      (responded choice (command_of kind app index) card index argument).0
  blocks_told choice kind app card index argument below is registers =
      data_after choice (command_of kind app index) card index argument
      (sized_of kind (command_of kind app index) card is registers (means_its_own kind app index below))

-- Lengths.

pub as_long : (command : Command) → want_of (response_of command) ≡ response_to command
as_long GoIdleState = refl
as_long SendOpCond = refl
as_long SdSendOpCond = refl
as_long AllSendCid = refl
as_long SendRelativeAddr = refl
as_long SetRelativeAddr = refl
as_long SelectCard = refl
as_long SendIfCond = refl
as_long SendExtCsd = refl
as_long SendCsd = refl
as_long StopTransmission = refl
as_long SendStatus = refl
as_long SetBlocklen = refl
as_long ReadSingleBlock = refl
as_long ReadMultipleBlock = refl
as_long SetBlockCount = refl
as_long WriteBlock = refl
as_long WriteMultipleBlock = refl
as_long EraseStart = refl
as_long EraseEnd = refl
as_long Erase = refl
as_long Switch = refl
as_long SwitchFunc = refl
as_long SetBusWidth = refl
as_long SendScr = refl
as_long AppCmd = refl
as_long Unknown = refl
