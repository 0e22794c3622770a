-- Each row keeps that what is to be sent is bytes.
use Rattle.std.proofs.Common.{◌&&◌, ◌≡◌, ◌≤◌, Bool, arith, not, refl, true, ℕ, List, false}
use Rattle.std.specs.Prelude.{◌==◌, None, Option, Some}
use Rattle.mmc_frame.specs.declared.card_state.State.{State}
use Rattle.mmc_frame.specs.declared.card_state.State.TheVariants.{Data, Prg, Rcv, Tran}
use Rattle.mmc_frame.specs.Flips.{AreBytes}
use Rattle.mmc_card.proofs.ByteLemmas.{ext_csd_bytes, refusal_bytes, reread_bytes, sent_bytes}
use Rattle.mmc_card.proofs.Conditions.{along, by_cond, first_by_cond}
use Rattle.mmc_card.proofs.Responses.{after_answer, after_response}
use Rattle.mmc_card.proofs.Narrow.{AreSwitched, may_switch}
use Rattle.mmc_card.specs.CardAnswer.{Choice, garbled, left_with, raised, refused, reset, shown}
use Rattle.mmc_card.specs.Blocks.{accepted, fallen_early, fallen_short, programmed, rejected, rested, sent_from, waited}
use Rattle.mmc_card.specs.Card.{Both, Card, First, FromBytes, FromSectors, Held, NoAddress, SendsBytes, Source, is_in}
use Rattle.mmc_card.specs.Made.{HasRegisters}
use Rattle.mmc_card.specs.declared.command.Command.{Command}
use Rattle.mmc_card.specs.declared.command.Command.TheVariants.{SdSendOpCond, SendScr, Erase, EraseEnd, EraseStart}
use Rattle.mmc_card.specs.declared.command.Command.TheVariants.{GoIdleState, ReadMultipleBlock, ReadSingleBlock}
use Rattle.mmc_card.specs.declared.command.Command.TheVariants.{SendExtCsd, SendOpCond, SendStatus, SetBlocklen}
use Rattle.mmc_card.specs.declared.command.Command.TheVariants.{StopTransmission, Switch, SwitchFunc, WriteBlock}
use Rattle.mmc_card.specs.declared.command.Command.TheVariants.{WriteMultipleBlock}
use Rattle.mmc_card.specs.Rows.{answered, leaves_erase, reached, responded, row}
use Rattle.mmc_card.specs.RowsErase.{erase_held, hold_first, hold_last, holds_address, is_no_range}
use Rattle.mmc_card.specs.RowsIdentify.{inquired, is_served, may_lag}
use Rattle.mmc_card.specs.RowsSwitch.{ext_csd_now, is_read_of_status, is_to_speed_up, switch_row, switch_source}
use Rattle.mmc_card.specs.RowsTransfer.{begun, preset, transfer_errors, transferred}
use Rattle.mmc_card.specs.Blocks.{ignoring}
use Rattle.mmc_card.specs.RowsSwitch.{is_read}

pub record IsSending (card : Card) : Type 0 where
  pub registers : HasRegisters card.made
  pub erase_group_def : card.erase_group_def ≤ 1
  pub sends : SendsBytes card.source

-- it is made as it was, and so are its bytes
sending_like : (c d : Card) → IsSending c → d.made ≡ c.made → d.erase_group_def ≡ c.erase_group_def
    → d.source ≡ c.source → IsSending d
sending_like c d k made group source = record {
  registers = along HasRegisters made k.registers;
  erase_group_def = along (λ n. n ≤ 1) group k.erase_group_def;
  sends = along SendsBytes source k.sends;
}

-- it has this to send
sending_from : (c d : Card) → IsSending c → d.made ≡ c.made → d.erase_group_def ≡ c.erase_group_def
    → SendsBytes d.source → IsSending d
sending_from c d k made group sends = record {
  registers = along HasRegisters made k.registers;
  erase_group_def = along (λ n. n ≤ 1) group k.erase_group_def;
  sends = sends;
}

pub sending_shown : (c : Card) → IsSending c → IsSending (shown c)
sending_shown c k = sending_like c _ k refl refl refl

sending_refused : (c : Card) → IsSending c → IsSending (refused c)
sending_refused c k = sending_like c _ k refl refl refl

pub sending_left : (bits : ℕ) (c : Card) → IsSending c → IsSending (left_with bits c)
sending_left bits c k = sending_like c _ k refl refl refl

pub sending_garbled : (keeps : Bool) (c : Card) → IsSending c → IsSending (garbled keeps c)
sending_garbled keeps c k = sending_like c _ k refl refl refl

pub sending_raised : (bits : ℕ) (c : Card) → IsSending c → IsSending (raised bits c)
sending_raised bits c k = sending_like c _ k refl refl refl

pub sending_reached : (choice : Choice) (command : Command) (c : Card) → IsSending c → IsSending (reached choice command c)
sending_reached choice command c k =
    by_cond IsSending (leaves_erase command) (λ _. k)
    (λ _. by_cond IsSending (holds_address c.erase)
    (λ _. by_cond IsSending choice.drops_quietly (λ _. sending_like c _ k refl refl refl) (λ _. sending_like c _ k refl refl refl))
    (λ _. k))

pub sending_reset : (lands : ℕ → Bool) (keeps_length : Bool) (c : Card) → IsSending c
    → IsSending (reset lands keeps_length c)
sending_reset lands keeps_length c k = record { registers = k.registers; erase_group_def = omega arith; sends = tt }

pub sending_programmed : (lands : ℕ → Bool) (c : Card) → IsSending c → IsSending (programmed lands c)
sending_programmed lands c k = sending_like c _ k refl refl refl

pub sending_fallen_short : (lands : ℕ → Bool) (c : Card) → IsSending c → IsSending (fallen_short lands c)
sending_fallen_short lands c k = sending_like c _ k refl refl refl

pub sending_fallen_early : (lands : ℕ → Bool) (c : Card) → IsSending c → IsSending (fallen_early lands c)
sending_fallen_early lands c k = sending_like c _ k refl refl refl

pub sending_ignoring : (ignores : Bool) (c : Card) → IsSending c → IsSending (ignoring ignores c)
sending_ignoring ignores c k = by_cond IsSending ignores (λ _. sending_like c _ k refl refl refl) (λ _. k)

pub sending_rested : (c : Card) → IsSending c → IsSending (rested c)
sending_rested c k =
    by_cond IsSending (is_in c.state Prg)
    (λ _. sending_programmed (λ i. true) c k) (λ _. sending_like c _ k refl refl refl)

pub sending_waited : (c : Card) → IsSending c → IsSending (waited c)
sending_waited c k = sending_like c _ k refl refl refl

-- Rows.

sending_inquired : (is_ready : Bool) (c : Card) → IsSending c → IsSending (inquired is_ready c).0
sending_inquired is_ready c k =
    first_by_cond IsSending is_ready _ _ (λ _. sending_like c _ k refl refl refl)
    (λ _. sending_like c _ k refl refl refl)

sending_transferred : (index errors : ℕ) (c after : Card) → IsSending c → IsSending after
    → IsSending (transferred index errors c after).0
sending_transferred index errors c after k a =
    first_by_cond IsSending (errors == 0) _ _ (λ _. a) (λ _. sending_shown c k)

sending_begun : (state : State) (is_single : Bool) (left : Option ℕ) (c : Card) (address : ℕ) → IsSending c
    → IsSending (begun state is_single left c address)
sending_begun state is_single left c address k = sending_from c _ k refl refl tt

sending_first : (index : ℕ) (c : Card) (address : ℕ) (held : Held) → IsSending c
    → IsSending (hold_first index c address held).0
sending_first index c address NoAddress k = sending_like c _ k refl refl refl
sending_first index c address (First first) k = sending_like c _ k refl refl refl
sending_first index c address (Both first last) k = sending_like c _ k refl refl refl

sending_last : (index : ℕ) (c : Card) (address : ℕ) (held : Held) → IsSending c
    → IsSending (hold_last index c address held).0
sending_last index c address NoAddress k = sending_like c _ k refl refl refl
sending_last index c address (First first) k = sending_like c _ k refl refl refl
sending_last index c address (Both first last) k = sending_like c _ k refl refl refl

sending_erase : (c : Card) (argument : ℕ) (held : Held) → IsSending c → IsSending (erase_held c argument held).0
sending_erase c argument NoAddress k = sending_like c _ k refl refl refl
sending_erase c argument (First first) k = sending_like c _ k refl refl refl
sending_erase c argument (Both first last) k =
    first_by_cond IsSending (is_no_range c first last) _ _ (λ _. sending_like c _ k refl refl refl)
    (λ _. sending_like c _ k refl refl refl)

sending_switch : (late : Bool) (c : Card) (o : Option Card) → AreSwitched c o → IsSending c
    → IsSending (switch_row late c o).0
sending_switch late c None h k = sending_like c _ k refl refl refl
sending_switch late c (Some d) h k = record {
  registers = along HasRegisters h.made k.registers;
  erase_group_def = h.erase_group_def k.erase_group_def;
  sends = along SendsBytes h.source k.sends;
}

switch_source_bytes : (choice : Choice) (c : Card) (argument : ℕ) → AreBytes c.made.switch_status
    → SendsBytes (switch_source choice c argument)
switch_source_bytes choice c argument bytes =
    by_cond SendsBytes (is_to_speed_up c argument && choice.refuses_speed)
    (λ _. sent_bytes choice _ (refusal_bytes choice.selects_none c.made.switch_status bytes)) (λ _. sent_bytes choice _ bytes)

sending_row : (choice : Choice) (command : Command) (c : Card) (index argument : ℕ) → IsSending c
    → IsSending (row choice command c index argument).0
sending_row choice GoIdleState c index argument k = sending_reset choice.lands choice.keeps_length c k
sending_row choice SendOpCond c index argument k = sending_inquired (not choice.is_slow) c k
sending_row choice SdSendOpCond c index argument k =
    sending_inquired (is_served c argument && not choice.is_slow) c k
sending_row choice StopTransmission c index argument k =
    first_by_cond IsSending (is_in c.state Tran && not choice.answers_stop) _ _ (λ _. sending_refused c k)
    (λ _. by_cond IsSending (is_in c.state Rcv) (λ _. sending_like c _ k refl refl refl)
    (λ _. by_cond IsSending choice.stays_busy (λ _. sending_from c _ k refl refl tt) (λ _. sending_from c _ k refl refl tt)))
sending_row choice SendExtCsd c index argument k =
    sending_from c _ k refl refl
    (reread_bytes is_read choice.unread (ext_csd_now c) (ext_csd_bytes c k.erase_group_def k.registers.ext_csd_bytes))
sending_row choice SetBlocklen c index argument k =
    first_by_cond IsSending (argument == 512) _ _ (λ _. sending_like c _ k refl refl refl) (λ _. sending_shown c k)
sending_row choice SendStatus c index argument k =
    first_by_cond IsSending (may_lag c && choice.is_behind) _ _ (λ _. sending_like c _ k refl refl refl)
    (λ _. sending_shown c k)
sending_row choice ReadSingleBlock c index argument k =
    sending_transferred 17 (transfer_errors false c argument) c _ k (sending_begun Data true (Some 1) c argument k)
sending_row choice ReadMultipleBlock c index argument k =
    sending_transferred 18 (transfer_errors false c argument) c _ k (sending_begun Data false (preset c) c argument k)
sending_row choice WriteBlock c index argument k =
    sending_transferred 24 (transfer_errors true c argument) c _ k (sending_begun Rcv true (Some 1) c argument k)
sending_row choice WriteMultipleBlock c index argument k =
    sending_transferred 25 (transfer_errors true c argument) c _ k (sending_begun Rcv false (preset c) c argument k)
sending_row choice EraseStart c index argument k = sending_first index c argument c.erase k
sending_row choice EraseEnd c index argument k = sending_last index c argument c.erase k
sending_row choice Erase c index argument k = sending_erase c argument c.erase k
sending_row choice Switch c index argument k =
    sending_switch choice.says_late c _ (may_switch choice.fails_switch c argument) k
sending_row choice SwitchFunc c index argument k =
    sending_from c _ k refl refl (switch_source_bytes choice c argument k.registers.switch_status_bytes)
sending_row choice SendScr c index argument k = sending_from c _ k refl refl k.registers.scr_bytes
sending_row choice _ c index argument k = sending_like c _ k refl refl refl

sending_responded : (choice : Choice) (command : Command) (c : Card) (index argument : ℕ) → IsSending c
    → IsSending (responded choice command c index argument).0
sending_responded choice command c index argument k =
    let now = sending_reached choice command c k in
    after_response IsSending choice command c index argument k
    (λ _. sending_row choice command (reached choice command c) index argument now) (sending_shown (reached choice command c) now)
    (sending_refused (reached choice command c) now)

pub sending_answered : (choice : Choice) (c : Card) (sent : Option (ℕ × ℕ)) → IsSending c
    → IsSending (answered choice c sent).0
sending_answered choice c sent k =
    after_answer IsSending choice c sent (λ command index argument. sending_responded choice command c index argument k)
    (sending_garbled choice.keeps_count c k)

-- Blocks.

pub sending_accepted : (block : List ℕ) (c : Card) → IsSending c → IsSending (accepted block c)
sending_accepted block c k = sending_like c _ k refl refl refl

pub sending_rejected : (ignores is_busy : Bool) (c : Card) → IsSending c → IsSending (rejected ignores is_busy c)
sending_rejected ignores is_busy c k =
    by_cond IsSending ignores (λ _. sending_like c _ k refl refl refl)
    (λ _. by_cond IsSending c.is_single
    (λ _. by_cond IsSending is_busy (λ _. sending_like c _ k refl refl refl) (λ _. sending_like c _ k refl refl refl)) (λ _. k))

pub sending_sent_from : (source : Source) (choice : Choice) (c : Card) → IsSending c
    → IsSending (sent_from source choice c)
sending_sent_from FromSectors choice c k = sending_like c _ k refl refl refl
sending_sent_from (FromBytes bytes timing) choice c k = sending_from c _ k refl refl tt
