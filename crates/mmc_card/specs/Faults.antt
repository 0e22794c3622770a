-- Relation (docs/AUDIT.md, "What to read").
-- The steps of a kept bus: time passes, and then each exchange is a faithful step, or one fault, which adds one to the count of
-- faults. What may go wrong, and what a card does then, is the project's own.
use Rattle.std.specs.Prelude.{◌&&◌, ◌+◌, ◌<◌, ◌≡◌, ◌≤◌, ◌⊎◌, Bool, IsSomeAnd, List, None, Ok, Option, Some, false}
use Rattle.std.specs.Prelude.{if◌then◌else◌, is_ok, is_some, not, true, ℕ}
use Rattle.mmc_frame.specs.Frame.{command_in, response_in}
use Rattle.mmc_frame.specs.RegisterFrame.{ocr_frame, ocr_in, register_frame, register_in}
use Rattle.mmc_frame.specs.declared.card_state.State.TheVariants.{Idle, Prg, Rcv, Tran}
use Rattle.mmc_card.specs.declared.exchange.DataIn.{DataIn}
use Rattle.mmc_card.specs.declared.exchange.DataOut.{DataOut}
use Rattle.mmc_card.specs.declared.exchange.Reply.{Reply}
use Rattle.mmc_card.specs.CardAnswer.{CardAnswer, Checked, Choice, Silent, R3, R2, garbled, raised, reset, showing}
use Rattle.mmc_card.specs.ErrorBits.{command_error_bits, error_bits, execution_error_bits}
use Rattle.mmc_card.specs.Blocks.{accepted, asked_for, can_send, can_accept, fallen_early, fallen_short, ignoring, next_block}
use Rattle.mmc_card.specs.Blocks.{offered, polled_once, programmed, rejected, rested, run_past, sent, waited, will_send}
use Rattle.mmc_card.specs.Card.{AreAmong, Card, is_in, patience}
use Rattle.mmc_card.specs.declared.command.Command.{Command}
use Rattle.mmc_card.specs.declared.command.Command.TheVariants.{SdSendOpCond, SendOpCond, SendStatus, Switch}
use Rattle.mmc_card.specs.Judged.{IsSaid}
use Rattle.mmc_frame.specs.declared.commands.TheConstants as Index
use Rattle.mmc_card.specs.Rows.{answered, command_of, is_foreign, may_find}
use Rattle.mmc_card.specs.RowsIdentify.{is_served, may_lag}
use Rattle.mmc_card.specs.RowsSwitch.{switched}
use Rattle.mmc_card.specs.BusView.{BusView}
use Rattle.mmc_card.specs.declared.exchange.DataIn.TheVariants as Received
use Rattle.mmc_card.specs.declared.exchange.DataOut.TheVariants as Sent
use Rattle.mmc_card.specs.declared.exchange.Reply.TheVariants as Came

-- no fault falls, or one
abbrev pub NoFault : BusView → BusView → Type 0
NoFault old new = new.faults ≡ old.faults

abbrev pub OneFault : BusView → BusView → Type 0
OneFault old new = new.faults ≡ old.faults + 1

-- at most so many faults fall in all: those that fell, and those that may still fall
abbrev pub FallAtMost : ℕ → BusView → Type 0
FallAtMost most view = IsSomeAnd view.may_fall (λ more. view.faults + more ≤ most)

-- No more faults are to fall than before: what bounded them all bounds them still.
abbrev pub FallNoMore : BusView → BusView → Type 0
FallNoMore old new = (most : ℕ) → FallAtMost most old → FallAtMost most new

-- the reply is this answer
abbrev pub Spells : CardAnswer → Reply → Type 0
Spells Silent reply = reply ≡ Came.Silent
Spells (Checked index argument) reply =
    (frame : List ℕ) × (reply ≡ Came.Short frame) × (response_in frame index ≡ Ok argument)
Spells (R3 ocr) reply = reply ≡ Came.Short (ocr_frame ocr)
Spells (R2 bytes) reply = reply ≡ Came.Long (register_frame bytes)

-- the reply to a card's answer, in which what isn't judged is open
abbrev pub Replies : Card → CardAnswer → Reply → Type 0
Replies card answer reply = (said : CardAnswer) × IsSaid card.made.kind answer said × Spells said reply

-- Nothing comes of an answer to this command, or something that no reader takes: no sound register, no OCR where one is asked for,
-- and no sound response to this command (SD Physical Layer 6.00, sections 4.5 and 4.9; JESD84-B51, sections 6.12 and 8.2).
abbrev pub IsRefused : Option (ℕ × ℕ) → CardAnswer → Reply → Type 0
IsRefused sent answer Came.Silent = Unit {0}
IsRefused sent Silent reply = ⊥
IsRefused sent answer (Came.Long frame) = is_ok (register_in frame) ≡ false
IsRefused sent (R3 ocr) (Came.Short frame) = is_ok (ocr_in frame) ≡ false
IsRefused (Some command) answer (Came.Short frame) = is_ok (response_in frame command.0) ≡ false
IsRefused None answer (Came.Short frame) = ⊥

-- a readiness inquiry that the card could answer with ready
abbrev pub is_inquiry : Command → Card → ℕ → Bool
is_inquiry SendOpCond card argument = is_in card.state Idle
is_inquiry SdSendOpCond card argument = is_in card.state Idle && is_served card argument
is_inquiry _ card argument = false

abbrev pub is_inquiry_frame : Card → Option (ℕ × ℕ) → Bool
is_inquiry_frame card (Some command) = is_inquiry (command_of card.made.kind card.app command.0) card command.1
is_inquiry_frame card None = false

-- CMD13 to this card, whose status may lag behind it
abbrev pub is_status : Command → Card → ℕ → Bool
is_status SendStatus card argument = may_lag card && not (is_foreign SendStatus card argument)
is_status _ card argument = false

abbrev pub is_status_frame : Card → Option (ℕ × ℕ) → Bool
is_status_frame card (Some command) = is_status (command_of card.made.kind card.app command.0) card command.1
is_status_frame card None = false

-- a switch of an eMMC device that it knows
abbrev pub is_switch : Command → Card → ℕ → Bool
is_switch Switch card argument = is_in card.state Tran && is_some (switched card argument)
is_switch _ card argument = false

abbrev pub is_switch_frame : Card → Option (ℕ × ℕ) → Bool
is_switch_frame card (Some command) = is_switch (command_of card.made.kind card.app command.0) card command.1
is_switch_frame card None = false

-- not ready, and busy, no more often than a faithful card is
abbrev pub IsPatient : Choice → ℕ → Type 0
IsPatient choice times = choice.is_slow ≡ true → times < patience

-- no status lags behind it more often, counted with the polls that were answered yes
abbrev pub IsPunctual : Choice → Card → Type 0
IsPunctual choice card = choice.is_behind ≡ true → card.polled < patience

-- so it is at a command: patient with inquiries, and punctual with statuses
abbrev pub IsTimely : Choice → Card → Type 0
IsTimely choice card = IsPatient choice card.inquiries × IsPunctual choice card

-- and no switch fails, and no command finds an error
abbrev pub IsFaultless : Choice → Card → Type 0
IsFaultless choice card = IsTimely choice card × (choice.fails_switch ≡ false) × (choice.finds ≡ 0)

-- a command that an error may keep from being carried out
abbrev pub may_find_frame : Card → Option (ℕ × ℕ) → Bool
may_find_frame card (Some command) = may_find (command_of card.made.kind card.app command.0)
may_find_frame card None = false

-- some error bits of execution, one at least
abbrev pub AreOfExecution : ℕ → Type 0
AreOfExecution bits = AreAmong bits execution_error_bits × (bits ≡ 0 → ⊥)

-- Since the last exchange time has passed, and the next one meets the card as it is by now: cards leave prg by themselves, and data
-- once the last block is sent (SD Physical Layer 6.00, section 4.3 and its state diagrams; JESD84-B51, section 6.6). What passes
-- before a poll or a block that is read shows at the next command, or at the next block that is written.
pub data Passes (old met : BusView) : Type 0 where
  -- nothing has happened
  at_once : met ≡ old → Passes old met
  -- the busy time has ended, and what was programmed has landed
  has_rested : met ≡ record old { card = rested old.card } → Passes old met
  -- so many blocks of a read were sent that nobody took; one that was not counted may say OUT_OF_RANGE at the end
  has_run : (choice : Choice) (blocks : ℕ) → met ≡ record old { card = run_past choice blocks old.card } → Passes old met
  -- A fault that nobody has seen: programming of a write, erase or trim has failed, of which some has landed, and error bits
  -- are raised.
  has_failed : (lands : ℕ → Bool) (bits : ℕ) → AreOfExecution bits → is_in old.card.state Prg ≡ true → old.card.is_switching ≡ false
      → met ≡ record old { card = raised bits (programmed lands old.card); faults = old.faults + 1 } → Passes old met
  -- or in rcv that of an earlier block has, and the transfer goes on, or the card ignores all further blocks until CMD12
  has_fallen_short : (lands : ℕ → Bool) (bits : ℕ) (ignores : Bool) → AreOfExecution bits → is_in old.card.state Rcv ≡ true
      → old.card.is_busy ≡ true
      → met ≡ record old { card = raised bits (ignoring ignores (fallen_short lands old.card)); faults = old.faults + 1 }
      → Passes old met

-- A command, as the card meets it.
pub data MeetsCommand (old : BusView) (frame : List ℕ) (reply : Reply) (new : BusView) : Type 0 where
  faithful : (choice : Choice) → IsFaultless choice old.card → NoFault old new
      → new.card ≡ (answered choice old.card (command_in frame)).0
      → Replies old.card (answered choice old.card (command_in frame)).1 reply
      → MeetsCommand old frame reply new
  -- the card doesn't see it
  lose_command : OneFault old new → new.card ≡ old.card → reply ≡ Came.Silent → MeetsCommand old frame reply new
  -- one bit or two of it are flipped, so its check is bad
  flip_command : (keeps_count : Bool) → OneFault old new → new.card ≡ garbled keeps_count old.card → reply ≡ Came.Silent
      → MeetsCommand old frame reply new
  -- The card answers, and the host hears nothing, or nothing sound; so it may not learn that a switch failed, or that sectors are
  -- protected.
  lose_reply : (choice : Choice) → IsTimely choice old.card → OneFault old new
      → new.card ≡ (answered choice old.card (command_in frame)).0
      → ((answered choice old.card (command_in frame)).1 ≡ Silent → ⊥)
      → IsRefused (command_in frame) (answered choice old.card (command_in frame)).1 reply
      → MeetsCommand old frame reply new
  -- not ready once more than a faithful card is
  slow_inquiry : (choice : Choice) → choice.is_slow ≡ true → patience ≤ old.card.inquiries
      → is_inquiry_frame old.card (command_in frame) ≡ true → OneFault old new
      → new.card ≡ (answered choice old.card (command_in frame)).0
      → Replies old.card (answered choice old.card (command_in frame)).1 reply
      → MeetsCommand old frame reply new
  -- a status lags once more than a faithful card's do
  slow_status : (choice : Choice) → choice.is_behind ≡ true → patience ≤ old.card.polled
      → is_status_frame old.card (command_in frame) ≡ true → OneFault old new
      → new.card ≡ (answered choice old.card (command_in frame)).0
      → Replies old.card (answered choice old.card (command_in frame)).1 reply
      → MeetsCommand old frame reply new
  -- a switch fails: no byte changes, which SWITCH_ERROR says, in the response or in a status after it
  fail_switch : (choice : Choice) → choice.fails_switch ≡ true → is_switch_frame old.card (command_in frame) ≡ true
      → OneFault old new → new.card ≡ (answered choice old.card (command_in frame)).0
      → Replies old.card (answered choice old.card (command_in frame)).1 reply
      → MeetsCommand old frame reply new
  -- A command finds an error: it isn't carried out, and its response says why, as WP_VIOLATION of sectors that CMD28 has
  -- protected (SD Physical Layer 6.00, sections 4.3.6 and 4.10.1; JESD84-B51, sections 6.6.15 and 6.13).
  find_error : (choice : Choice) → AreOfExecution choice.finds → IsPatient choice old.card.inquiries
      → may_find_frame old.card (command_in frame) ≡ true → OneFault old new
      → new.card ≡ (answered choice old.card (command_in frame)).0
      → Replies old.card (answered choice old.card (command_in frame)).1 reply
      → MeetsCommand old frame reply new
  -- error bits outlive CMD0
  outlive : (choice : Choice) (bits argument : ℕ) → AreAmong bits error_bits → IsFaultless choice old.card
      → command_in frame ≡ Some (Index.GO_IDLE_STATE, argument) → OneFault old new
      → new.card ≡ raised bits (answered choice old.card (command_in frame)).0 → reply ≡ Came.Silent
      → MeetsCommand old frame reply new
  -- The card has errors to show besides: of something on the line that it took for a command before this one, and of execution,
  -- found since or while it answers (SD Physical Layer 6.00, section 4.10.1, clear condition B, types x and r; JESD84-B51,
  -- section 6.13). Those of execution show in this response, and are cleared by it.
  show_errors : (choice : Choice) (left found : ℕ) → AreAmong left command_error_bits → AreAmong found execution_error_bits
      → (left + found ≡ 0 → ⊥) → (found ≡ 0) ⊎ (new.card.errors ≡ 0)
      → IsFaultless choice old.card → OneFault old new
      → new.card ≡ (answered choice (showing left found old.card) (command_in frame)).0
      → Replies old.card (answered choice (showing left found old.card) (command_in frame)).1 reply
      → MeetsCommand old frame reply new
  -- the power fails before the step or after it
  brownout : (choice : Choice) (lands : ℕ → Bool) (keeps_length after : Bool) → IsFaultless choice old.card
      → OneFault old new
      → new.card ≡ reset lands keeps_length (if after then (answered choice old.card (command_in frame)).0 else old.card)
      → IsRefused (command_in frame) (answered choice old.card (command_in frame)).1 reply → MeetsCommand old frame reply new

-- Time passes, and then a command meets the card.
pub record CommandStep (old : BusView) (frame : List ℕ) (reply : Reply) (new : BusView) : Type 0 where
  pub met : BusView
  pub passes : Passes old met
  pub meets : MeetsCommand met frame reply new

-- A poll.
pub data PollStep (old : BusView) (said : Bool) (new : BusView) : Type 0 where
  faithful : (choice : Choice) → IsPatient choice old.card.polled → NoFault old new
      → new.card ≡ (polled_once choice old.card).0 → said ≡ (polled_once choice old.card).1
      → PollStep old said new
  -- busy once more than a faithful card is
  busy : old.card.is_busy ≡ true → patience ≤ old.card.polled → OneFault old new
      → new.card ≡ waited old.card → said ≡ true
      → PollStep old said new
  -- programming of a write, erase or trim fails: some of it has landed, and error bits are raised
  fail : (lands : ℕ → Bool) (bits : ℕ) → AreOfExecution bits → is_in old.card.state Prg ≡ true
      → old.card.is_switching ≡ false → OneFault old new
      → new.card ≡ raised bits (programmed lands old.card) → said ≡ false
      → PollStep old said new
  -- so it does early: error bits are raised while the card still says that it is busy
  fail_early : (lands : ℕ → Bool) (bits : ℕ) → AreOfExecution bits → is_in old.card.state Prg ≡ true
      → old.card.is_switching ≡ false → old.card.is_busy ≡ true → OneFault old new
      → new.card ≡ raised bits (fallen_early lands old.card) → said ≡ true
      → PollStep old said new
  -- In rcv an earlier block turns out not to be programmed: error bits are raised, and the transfer goes on, or the card
  -- ignores all further blocks until CMD12 (SD Physical Layer 6.00, section 4.3.4).
  fall_short : (lands : ℕ → Bool) (bits : ℕ) (ignores : Bool) → AreOfExecution bits → is_in old.card.state Rcv ≡ true
      → old.card.is_busy ≡ true → OneFault old new
      → new.card ≡ raised bits (ignoring ignores (fallen_short lands old.card)) → said ≡ false
      → PollStep old said new
  brownout : (choice : Choice) (lands : ℕ → Bool) (keeps_length after : Bool) → IsPatient choice old.card.polled → OneFault old new
      → new.card ≡ reset lands keeps_length (if after then (polled_once choice old.card).0 else old.card) → said ≡ false
      → PollStep old said new

-- A block that is offered, as the card meets it.
pub data MeetsBlock (old : BusView) (block : List ℕ) (got : DataOut) (new : BusView) : Type 0 where
  faithful : NoFault old new → new.card ≡ offered old.lines block old.card
      → got ≡ (if can_accept old.lines old.card then Sent.Accepted else Sent.Nothing)
      → MeetsBlock old block got new
  -- the card doesn't see it
  lose_block : can_accept old.lines old.card ≡ true → OneFault old new → new.card ≡ old.card → got ≡ Sent.Nothing
      → MeetsBlock old block got new
  -- The card rejects it, and may ignore all that come after it. It may have error bits of execution to show.
  reject : (bits : ℕ) (ignores is_busy : Bool) → AreAmong bits execution_error_bits → can_accept old.lines old.card ≡ true
      → OneFault old new → new.card ≡ raised bits (rejected ignores is_busy old.card) → got ≡ Sent.Rejected
      → MeetsBlock old block got new
  -- the card's status is lost, whether it accepted the block or rejected it, with errors to show or none
  lose_status : (bits : ℕ) (is_accepted ignores is_busy : Bool) → AreAmong bits execution_error_bits
      → can_accept old.lines old.card ≡ true → OneFault old new
      → new.card ≡ raised bits (if is_accepted then accepted block old.card else rejected ignores is_busy old.card)
      → got ≡ Sent.Nothing
      → MeetsBlock old block got new
  -- the card accepts it, and an earlier block turns out not to be programmed, as at a poll
  fall_short : (lands : ℕ → Bool) (bits : ℕ) (ignores : Bool) → AreOfExecution bits → can_accept old.lines old.card ≡ true
      → OneFault old new → new.card ≡ raised bits (ignoring ignores (accepted block (fallen_short lands old.card)))
      → got ≡ Sent.Accepted
      → MeetsBlock old block got new
  -- Of a write of several, an earlier block was rejected and all after it are ignored, which a host that sends ahead learns
  -- only now. A write of one block has no earlier one, and `lose_status` says of that one that it was rejected.
  turn_out : (lands : ℕ → Bool) → old.card.is_single ≡ false → can_accept old.lines old.card ≡ true → OneFault old new
      → new.card ≡ rejected true false (fallen_short lands old.card) → got ≡ Sent.Nothing
      → MeetsBlock old block got new
  brownout : (lands : ℕ → Bool) (keeps_length after : Bool) → OneFault old new
      → new.card ≡ reset lands keeps_length (if after then offered old.lines block old.card else old.card) → got ≡ Sent.Nothing
      → MeetsBlock old block got new

-- Time passes, and then a block that is offered meets the card.
pub record WriteStep (old : BusView) (block : List ℕ) (got : DataOut) (new : BusView) : Type 0 where
  pub met : BusView
  pub passes : Passes old met
  pub meets : MeetsBlock met block got new

-- A block of this length that is asked for.
pub data ReadStep (old : BusView) (size : ℕ) (got : DataIn) (block : List ℕ) (new : BusView) : Type 0 where
  faithful : (choice : Choice) → NoFault old new → new.card ≡ asked_for choice old.lines size old.card
      → got ≡ (if will_send choice old.lines size old.card then Received.Good else Received.Nothing)
      → (got ≡ Received.Good → next_block old.card ≡ Some block)
      → ReadStep old size got block new
  -- A bad block comes, or none: the card has sent it and goes on after it, or stays in data until CMD12, and it may have
  -- error bits of execution to show (SD Physical Layer 6.00, sections 4.3.3 and 4.10.1).
  spoil : (choice : Choice) (bits : ℕ) (goes_on comes : Bool) → AreAmong bits execution_error_bits
      → can_send old.lines size old.card ≡ true → OneFault old new
      → new.card ≡ raised bits (if goes_on then sent choice old.card else old.card)
      → got ≡ (if comes then Received.Bad else Received.Nothing)
      → ReadStep old size got block new
  brownout : (choice : Choice) (lands : ℕ → Bool) (keeps_length after : Bool) → OneFault old new
      → new.card ≡ reset lands keeps_length (if after then asked_for choice old.lines size old.card else old.card)
      → got ≡ Received.Nothing
      → ReadStep old size got block new
