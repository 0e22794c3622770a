-- What the card in memory does in an exchange for which a fault may be planned: the fault falls where it fits, and
-- otherwise the exchange is a faithful step.
use Rattle.std.specs.Prelude.{◌&&◌, ◌*◌, ◌+◌, ◌/◌, ◌^◌, ◌||◌, ◌≡◌, Bool, List, Option, Some, false}
use Rattle.std.specs.Prelude.{None, if◌then◌else◌, length, nat_le, nat_lt, not, true, ℕ}
use Rattle.mmc_frame.specs.Frame.{command_in}
use Rattle.mmc_frame.specs.declared.card_state.State.TheVariants.{Prg, Rcv, Tran}
use Rattle.mmc_card.specs.declared.exchange.DataIn.{DataIn}
use Rattle.mmc_card.specs.declared.exchange.DataIn.TheVariants as Received
use Rattle.mmc_card.specs.declared.exchange.DataOut.{DataOut}
use Rattle.mmc_card.specs.declared.exchange.DataOut.TheVariants as Sent
use Rattle.mmc_card.specs.declared.exchange.Lines.{Lines}
use Rattle.mmc_card.specs.declared.exchange.Reply.{Reply}
use Rattle.mmc_card.specs.declared.exchange.Reply.TheVariants as Came
use Rattle.mmc_card.specs.Blocks.{accepted, can_accept, can_send, offered, polled_once, programmed, rejected, sent}
use Rattle.mmc_card.specs.Blocks.{fallen_early, fallen_short, next_written, waited}
use Rattle.mmc_card.specs.Card.{Card, is_in, patience, stored}
use Rattle.mmc_card.specs.CardAnswer.{CardAnswer, Choice, Silent, garbled, left_with, raised, reset}
use Rattle.mmc_card.specs.ErrorBits.{card_ecc_failed, general_error, wp_violation}
use Rattle.mmc_card.specs.Faults.{Spells, is_switch_frame}
use Rattle.mmc_card.specs.Rows.{answered, reached}
use Rattle.mmc_card.specs.RowsSwitch.{switch_row}
use Rattle.mmc_card.specs.declared.command.Command.TheVariants.{Switch}
use Rattle.mmc_card_rows.specs.Answer.{said_as}
use Rattle.mmc_card_sim.specs.FlippedReplies.{IsHeardFlipped, can_flip, is_flip}
use Rattle.mmc_card_rows.specs.FaultErrors.{are_of_execution, error_bit}
use Rattle.mmc_card_rows.specs.Chip.{Sends, choice_of, command_choice, finding, passed}
use Rattle.mmc_card_rows.specs.Finding.{can_find}
use Rattle.mmc_card_rows.specs.Store.{lands_by}
use Rattle.mmc_card_rows.specs.Transfers.{is_write_frame}
use Rattle.mmc_card_rows.specs.declared.delays.Delays.{Delays}
use Rattle.mmc_card_rows.specs.declared.fault.CommandError.{CommandError}
use Rattle.mmc_card_sim.specs.declared.fault.Fault.{Fault}
use Rattle.mmc_card_sim.specs.declared.fault.Fault.TheVariants.{BadBlock, Brownout, Busy, Fail, FailWith, FlipCommand}
use Rattle.mmc_card_sim.specs.declared.fault.Fault.TheVariants.{FailSwitch, FailSwitchLate, FlipReply, LeaveOver}
use Rattle.mmc_card_sim.specs.declared.fault.Fault.TheVariants.{LoseCommand, LoseReply, LoseStatus, NoBlock, ReadError}
use Rattle.mmc_card_sim.specs.declared.fault.Fault.TheVariants.{FailEarly, FailUnseen, FindError, FindProtection, LoseBlock, LoseFailedSwitch}
use Rattle.mmc_card_sim.specs.declared.fault.Fault.TheVariants.{Reject, RejectAll, RejectBusy, ShowError}
use Rattle.mmc_card_rows.specs.declared.fault.Outcome.TheVariants.{New}

-- Commands.

-- the faithful step of the card with this frame, and its answer as it is sent
abbrev pub heeded : Delays → Card → List ℕ → Card × CardAnswer
heeded delays card frame =
    let step = answered (command_choice delays card) card (command_in frame) in (step.0, said_as delays step.1)

-- a switch that fails, which is said late or at once
abbrev pub failing : Bool → Card → Card × CardAnswer
failing says_late card = switch_row says_late (reached (choice_of false) Switch card) None

-- the faithful step of the card that has this error left over
abbrev pub heeded_with : CommandError → Delays → Card → List ℕ → Card × CardAnswer
heeded_with error delays card frame = heeded delays (left_with (error_bit error) card) frame

-- and of the card that has these errors to show besides, by their places in a status
abbrev pub heeded_raised : ℕ → Delays → Card → List ℕ → Card × CardAnswer
heeded_raised bits delays card frame = heeded delays (raised (bits / 2 ^ 13) card) frame

-- of the card whose command finds these errors, by their places in a status
abbrev pub heeded_finding : ℕ → Delays → Card → List ℕ → Card × CardAnswer
heeded_finding bits delays card frame = heeded (finding bits delays) card frame

-- WP_VIOLATION, of a write that finds its sectors protected
abbrev pub protection : ℕ
protection = 2 ^ 13 * wp_violation

-- what the card does with this frame where this fault falls
abbrev pub done_in : Option Fault → Delays → Card → List ℕ → Card × CardAnswer
done_in (Some FailSwitch) delays card frame = failing false card
done_in (Some FailSwitchLate) delays card frame = failing true card
done_in (Some FindProtection) delays card frame = heeded_finding protection delays card frame
done_in (Some (FindError bits)) delays card frame = heeded_finding bits delays card frame
done_in (Some (LeaveOver error)) delays card frame = heeded_with error delays card frame
done_in (Some (ShowError bits)) delays card frame = heeded_raised bits delays card frame
done_in _ delays card frame = heeded delays card frame

abbrev pub is_answer : CardAnswer → Bool
is_answer Silent = false
is_answer _ = true

-- the fault fits a command
abbrev pub fits_command : Option Fault → Delays → Card → List ℕ → Bool
fits_command (Some LoseCommand) delays card frame = true
fits_command (Some (FlipCommand flips)) delays card frame = is_flip flips 48
fits_command (Some LoseReply) delays card frame = is_answer (heeded delays card frame).1
fits_command (Some (FlipReply flips)) delays card frame = can_flip flips (heeded delays card frame).1
fits_command (Some FailSwitch) delays card frame = is_switch_frame card (command_in frame)
fits_command (Some FailSwitchLate) delays card frame = is_switch_frame card (command_in frame)
fits_command (Some LoseFailedSwitch) delays card frame = is_switch_frame card (command_in frame)
fits_command (Some FindProtection) delays card frame = is_write_frame card (command_in frame) && is_in card.state Tran
fits_command (Some (LeaveOver error)) delays card frame = true
fits_command (Some (ShowError bits)) delays card frame = are_of_execution bits && can_find card (command_in frame)
fits_command (Some (FindError bits)) delays card frame = are_of_execution bits && can_find card (command_in frame)
fits_command (Some (Brownout outcome)) delays card frame = true
fits_command _ delays card frame = false

-- the card after it
abbrev pub after_command : Option Fault → Delays → Card → List ℕ → Card
after_command (Some (FlipCommand flips)) delays card frame = garbled false card
after_command (Some LoseReply) delays card frame = (heeded delays card frame).0
after_command (Some (FlipReply flips)) delays card frame = (heeded delays card frame).0
after_command (Some FailSwitch) delays card frame = (failing false card).0
after_command (Some FailSwitchLate) delays card frame = (failing true card).0
after_command (Some LoseFailedSwitch) delays card frame = (failing false card).0
after_command (Some FindProtection) delays card frame = (heeded_finding protection delays card frame).0
after_command (Some (FindError bits)) delays card frame = (heeded_finding bits delays card frame).0
after_command (Some (LeaveOver error)) delays card frame = (heeded_with error delays card frame).0
after_command (Some (ShowError bits)) delays card frame = (heeded_raised bits delays card frame).0
after_command (Some (Brownout outcome)) delays card frame = reset (lands_by outcome) delays.keeps_length card
after_command _ delays card frame = card

-- what is heard of the answer: nothing, all but the bits that are flipped, or all
abbrev pub IsHeard : Option Fault → CardAnswer → Reply → Type 0
IsHeard (Some (FlipReply flips)) answer reply = IsHeardFlipped flips answer reply
IsHeard (Some FailSwitch) answer reply = Spells answer reply
IsHeard (Some FailSwitchLate) answer reply = Spells answer reply
IsHeard (Some FindProtection) answer reply = Spells answer reply
IsHeard (Some (FindError bits)) answer reply = Spells answer reply
IsHeard (Some (LeaveOver error)) answer reply = Spells answer reply
IsHeard (Some (ShowError bits)) answer reply = Spells answer reply
IsHeard _ answer reply = reply ≡ Came.Silent

pub record Commands (fault : Option Fault) (delays : Delays) (old : Card) (frame : List ℕ) (reply : Reply)
    (fell : Bool) (new : Card) : Type 0 where
  pub fell_is : fell ≡ fits_command fault delays old frame
  pub fault_card : fell ≡ true → new ≡ after_command fault delays old frame
  pub fault_reply : fell ≡ true → IsHeard fault (done_in fault delays old frame).1 reply
  pub card : fell ≡ false → new ≡ (heeded delays old frame).0
  pub answer : fell ≡ false → Spells (heeded delays old frame).1 reply

-- Blocks that the host reads.

abbrev pub fits_read : Option Fault → Card → Lines → ℕ → Bool
fits_read (Some BadBlock) card lines size = can_send lines size card
fits_read (Some NoBlock) card lines size = can_send lines size card
fits_read (Some ReadError) card lines size = can_send lines size card
fits_read (Some (Brownout outcome)) card lines size = true
fits_read _ card lines size = false

abbrev pub after_read : Option Fault → Delays → Card → Card
after_read (Some ReadError) delays card = raised card_ecc_failed card
after_read (Some (Brownout outcome)) delays card = reset (lands_by outcome) delays.keeps_length card
after_read _ delays card = sent (choice_of false) card

-- what comes of the block
abbrev pub read_in : Option Fault → DataIn
read_in (Some BadBlock) = Received.Bad
read_in _ = Received.Nothing

-- where the card sends a block, it comes as this
pub record Spoils (comes : DataIn) (old : Card) (lines : Lines) (size : ℕ) (got : DataIn) (block : List ℕ) (fell : Bool)
    (new : Card) : Type 0 where
  pub fell_is : fell ≡ can_send lines size old
  pub fault_card : fell ≡ true → new ≡ sent (choice_of false) old
  pub fault_got : fell ≡ true → got ≡ comes
  pub sends : fell ≡ false → Sends lines old new size got block

pub record Reads (fault : Option Fault) (delays : Delays) (old : Card) (lines : Lines) (size : ℕ) (got : DataIn) (block : List ℕ)
    (fell : Bool) (new : Card) : Type 0 where
  pub fell_is : fell ≡ fits_read fault old lines size
  pub fault_card : fell ≡ true → new ≡ after_read fault delays old
  pub fault_got : fell ≡ true → got ≡ read_in fault
  pub sends : fell ≡ false → Sends lines old new size got block

-- Blocks that the host writes.

abbrev pub fits_write : Option Fault → Card → Lines → Bool
fits_write (Some LoseBlock) card lines = can_accept lines card
fits_write (Some Reject) card lines = can_accept lines card
fits_write (Some RejectBusy) card lines = can_accept lines card
fits_write (Some RejectAll) card lines = can_accept lines card
fits_write (Some (LoseStatus outcome)) card lines = can_accept lines card
fits_write (Some (Brownout outcome)) card lines = true
fits_write _ card lines = false

abbrev pub after_write : Option Fault → Delays → Card → List ℕ → Card
after_write (Some (LoseStatus New)) delays card block = accepted block card
after_write (Some (Brownout outcome)) delays card block = reset (lands_by outcome) delays.keeps_length card
after_write (Some LoseBlock) delays card block = card
after_write (Some RejectBusy) delays card block = rejected false true card
after_write (Some RejectAll) delays card block = rejected (not card.is_single) false card
after_write _ delays card block = rejected false false card

abbrev pub written_out : Option Fault → DataOut
written_out (Some Reject) = Sent.Rejected
written_out (Some RejectBusy) = Sent.Rejected
written_out (Some RejectAll) = Sent.Rejected
written_out _ = Sent.Nothing

pub record Writes (fault : Option Fault) (delays : Delays) (old : Card) (lines : Lines) (block : List ℕ) (got : DataOut)
    (fell : Bool) (new : Card) : Type 0 where
  pub fell_is : fell ≡ fits_write fault old lines
  pub fault_card : fell ≡ true → new ≡ after_write fault delays old block
  pub fault_got : fell ≡ true → got ≡ written_out fault
  pub card : fell ≡ false → new ≡ offered lines block old
  pub got_is : fell ≡ false → got ≡ (if can_accept lines old then Sent.Accepted else Sent.Nothing)

-- Polls.

-- the programming of a write, erase or trim may fail, or in rcv that of an earlier block, at the poll that ends its busy time
abbrev pub may_fail : Card → Bool
may_fail card = is_in card.state Prg && not card.is_switching

abbrev pub may_fall_short : Card → Bool
may_fall_short card =
    is_in card.state Rcv
    && (card.is_busy && nat_le (next_written card) (length (stored card card.part)))

abbrev pub can_fail_with : ℕ → Card → Bool
can_fail_with bits card = are_of_execution bits && (may_fail card || may_fall_short card)

-- it may fail so early that the card is busy still
abbrev pub can_fail_early : ℕ → Card → Bool
can_fail_early bits card = are_of_execution bits && (may_fail card && card.is_busy)

abbrev pub failed : (ℕ → Bool) → Card → Card
failed lands card = if is_in card.state Prg then programmed lands card else fallen_short lands card

abbrev pub is_busy_fault : Option Fault → Bool
is_busy_fault (Some Busy) = true
is_busy_fault _ = false

-- the card says that it is busy
abbrev pub says_yes : Option Fault → Bool
says_yes (Some Busy) = true
says_yes (Some (FailEarly outcome bits)) = true
says_yes _ = false

-- The card is slow at the first polls of a busy time; a planned yes is one of them while it is no fault.
abbrev pub is_slow_at : Option Fault → Delays → Card → Bool
is_slow_at fault delays card = nat_lt card.polled delays.busy || (is_busy_fault fault && nat_lt card.polled patience)

abbrev pub poll_choice : Option Fault → Delays → Card → Choice
poll_choice fault delays card = choice_of (is_slow_at fault delays card)

abbrev pub fits_poll : Option Fault → Card → Bool
fits_poll (Some (Fail outcome)) card = may_fail card
fits_poll (Some (FailWith outcome bits)) card = can_fail_with bits card
fits_poll (Some (FailEarly outcome bits)) card = can_fail_early bits card
fits_poll (Some Busy) card = card.is_busy && nat_le patience card.polled
fits_poll (Some (Brownout outcome)) card = true
fits_poll _ card = false

abbrev pub after_poll : Option Fault → Delays → Card → Card
after_poll (Some (Fail outcome)) delays card = raised general_error (programmed (lands_by outcome) card)
after_poll (Some (FailWith outcome bits)) delays card = raised (bits / 2 ^ 13) (failed (lands_by outcome) card)
after_poll (Some (FailEarly outcome bits)) delays card =
    raised (bits / 2 ^ 13) (fallen_early (lands_by outcome) card)
after_poll (Some Busy) delays card = waited card
after_poll (Some (Brownout outcome)) delays card = reset (lands_by outcome) delays.keeps_length card
after_poll _ delays card = card

pub record Polls (fault : Option Fault) (delays : Delays) (old : Card) (said fell : Bool) (new : Card) : Type 0 where
  pub fell_is : fell ≡ fits_poll fault old
  pub fault_card : fell ≡ true → new ≡ after_poll fault delays old
  pub fault_said : fell ≡ true → said ≡ says_yes fault
  pub card : fell ≡ false → new ≡ (polled_once (poll_choice fault delays old) old).0
  pub said_is : fell ≡ false → said ≡ (polled_once (poll_choice fault delays old) old).1

-- The time before a command, and before a block that is written.

-- programming fails in it, as it may at a poll
abbrev pub fits_time : Option Fault → Card → Bool
fits_time (Some (FailUnseen outcome bits)) card = can_fail_with bits card
fits_time _ card = false

abbrev pub failed_unseen : Option Fault → Card → Card
failed_unseen (Some (FailUnseen outcome bits)) card = raised (bits / 2 ^ 13) (failed (lands_by outcome) card)
failed_unseen _ card = card

-- otherwise a card that goes on by itself has done so
abbrev pub after_time : Option Fault → Delays → Card → Card
after_time fault delays card = if fits_time fault card then failed_unseen fault card else passed delays card

-- how many faults have fallen, with one more or none
abbrev pub counted : Bool → ℕ → ℕ
counted fell faults = if fell then faults + 1 else faults
