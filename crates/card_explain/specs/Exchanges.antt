-- Exchanges in words.
use Rattle.std.specs.Prelude.{ℕ, ◌&&◌, ◌==◌, if◌then◌else◌, not, Bool, false, true, List, ◌++◌, codes, Option, None, Some, Result, Ok, Err}
use Rattle.mmc_frame.specs.Field.{field}
use Rattle.mmc_frame.specs.Frame.{command_in, response_in}
use Rattle.mmc_frame.specs.declared.commands.TheConstants as Index
use Rattle.mmc_frame.specs.declared.fault.FrameFault.{FrameFault}
use Rattle.mmc_card.specs.Rows.{command_of}
use Rattle.mmc_card.specs.declared.command.Command.{Command as CardCommand}
use Rattle.mmc_card.specs.declared.command.Command.TheVariants.{SendIfCond}
use Rattle.mmc_frame.specs.declared.kind.Kind.{Kind}
use Rattle.mmc_frame.specs.declared.kind.Kind.TheVariants.{Mmc, Sd}
use Rattle.mmc_card.specs.declared.exchange.DataIn.{DataIn}
use Rattle.mmc_card.specs.declared.exchange.DataIn.TheVariants as Received
use Rattle.mmc_card.specs.declared.exchange.DataOut.{DataOut}
use Rattle.mmc_card.specs.declared.exchange.DataOut.TheVariants as Sent
use Rattle.mmc_card.specs.declared.exchange.Exchange.{Exchange}
use Rattle.mmc_card.specs.declared.exchange.Exchange.TheVariants.{Busy, Command, In, Out}
use Rattle.mmc_card.specs.declared.exchange.Reply.{Reply}
use Rattle.mmc_card.specs.declared.exchange.Reply.TheVariants.{Short}
use Rattle.card_explain.specs.Arguments.{argument_words}
use Rattle.card_explain.specs.Commands.{command_words}
use Rattle.card_explain.specs.Responses.{reply_words}
use Rattle.card_explain.specs.declared.exchange.KnownCard.{KnownCard}

abbrev pub received_words : DataIn → List ℕ
received_words Received.Good = codes "the block came"
received_words Received.Bad = codes "a block came whose check doesn't fit"
received_words Received.Nothing = codes "no block came"

abbrev pub sent_words : DataOut → List ℕ
sent_words Sent.Accepted = codes "the card has accepted the block"
sent_words Sent.Rejected = codes "the card has rejected the block: its check didn't fit"
sent_words Sent.Nothing = codes "the card didn't say whether it accepts the block"

abbrev pub poll_words : Bool → List ℕ
poll_words true = codes "the card is busy"
poll_words false = codes "the card isn't busy"

-- bit 5, APP_CMD
abbrev pub has_app_cmd : Result ℕ FrameFault → Bool
has_app_cmd (Ok status) = field 5 5 status == 1
has_app_cmd (Err fault) = false

-- CMD55 was answered by an R1 that has APP_CMD, so the next command is an application command
abbrev pub announces : Exchange → Bool
announces (Command frame want (Short response)) = has_app_cmd (response_in response Index.APP_CMD)
announces exchange = false

-- The command that a host means: an index of eMMC, but CMD8 with an argument is SD's, which eMMC's has not.
abbrev pub meant : Kind → Bool → ℕ → ℕ → CardCommand
meant Mmc is_app index argument =
    if index == Index.SEND_IF_COND && not (argument == 0) then SendIfCond else command_of Mmc is_app index
meant Sd is_app index argument = command_of Sd is_app index

-- a command: its number, its name and what it asks for, and what its response tells
unfoldable pub known_words : KnownCard → CardCommand → Bool → ℕ → ℕ → Reply → List ℕ
known_words card command is_app index argument reply =
    command_words card.kind command is_app index
    ++ (argument_words card.addressing command argument
    ++ (codes "; " ++ reply_words card.kind command index reply))

abbrev pub asked_by : KnownCard → Bool → Option (ℕ × ℕ) → Reply → List ℕ
asked_by card is_app None reply = codes "no sound command"
asked_by card is_app (Some (index, argument)) reply =
    known_words card (meant card.kind is_app index argument) is_app index argument reply

-- a command with what came back of it
unfoldable pub asked_words : KnownCard → Bool → List ℕ → Reply → List ℕ
asked_words card is_app frame reply = asked_by card is_app (command_in frame) reply

unfoldable pub card_explain : KnownCard → Bool → Exchange → List ℕ
card_explain card is_app (Command frame want reply) = asked_words card is_app frame reply
card_explain card is_app (In len got) = received_words got
card_explain card is_app (Out got) = sent_words got
card_explain card is_app (Busy said) = poll_words said
