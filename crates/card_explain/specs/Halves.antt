-- A command and what came back of it, each for itself.
use Rattle.std.specs.Prelude.{ℕ, Bool, List, [], ◌++◌, codes, Option, None, Some}
use Rattle.mmc_frame.specs.Frame.{command_in}
use Rattle.mmc_card.specs.declared.exchange.Reply.{Reply}
use Rattle.card_explain.specs.Arguments.{argument_words}
use Rattle.card_explain.specs.Commands.{command_words}
use Rattle.card_explain.specs.Exchanges.{meant}
use Rattle.card_explain.specs.Responses.{reply_words}
use Rattle.card_explain.specs.declared.exchange.KnownCard.{KnownCard}

abbrev pub sent_by : KnownCard → Bool → Option (ℕ × ℕ) → List ℕ
sent_by card is_app None = codes "no sound command"
sent_by card is_app (Some (index, argument)) =
    command_words card.kind (meant card.kind is_app index argument) is_app index
    ++ argument_words card.addressing (meant card.kind is_app index argument) argument

-- a command: its number, its name and what it asks for
unfoldable pub command_half : KnownCard → Bool → List ℕ → List ℕ
command_half card is_app frame = sent_by card is_app (command_in frame)

abbrev pub answered_by : KnownCard → Bool → Option (ℕ × ℕ) → Reply → List ℕ
answered_by card is_app None reply = []
answered_by card is_app (Some (index, argument)) reply =
    reply_words card.kind (meant card.kind is_app index argument) index reply

-- what came back of it
unfoldable pub reply_half : KnownCard → Bool → List ℕ → Reply → List ℕ
reply_half card is_app frame reply = answered_by card is_app (command_in frame) reply
