-- The lines of a trace, as `mmc_bus` prints them.
use Rattle.std.specs.Prelude.{◌&&◌, ◌==◌, ◌∷◌, List, None, Option, Some, [], codes, if◌then◌else◌, length, option_and_then}
use Rattle.std.specs.Prelude.{option_map, ℕ}
use Rattle.std.specs.Str.{bytes_eq}
use Rattle.card_text.specs.CardLines.{choice_of}
use Rattle.card_text.specs.Hexadecimal.{bytes_of}
use Rattle.card_text.specs.Numbers.{number_of}
use Rattle.mmc_card.specs.declared.exchange.DataIn.{DataIn}
use Rattle.mmc_card.specs.declared.exchange.DataIn.TheVariants as Received
use Rattle.mmc_card.specs.declared.exchange.DataOut.{DataOut}
use Rattle.mmc_card.specs.declared.exchange.DataOut.TheVariants as Sent
use Rattle.mmc_card.specs.declared.exchange.Exchange.{Exchange}
use Rattle.mmc_card.specs.declared.exchange.Exchange.TheVariants.{Busy, Command, In, Out}
use Rattle.mmc_card.specs.declared.exchange.Reply.{Reply}
use Rattle.mmc_card.specs.declared.exchange.Reply.TheVariants.{Long, Short, Silent}
use Rattle.mmc_card.specs.declared.exchange.Want.{Want}
use Rattle.mmc_card.specs.declared.exchange.Want.TheVariants as Wanted

-- nothing came, or so many bytes
unfoldable pub reply_of : List ℕ → Option Reply
reply_of text =
    if bytes_eq text (codes "none") then Some Silent
    else (if length text == 12 then option_map (λ bytes. Short bytes) (bytes_of 6 text)
    else option_map (λ bytes. Long bytes) (bytes_of 17 text))

-- what was wanted isn't printed: it is taken for what came
abbrev pub want_of : Reply → Want
want_of Silent = Wanted.Nothing
want_of (Short bytes) = Wanted.Short
want_of (Long bytes) = Wanted.Long

unfoldable pub received_of : List ℕ → Option DataIn
received_of text =
    if bytes_eq text (codes "good") then Some Received.Good
    else (if bytes_eq text (codes "bad") then Some Received.Bad
    else (if bytes_eq text (codes "nothing") then Some Received.Nothing else None))

unfoldable pub sent_of : List ℕ → Option DataOut
sent_of text =
    if bytes_eq text (codes "accepted") then Some Sent.Accepted
    else (if bytes_eq text (codes "rejected") then Some Sent.Rejected
    else (if bytes_eq text (codes "nothing") then Some Sent.Nothing else None))

-- a block that was written, or a poll
unfoldable pub ended_of : List ℕ → List ℕ → Option Exchange
ended_of key end =
    if bytes_eq key (codes "out") then option_map (λ got. Out got) (sent_of end)
    else (if bytes_eq key (codes "busy") then option_map (λ yes. Busy yes) (choice_of end) else None)

abbrev pub command_by : List ℕ → Reply → Exchange
command_by frame reply = Command frame (want_of reply) reply

unfoldable pub command_of : List ℕ → List ℕ → Option Exchange
command_of frame text =
    option_and_then (λ bytes. option_map (λ reply. command_by bytes reply) (reply_of text)) (bytes_of 6 frame)

-- the exchange that the words of a line say
unfoldable pub exchange_of : List (List ℕ) → Option Exchange
exchange_of (key ∷ end ∷ []) = ended_of key end
exchange_of (key ∷ len ∷ got ∷ []) =
    if bytes_eq key (codes "in")
    then option_and_then (λ n. option_map (λ came. In n came) (received_of got)) (number_of len)
    else None
exchange_of (key ∷ frame ∷ word ∷ text ∷ []) =
    if bytes_eq key (codes "cmd") && bytes_eq word (codes "rsp") then command_of frame text else None
exchange_of others = None
