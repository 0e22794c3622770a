-- The printed text of exchanges, a line each.
use Rattle.std.specs.Prelude.{ℕ, Bool, true, false, List, [], ◌∷◌, ◌++◌, codes}
use Rattle.std.specs.Fmt.{decimal}
use Rattle.text_out.specs.Hex.{hex_text}
use Rattle.mmc_card.specs.declared.exchange.Reply.{Reply}
use Rattle.mmc_card.specs.declared.exchange.Reply.TheVariants.{Silent, Short, Long}
use Rattle.mmc_card.specs.declared.exchange.DataIn.{DataIn}
use Rattle.mmc_card.specs.declared.exchange.DataIn.TheVariants as Received
use Rattle.mmc_card.specs.declared.exchange.DataOut.{DataOut}
use Rattle.mmc_card.specs.declared.exchange.DataOut.TheVariants as Sent
use Rattle.mmc_card.specs.declared.exchange.Exchange.{Exchange}
use Rattle.mmc_card.specs.declared.exchange.Exchange.TheVariants.{Command, In, Out, Busy}

abbrev pub reply_text : Reply → List ℕ
reply_text Silent = codes "none"
reply_text (Short frame) = hex_text frame
reply_text (Long frame) = hex_text frame

abbrev pub received_text : DataIn → List ℕ
received_text Received.Good = codes "good"
received_text Received.Bad = codes "bad"
received_text Received.Nothing = codes "nothing"

abbrev pub sent_text : DataOut → List ℕ
sent_text Sent.Accepted = codes "accepted"
sent_text Sent.Rejected = codes "rejected"
sent_text Sent.Nothing = codes "nothing"

abbrev pub poll_text : Bool → List ℕ
poll_text true = codes "yes"
poll_text false = codes "no"

-- a line, with its line feed
unfoldable pub exchange_text : Exchange → List ℕ
exchange_text (Command frame want reply) =
    codes "cmd " ++ (hex_text frame ++ (codes " rsp " ++ (reply_text reply ++ (10 ∷ []))))
exchange_text (In len got) = codes "in " ++ (decimal len ++ (codes " " ++ (received_text got ++ (10 ∷ []))))
exchange_text (Out got) = codes "out " ++ (sent_text got ++ (10 ∷ []))
exchange_text (Busy said) = codes "busy " ++ (poll_text said ++ (10 ∷ []))

-- the lines of these exchanges
abbrev pub lines_text : List Exchange → List ℕ
lines_text [] = []
lines_text (exchange ∷ exchanges) = exchange_text exchange ++ lines_text exchanges
