-- The arrow of an exchange, by its name in the picture.
use Rattle.std.specs.Prelude.{ℕ, Bool, false, true, List, [], codes, Option, None, Some}
use Rattle.mmc_card_sim.specs.declared.fault.Fault.TheVariants.{LoseCommand}
use Rattle.mmc_card.specs.declared.exchange.DataIn.{DataIn}
use Rattle.mmc_card.specs.declared.exchange.DataIn.TheVariants as Received
use Rattle.mmc_card.specs.declared.exchange.DataOut.{DataOut}
use Rattle.mmc_card.specs.declared.exchange.DataOut.TheVariants as Sent
use Rattle.mmc_card.specs.declared.exchange.Exchange.{Exchange}
use Rattle.mmc_card.specs.declared.exchange.Exchange.TheVariants.{Busy, Command, In, Out}
use Rattle.mmc_card.specs.declared.exchange.Reply.{Reply}
use Rattle.mmc_card.specs.declared.exchange.Reply.TheVariants.{Long, Short, Silent}
use Rattle.mmc_card.specs.declared.exchange.Want.{Want}
use Rattle.mmc_card.specs.declared.exchange.Want.TheVariants as Wanted
use Rattle.mmc_card_sim.specs.declared.fault.Fault.{Fault}
use Rattle.card_explain.specs.declared.line.Note.{Note}

abbrev pub is_lost_by : Fault → Bool → Bool
is_lost_by LoseCommand fell = fell
is_lost_by fault fell = false

-- a command was lost on its way to the card
abbrev pub is_unseen : Option Note → Bool
is_unseen None = false
is_unseen (Some note) = is_lost_by note.fault note.fell

abbrev pub command_arrow : Bool → List ℕ
command_arrow true = codes "<use href='#unseen'/>"
command_arrow false = codes "<use href='#command'/>"

-- a response: none where none is wanted, or the card hasn't seen the command
abbrev pub silence_arrow : Bool → Want → List ℕ
silence_arrow true want = []
silence_arrow false Wanted.Nothing = []
silence_arrow false Wanted.Short = codes "<use href='#lost'/>"
silence_arrow false Wanted.Long = codes "<use href='#lost'/>"

abbrev pub reply_arrow : Bool → Want → Reply → List ℕ
reply_arrow is_unseen want Silent = silence_arrow is_unseen want
reply_arrow is_unseen want (Short frame) = codes "<use href='#response'/>"
reply_arrow is_unseen want (Long frame) = codes "<use href='#response'/>"

abbrev pub received_arrow : DataIn → List ℕ
received_arrow Received.Good = codes "<use href='#in'/>"
received_arrow Received.Bad = codes "<use href='#bad'/>"
received_arrow Received.Nothing = codes "<use href='#missing'/>"

abbrev pub sent_arrow : DataOut → List ℕ
sent_arrow Sent.Accepted = codes "<use href='#out'/>"
sent_arrow Sent.Rejected = codes "<use href='#rejected'/>"
sent_arrow Sent.Nothing = codes "<use href='#unsaid'/>"

-- a block or a poll
abbrev pub data_arrow : Exchange → List ℕ
data_arrow (In len got) = received_arrow got
data_arrow (Out got) = sent_arrow got
data_arrow (Busy said) = codes "<use href='#poll'/>"
data_arrow (Command frame want reply) = []
