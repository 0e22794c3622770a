-- Which answer of a list an exchange gets, and the answers that are left. An exchange uses up the next answer if it is
-- of its kind; otherwise nothing comes, and every answer is left.
use Rattle.std.specs.Prelude.{◌≡◌, ◌<◌, ℕ, Bool, false, List, [], ◌∷◌, length, slice_index, slice_index_or}
use Rattle.mmc_card.specs.declared.exchange.DataIn.{DataIn}
use Rattle.mmc_card.specs.declared.exchange.DataIn.TheVariants as Received
use Rattle.mmc_card.specs.declared.exchange.DataOut.{DataOut}
use Rattle.mmc_card.specs.declared.exchange.DataOut.TheVariants as Sent
use Rattle.mmc_card.specs.declared.exchange.Reply.{Reply}
use Rattle.mmc_card.specs.declared.exchange.Reply.TheVariants.{Silent}
use Rattle.mmc_bus.specs.declared.scripted.BusAnswer.{BusAnswer}
use Rattle.mmc_bus.specs.declared.scripted.BusAnswer.TheVariants.{Command, In, Out, Busy}

abbrev pub RepliesNext : List BusAnswer → Reply → List BusAnswer → Type 0
RepliesNext [] reply left = (reply ≡ Silent) × (left ≡ [])
RepliesNext (Command ready ∷ answers) reply left = (reply ≡ ready) × (left ≡ answers)
RepliesNext (other ∷ answers) reply left = (reply ≡ Silent) × (left ≡ other ∷ answers)

-- the bytes, cut or filled with 00h to the buffer
abbrev pub IsFilled : List ℕ → List ℕ → Type 0
IsFilled bytes buffer = (i : ℕ) → i < length buffer → slice_index buffer i ≡ slice_index_or bytes i 0

abbrev pub ReadsNext : List BusAnswer → DataIn → List ℕ → List BusAnswer → Type 0
ReadsNext [] got buffer left = (got ≡ Received.Nothing) × (left ≡ [])
ReadsNext (In ready bytes ∷ answers) got buffer left = (got ≡ ready) × IsFilled bytes buffer × (left ≡ answers)
ReadsNext (other ∷ answers) got buffer left = (got ≡ Received.Nothing) × (left ≡ other ∷ answers)

abbrev pub WritesNext : List BusAnswer → DataOut → List BusAnswer → Type 0
WritesNext [] got left = (got ≡ Sent.Nothing) × (left ≡ [])
WritesNext (Out ready ∷ answers) got left = (got ≡ ready) × (left ≡ answers)
WritesNext (other ∷ answers) got left = (got ≡ Sent.Nothing) × (left ≡ other ∷ answers)

abbrev pub PollsNext : List BusAnswer → Bool → List BusAnswer → Type 0
PollsNext [] said left = (said ≡ false) × (left ≡ [])
PollsNext (Busy ready ∷ answers) said left = (said ≡ ready) × (left ≡ answers)
PollsNext (other ∷ answers) said left = (said ≡ false) × (left ≡ other ∷ answers)
