-- What is said of files in which nothing is wrong.
use Rattle.std.specs.Prelude.{◌++◌, ◌∷◌, ◌≡◌, Bool, List, None, Option, Some, [], codes, false, if◌then◌else◌, nat_lt, true, ℕ}
use Rattle.std.specs.Fmt.{decimal}
use Rattle.mmc_frame.specs.declared.kind.Kind.{Kind}
use Rattle.mmc_card.specs.Card.{Card}
use Rattle.mmc_card.specs.Made.{is_mmc}
use Rattle.mmc_card.specs.declared.exchange.Lines.{Lines}
use Rattle.mmc_card.specs.declared.exchange.Timing.TheVariants.{Default}
use Rattle.mmc_card.specs.declared.exchange.Width.TheVariants.{One}
use Rattle.mmc_card_rows.specs.FaultErrors.{are_of_execution}
use Rattle.mmc_card_rows.specs.declared.delays.Delays.{Delays}
use Rattle.mmc_card_sim.specs.FaultyExchanges.{fits_command, fits_poll, fits_read, fits_time, fits_write}
use Rattle.mmc_card_sim.specs.FlippedReplies.{is_flip}
use Rattle.mmc_card_sim.specs.declared.fault.Fault.{Fault as CardFault}
use Rattle.mmc_card_sim.specs.declared.fault.Fault.TheVariants.{FailEarly, FailSwitch, FailSwitchLate, FailUnseen, FailWith}
use Rattle.mmc_card_sim.specs.declared.fault.Fault.TheVariants.{FindError, FlipCommand, FlipReply, LoseFailedSwitch, ShowError}
use Rattle.mmc_card_sim.specs.declared.spec.TheConstants.{MAX_SECTORS}
use Rattle.mmc_switch.specs.declared.info.Info.{Info}
use Rattle.mmc_block.specs.Refusal.{first_refusal}
use Rattle.mmc_block.specs.declared.refused.Refused.{Refused}
use Rattle.card_text.specs.CardLines.{card_line_of}
use Rattle.card_text.specs.Output.{refused_text}
use Rattle.card_text.specs.Script.{line_of}
use Rattle.card_text.specs.declared.card_line.CardLine.{CardLine}
use Rattle.card_text.specs.declared.card_line.CardLine.TheVariants.{Fault}
use Rattle.card_text.specs.declared.event.ScriptEvent.{ScriptEvent}
use Rattle.card_text.specs.declared.event.ScriptEvent.TheVariants.{Submit}
use Rattle.card_text.specs.declared.text_line.Line.{Line}
use Rattle.card_text.specs.declared.text_line.Line.TheVariants.{Says}
use Rattle.card_check.specs.ByLines.{by_lines}

-- Of the size.

-- of a card that `nbd` serves and `serve` doesn't
unfoldable pub size_line : ℕ → List ℕ
size_line sectors =
    codes "note: the partitions have " ++ (decimal sectors ++ (codes " sectors together, and serve takes at most "
    ++ (decimal MAX_SECTORS ++ (10 ∷ []))))

abbrev pub size_note : ℕ → List ℕ
size_note sectors = if nat_lt MAX_SECTORS sectors then size_line sectors else []

-- Of the requests of a script.

-- what every host has: one line at default speed
abbrev pub least_lines : Lines
least_lines = record { width = One; timing = Default }

unfoldable pub note_front : ℕ → List ℕ
note_front number = codes "note: line " ++ (decimal number ++ codes ": ")

-- note: line N: client C refused NO NAME
abbrev pub refused_note : ℕ → ℕ → Option Refused → List ℕ
refused_note number client None = []
refused_note number client (Some refused) = note_front number ++ refused_text client refused

-- where a device for which nothing waits refuses the request
abbrev pub event_note : Info → ℕ → ScriptEvent → List ℕ
event_note info number (Submit client request) = refused_note number client (first_refusal info 0 0 request)
event_note info number event = []

abbrev pub said_note : Info → ℕ → Line ScriptEvent → List ℕ
said_note info number (Says event) = event_note info number event
said_note info number said = []

abbrev pub request_note : Info → ℕ → List ℕ → List ℕ
request_note info number text = said_note info number (line_of text)

abbrev pub request_notes : Info → List (List ℕ) → List ℕ
request_notes info all = by_lines (request_note info) 1 all

-- Of planned faults.

-- The fault fits no exchange of a card of this kind.
pub record FitsNothing (kind : Kind) (fault : CardFault) : Type 0 where
  pub command : (delays : Delays) (card : Card) (frame : List ℕ) → card.made.kind ≡ kind
      → fits_command (Some fault) delays card frame ≡ false
  pub read : (card : Card) (lines : Lines) (size : ℕ) → fits_read (Some fault) card lines size ≡ false
  pub write : (card : Card) (lines : Lines) → fits_write (Some fault) card lines ≡ false
  pub poll : (card : Card) → fits_poll (Some fault) card ≡ false
  pub time : (card : Card) → fits_time (Some fault) card ≡ false

-- It may fit one: a switch of a byte is an eMMC device's, positions are those of a frame, and bits are errors of programming.
abbrev pub can_fall : Kind → CardFault → Bool
can_fall kind FailSwitch = is_mmc kind
can_fall kind FailSwitchLate = is_mmc kind
can_fall kind LoseFailedSwitch = is_mmc kind
can_fall kind (FlipCommand flips) = is_flip flips 48
can_fall kind (FlipReply flips) = is_flip flips 136
can_fall kind (ShowError bits) = are_of_execution bits
can_fall kind (FindError bits) = are_of_execution bits
can_fall kind (FailWith outcome bits) = are_of_execution bits
can_fall kind (FailEarly outcome bits) = are_of_execution bits
can_fall kind (FailUnseen outcome bits) = are_of_execution bits
can_fall kind fault = true

-- why it can't
abbrev pub unfit_words : CardFault → List ℕ
unfit_words (FlipCommand flips) = codes "a position is past the frame, or the same one stands twice"
unfit_words (FlipReply flips) = codes "a position is past the frame, or the same one stands twice"
unfit_words (FailWith outcome bits) = codes "these bits aren't errors of programming"
unfit_words (FailEarly outcome bits) = codes "these bits aren't errors of programming"
unfit_words (FailUnseen outcome bits) = codes "these bits aren't errors of programming"
unfit_words (ShowError bits) = codes "these bits aren't errors of execution"
unfit_words (FindError bits) = codes "these bits aren't errors of execution"
unfit_words fault = codes "an SD card has no CMD6 that writes a byte"

unfoldable pub unfit_line : ℕ → List ℕ → List ℕ
unfit_line number words =
    codes "note: card line " ++ (decimal number ++ (codes ": the fault can't fall: " ++ (words ++ (10 ∷ []))))

-- note: card line N: the fault can't fall: WHY
abbrev pub planned_note : Kind → ℕ → Option CardFault → List ℕ
planned_note kind number None = []
planned_note kind number (Some fault) = if can_fall kind fault then [] else unfit_line number (unfit_words fault)

abbrev pub planned_in : Line CardLine → Option CardFault
planned_in (Says (Fault exchange fault)) = Some fault
planned_in said = None

abbrev pub fault_note : Kind → ℕ → List ℕ → List ℕ
fault_note kind number text = planned_note kind number (planned_in (card_line_of text))

abbrev pub fault_notes : Kind → List (List ℕ) → List ℕ
fault_notes kind all = by_lines (fault_note kind) 1 all
