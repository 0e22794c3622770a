-- An exchange as an object.
use Rattle.std.specs.Prelude.{◌++◌, ◌∷◌, Bool, List, None, Option, Some, [], codes, ℕ}
use Rattle.hex.specs.Hex.{encode_lower}
use Rattle.mmc_bus.specs.ExchangeText.{received_text, sent_text}
use Rattle.mmc_card.specs.declared.exchange.Exchange.{Exchange}
use Rattle.mmc_card.specs.declared.exchange.Exchange.TheVariants.{Busy, Command, In, Out}
use Rattle.mmc_card.specs.declared.exchange.Reply.TheVariants.{Long, Short, Silent}
use Rattle.serde_json.specs.Data.{Data, boolean, number, string, unsigned}
use Rattle.card_explain.specs.Exchanges.{card_explain}
use Rattle.card_explain.specs.Faults.{fault_text}
use Rattle.card_explain.specs.declared.exchange.KnownCard.{KnownCard}
use Rattle.card_explain.specs.declared.line.Note.{Note}
use Rattle.card_explain.specs.declared.settling.Phase.{Phase}
use Rattle.card_explain.specs.declared.settling.Phase.TheVariants.{Identification, Settling, Transfer}
use Rattle.card_explain.specs.declared.step.Step.{Step}
use Rattle.card_json.specs.Objects.{object_line, shown}

-- the frame of a command
abbrev pub command_of : Exchange → Option Data
command_of (Command frame want reply) = Some (string (encode_lower frame))
command_of (In len got) = None
command_of (Out got) = None
command_of (Busy said) = None

-- the response to a command, where one came
abbrev pub response_of : Exchange → Option Data
response_of (Command frame want (Short bytes)) = Some (string (encode_lower bytes))
response_of (Command frame want (Long bytes)) = Some (string (encode_lower bytes))
response_of (Command frame want Silent) = None
response_of (In len got) = None
response_of (Out got) = None
response_of (Busy said) = None

-- what became of a block that was to be read, as a trace says it
abbrev pub in_of : Exchange → Option Data
in_of (In len got) = Some (string (received_text got))
in_of (Command frame want reply) = None
in_of (Out got) = None
in_of (Busy said) = None

-- the length of a block that was to be read
abbrev pub length_of : Exchange → Option Data
length_of (In len got) = Some (number (unsigned len))
length_of (Command frame want reply) = None
length_of (Out got) = None
length_of (Busy said) = None

-- what became of a block that was written
abbrev pub out_of : Exchange → Option Data
out_of (Out got) = Some (string (sent_text got))
out_of (Command frame want reply) = None
out_of (In len got) = None
out_of (Busy said) = None

-- what a poll was answered
abbrev pub busy_of : Exchange → Option Data
busy_of (Busy said) = Some (boolean said)
busy_of (Command frame want reply) = None
busy_of (In len got) = None
busy_of (Out got) = None

-- what an exchange is, and its words
abbrev pub exchange_said : Exchange → List ℕ → List (List ℕ × Option Data)
exchange_said exchange words =
    (codes "command", command_of exchange) ∷ (codes "response", response_of exchange) ∷ (codes "in", in_of exchange)
    ∷ (codes "length", length_of exchange) ∷ (codes "out", out_of exchange) ∷ (codes "busy", busy_of exchange)
    ∷ (codes "words", Some (string (shown words))) ∷ []

abbrev pub phase_name : Phase → List ℕ
phase_name Identification = codes "identification"
phase_name Transfer = codes "transfer"
phase_name Settling = codes "settling"

-- the text of a planned fault
abbrev pub fault_text_of : Option Note → List ℕ
fault_text_of None = []
fault_text_of (Some note) = fault_text note.fault

abbrev pub fault_of : Option Note → Option Data
fault_of None = None
fault_of (Some note) = Some (string (shown (fault_text note.fault)))

-- whether the fault that was planned fell
abbrev pub fell_of : Option Note → Option Data
fell_of None = None
fell_of (Some note) = Some (boolean note.fell)

-- the number of an exchange, its phase, and the fault that was planned for it
abbrev pub step_said : Step → List (List ℕ × Option Data)
step_said step =
    (codes "exchange", Some (number (unsigned step.numbered.number))) ∷ (codes "phase", Some (string (phase_name step.phase)))
    ∷ (codes "fault", fault_of step.numbered.note) ∷ (codes "fell", fell_of step.numbered.note) ∷ []

-- the line of an exchange, in the words of `--explain`
abbrev pub exchange_line : KnownCard → Bool → Exchange → List ℕ
exchange_line card is_app exchange = object_line (exchange_said exchange (card_explain card is_app exchange))

-- the same with its number, its phase and its fault
abbrev pub step_line : KnownCard → Step → List ℕ
step_line card step =
    object_line (step_said step ++ exchange_said step.numbered.exchange (card_explain card step.is_app step.numbered.exchange))
