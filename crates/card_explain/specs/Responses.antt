-- Responses in words (SD Physical Layer 6.00, section 4.9; JESD84-B51, section 6.12).
use Rattle.std.specs.Prelude.{ℕ, ◌==◌, List, [], ◌∷◌, ◌++◌, codes, if◌then◌else◌, Result, Ok, Err}
use Rattle.std.specs.Fmt.{decimal}
use Rattle.std.specs.Int.{to_be_bytes, w32}
use Rattle.text_out.specs.Hex.{hex_text}
use Rattle.mmc_frame.specs.Field.{field}
use Rattle.mmc_frame.specs.Frame.{response_in}
use Rattle.mmc_frame.specs.RegisterFrame.{ocr_in, register_in}
use Rattle.mmc_frame.specs.ResponseFields.{r6_in, r7_in}
use Rattle.mmc_frame.specs.declared.fault.FrameFault.{FrameFault}
use Rattle.mmc_frame.specs.declared.fault.FrameFault.TheVariants.{Check, FixedBits, Index}
use Rattle.mmc_frame.specs.declared.kind.Kind.{Kind}
use Rattle.mmc_frame.specs.declared.response.R6.{R6}
use Rattle.mmc_frame.specs.declared.response.R7.{R7}
use Rattle.mmc_card.specs.declared.command.Command.{Command}
use Rattle.mmc_card.specs.declared.command.Command.TheVariants.{SendCsd}
use Rattle.mmc_card.specs.declared.exchange.Reply.{Reply}
use Rattle.mmc_card.specs.declared.exchange.Reply.TheVariants.{Long, Short, Silent}
use Rattle.mmc_host.specs.Table.{response_of}
use Rattle.mmc_card.specs.declared.response.Response.{Response}
use Rattle.mmc_card.specs.declared.response.Response.TheVariants.{Nothing, R1b, R3, R6 as R6_response, R7 as R7_response}
use Rattle.card_explain.specs.Statuses.{status_words}

-- why a response is refused
abbrev pub fault_words : FrameFault → List ℕ
fault_words FixedBits = codes "a response with a wrong fixed bit"
fault_words Check = codes "a response whose check doesn't fit"
fault_words Index = codes "a response to another command"

-- what a response tells, or why it is refused
abbrev pub told_by : {A : Type 0} → (A → List ℕ) → Result A FrameFault → List ℕ
told_by words (Ok told) = words told
told_by words (Err fault) = fault_words fault

abbrev pub r1_name : Response → List ℕ
r1_name R1b = codes "R1b: "
r1_name response = codes "R1: "

-- an R1 or R1b: the card status
abbrev pub r1_words : Kind → Response → ℕ → List ℕ → List ℕ
r1_words kind response index frame =
    told_by (λ status. r1_name response ++ status_words kind status) (response_in frame index)

-- bit 31: the card has powered up
abbrev pub ocr_words : ℕ → List ℕ
ocr_words ocr = if field 31 31 ocr == 1 then codes ", powered up" else codes ", not powered up yet"

-- an R3: the OCR
abbrev pub r3_told : ℕ → List ℕ
r3_told ocr = codes "R3: OCR " ++ (hex_text (to_be_bytes w32 ocr) ++ ocr_words ocr)

abbrev pub r3_words : List ℕ → List ℕ
r3_words frame = told_by r3_told (ocr_in frame)

unfoldable pub rca_told : ℕ → List ℕ
rca_told rca = codes "R6: RCA " ++ (decimal rca ++ codes ", ")

-- an R6: the RCA that the card publishes, and what it shows of its status
abbrev pub r6_told : Kind → R6 → List ℕ
r6_told kind r6 = rca_told r6.rca ++ status_words kind r6.status

abbrev pub r6_words : Kind → List ℕ → List ℕ
r6_words kind frame = told_by (r6_told kind) (r6_in frame)

-- an R7: the voltage that the card accepts, and the check pattern
abbrev pub r7_told : R7 → List ℕ
r7_told r7 = codes "R7: voltage " ++ (decimal r7.voltage ++ (codes ", check pattern " ++ hex_text (r7.pattern ∷ [])))

abbrev pub r7_words : List ℕ → List ℕ
r7_words frame = told_by r7_told (r7_in frame)

-- a response of 48 bits, as that to the command
abbrev pub short_by : Kind → Response → ℕ → List ℕ → List ℕ
short_by kind R3 index frame = r3_words frame
short_by kind R6_response index frame = r6_words kind frame
short_by kind R7_response index frame = r7_words frame
short_by kind response index frame = r1_words kind response index frame

abbrev pub short_words : Kind → Command → ℕ → List ℕ → List ℕ
short_words kind command index frame = short_by kind (response_of command) index frame

abbrev pub register_name : Command → List ℕ
register_name SendCsd = codes "R2: CSD"
register_name command = codes "R2: CID"

-- an R2: a register
abbrev pub r2_words : Command → List ℕ → List ℕ
r2_words command frame = told_by (λ register. register_name command) (register_in frame)

abbrev pub silence_by : Response → List ℕ
silence_by Nothing = codes "no response is sent"
silence_by response = codes "no response came"

-- nothing came
abbrev pub silence_words : Command → List ℕ
silence_words command = silence_by (response_of command)

-- what came back of the command with this index
unfoldable pub reply_words : Kind → Command → ℕ → Reply → List ℕ
reply_words kind command index Silent = silence_words command
reply_words kind command index (Short frame) = short_words kind command index frame
reply_words kind command index (Long frame) = r2_words command frame
