-- What the commands print, and how they end.
use Rattle.std.specs.Prelude.{◌≡◌, ◌⊎◌, List, Ok, Option, Some, [], ℕ}
use Rattle.std.specs.Io.KnownBytes.{Appends}
use Rattle.mmc_frame.specs.declared.kind.Kind.{Kind}
use Rattle.mmc_card_sim.specs.declared.spec.CardSpec.{CardSpec}
use Rattle.card_maker.specs.CardText.{card_file_text}
use Rattle.card_maker.specs.Wanted.{IsAsWanted}
use Rattle.card_maker.specs.declared.wanted.Wanted.{Wanted}
use Rattle.card_explain.specs.Frames.{frame_text}
use Rattle.card_explain.specs.LongFrames.{long_frame_text}
use Rattle.card_explain.specs.declared.exchange.KnownCard.{KnownCard}
use Rattle.card_json.specs.Fields.{fields_text}
use Rattle.card_text.specs.Parts.{without_feed}
use Rattle.card_text.specs.Script.{lines}
use Rattle.card_trace.specs.TraceText.{trace_text}
use Rattle.card_trace.specs.declared.lines.Form.{Form}
use Rattle.card_trace.specs.declared.lines.Form.TheVariants.{Objects, Words}
use Rattle.card_decode.specs.Summaries.{PutsRegister}
use Rattle.card_decode.specs.declared.frame.Frame.{Frame}
use Rattle.card_decode.specs.declared.frame.Frame.TheVariants.{Long, Short}
use Rattle.card_decode.specs.declared.register.Register.{Register}

-- 0 where all went well, and 2 otherwise
abbrev pub IsStatus : ℕ → Type 0
IsStatus status = (status ≡ 0) ⊎ (status ≡ 2)

-- the card file of a card as somebody wants it, which is read again as that card
pub record PrintsCard (old new : Option (List ℕ)) : Type 0 where
  pub wanted : Wanted
  pub card : CardSpec
  pub as_wanted : IsAsWanted wanted card
  pub printed : Appends old new (card_file_text card)

-- what a frame says
abbrev pub frame_lines : Kind → Frame → List ℕ
frame_lines kind (Short bytes) = frame_text kind bytes
frame_lines kind (Long bytes) = long_frame_text bytes

-- the lines of a register or of a frame
pub data IsDecoded (text : List ℕ) : Type 0 where
  a_frame : (kind : Kind) (frame : Frame) → text ≡ frame_lines kind frame → IsDecoded text
  a_register : (register : Register) (bytes : List ℕ) → PutsRegister register bytes (Some []) (Some text) (Ok tt) → IsDecoded text

-- a text as it is, or an object for each of its lines
abbrev pub printed_as : Form → List ℕ → List ℕ
printed_as Words text = text
printed_as Objects text = fields_text (lines (without_feed text))

-- what a register or a frame says, or a trace
pub data PrintsDecoded (old new : Option (List ℕ)) : Type 0 where
  its_lines : (form : Form) (text : List ℕ) → IsDecoded text → Appends old new (printed_as form text) → PrintsDecoded old new
  a_trace : (form : Form) (card : KnownCard) (text : List ℕ) → Appends old new (trace_text form card text) → PrintsDecoded old new
