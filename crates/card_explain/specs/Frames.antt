-- A frame of 48 bits, field by field (SD Physical Layer 6.00, sections 4.7.2 and 4.9; JESD84-B51, sections 6.10.1 and 6.12).
use Rattle.std.specs.Prelude.{ℕ, ◌/◌, ◌%◌, ◌==◌, List, [], ◌∷◌, ◌++◌, codes, false, if◌then◌else◌, replicate, slice_index, slice_range}
use Rattle.std.specs.Fmt.{decimal}
use Rattle.text_out.specs.Hex.{hex_text}
use Rattle.mmc_card.specs.Rows.{command_of}
use Rattle.mmc_frame.specs.Check.{bits_of, remainder}
use Rattle.mmc_frame.specs.Field.{field}
use Rattle.std.specs.Int.{from_be_bytes, w32}
use Rattle.mmc_frame.specs.declared.kind.Kind.{Kind}
use Rattle.mmc_frame.specs.declared.kind.Kind.TheVariants.{Mmc, Sd}
use Rattle.card_explain.specs.Commands.{command_words}
use Rattle.card_explain.specs.Responses.{r3_words, r6_words, r7_words}
use Rattle.card_explain.specs.Statuses.{status_words}

-- the transmission bit, bit 6 of the first byte: who sends the frame
abbrev pub direction_words : ℕ → List ℕ
direction_words first = if field 6 6 first == 1 then codes ": from the host" else codes ": from the card"

-- a card status, as an R1 has it
abbrev pub r1_meaning : Kind → ℕ → List ℕ
r1_meaning kind argument = codes "R1: " ++ status_words kind argument

-- an SD card answers CMD3 by an R6, and CMD8 by an R7
abbrev pub short_meaning : Kind → List ℕ → ℕ → List ℕ
short_meaning Sd frame argument =
    if field 5 0 (slice_index frame 0) == 3 then r6_words Sd frame
    else if field 5 0 (slice_index frame 0) == 8 then r7_words frame else r1_meaning Sd argument
short_meaning Mmc frame argument = r1_meaning Mmc argument

-- a response, by its index: R3 has 63
abbrev pub response_words : Kind → List ℕ → ℕ → List ℕ
response_words kind frame argument =
    if field 5 0 (slice_index frame 0) == 63 then r3_words frame else short_meaning kind frame argument

-- the command, or what a response tells
unfoldable pub meaning_words : Kind → List ℕ → ℕ → List ℕ
meaning_words kind frame argument =
    if field 6 6 (slice_index frame 0) == 1
    then command_words kind (command_of kind false (field 5 0 (slice_index frame 0))) false (field 5 0 (slice_index frame 0))
    else response_words kind frame argument

unfoldable pub start_text : ℕ → List ℕ
start_text first = codes "start bit [47] " ++ decimal (first / 128)

unfoldable pub transmission_text : ℕ → List ℕ
transmission_text first = codes "\ntransmission bit [46] " ++ (decimal (field 6 6 first) ++ direction_words first)

unfoldable pub index_text : ℕ → List ℕ
index_text first = codes "\ncommand index [45:40] " ++ decimal (field 5 0 first)

unfoldable pub argument_text : List ℕ → List ℕ
argument_text bytes = codes "\nargument [39:8] 0x" ++ (hex_text bytes ++ codes ": ")

-- the fields of the last byte
unfoldable pub back_text : ℕ → List ℕ
back_text last =
    codes "\nCRC7 [7:1] 0x" ++ (hex_text (field 7 1 last ∷ [])
    ++ (codes "\nend bit [0] " ++ (decimal (field 0 0 last) ++ (10 ∷ []))))

-- the fields of the first byte
unfoldable pub head_text : ℕ → List ℕ
head_text first = start_text first ++ (transmission_text first ++ index_text first)

-- those after it, of a frame with these bytes of its argument
unfoldable pub tail_text : Kind → List ℕ → List ℕ → ℕ → List ℕ
tail_text kind frame bytes argument =
    argument_text bytes ++ (meaning_words kind frame argument ++ back_text (slice_index frame 5))

-- a line for each field
abbrev pub fields_text : Kind → List ℕ → List ℕ
fields_text kind frame =
    head_text (slice_index frame 0)
    ++ tail_text kind frame (slice_range frame 1 5) (from_be_bytes w32 (slice_range frame 1 5))

-- the first five bytes, which the check covers, with a start bit of 0
abbrev pub covered : List ℕ → List ℕ
covered frame =
    (slice_index frame 0 % 128) ∷ slice_index frame 1 ∷ slice_index frame 2 ∷ slice_index frame 3 ∷ slice_index frame 4 ∷ []

-- the check that fits them: the remainder of their bits with seven zeros after them
unfoldable pub remainder_of : List ℕ → ℕ
remainder_of frame = remainder (bits_of (covered frame) ++ replicate 7 false)

-- an R3, from the card with index 63, has ones there
abbrev pub right_check : List ℕ → ℕ
right_check frame = if slice_index frame 0 % 128 == 63 then 127 else remainder_of frame

-- whether a check is the right one
abbrev pub check_text : ℕ → ℕ → List ℕ
check_text check right =
    if check == right then codes "check: it fits\n"
    else codes "check: it doesn't fit; 0x" ++ (hex_text (right ∷ []) ++ codes " would\n")

-- what a field has to be that has one value in every frame, where it has another
abbrev pub fixed_text : List ℕ → ℕ → ℕ → List ℕ → List ℕ
fixed_text name value right digits =
    if value == right then [] else name ++ (codes ": wrong; it has to be " ++ (digits ++ codes "\n"))

unfoldable pub start_bit_text : ℕ → List ℕ
start_bit_text first = fixed_text (codes "start bit") (first / 128) 0 (codes "0")

unfoldable pub end_bit_text : ℕ → List ℕ
end_bit_text last = fixed_text (codes "end bit") (field 0 0 last) 1 (codes "1")

-- whether the check in the last byte fits
unfoldable pub fit_text : List ℕ → List ℕ
fit_text frame = check_text (slice_index frame 5 / 2) (right_check frame)

-- the same, and which of the start bit and the end bit is wrong
unfoldable pub verdict_text : List ℕ → List ℕ
verdict_text frame = fit_text frame ++ (start_bit_text (slice_index frame 0) ++ end_bit_text (slice_index frame 5))

-- all of a frame: its fields, and what is right and wrong of it
abbrev pub frame_text : Kind → List ℕ → List ℕ
frame_text kind frame = fields_text kind frame ++ verdict_text frame
