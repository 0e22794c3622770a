-- What a line of a card file says.
use Rattle.std.specs.Prelude.{◌-◌, ◌==◌, ◌^◌, ℕ, Bool, List, [], ◌∷◌, Option, None, Some, codes, false}
use Rattle.std.specs.Prelude.{if◌then◌else◌, nat_le, nat_lt, option_and_then, option_map, true}
use Rattle.std.specs.Int.{from_be_bytes, w16, w32}
use Rattle.std.specs.Str.{bytes_eq}
use Rattle.mmc_card_sim.specs.declared.fault.Fault.{Fault as CardFault}
use Rattle.mmc_frame.specs.declared.kind.Kind.{Kind as CardKind}
use Rattle.mmc_frame.specs.declared.kind.Kind.TheVariants.{Mmc, Sd}
use Rattle.card_text.specs.declared.card_line.CardLine.{CardLine}
use Rattle.card_text.specs.declared.card_line.CardLine.TheVariants.{Busy, Cid, Cmd8, Csd, Ext, Fault, HighSpeed, Kind}
use Rattle.card_text.specs.declared.card_line.CardLine.TheVariants.{Early, KeepsLength, Locked, Ocr, Rca, Ready, Scr}
use Rattle.card_text.specs.declared.card_line.CardLine.TheVariants.{ExtChanges, GoesOn, LateStatus, R6App, Sectors, SlowStatus, StaysBusy}
use Rattle.card_text.specs.declared.card_line.HighSpeedChoice.{HighSpeedChoice}
use Rattle.card_text.specs.declared.card_line.HighSpeedChoice.TheVariants.{Refused, Taken}
use Rattle.mmc_card_rows.specs.declared.delays.Refusal.TheVariants.{SelectsDefault, SelectsNone}
use Rattle.card_text.specs.declared.card_line.PublishedRca.{PublishedRca}
use Rattle.card_text.specs.declared.card_line.PublishedRca.TheVariants.{Changes, Fixed}
use Rattle.card_text.specs.declared.text_line.Line.{Line}
use Rattle.card_text.specs.declared.text_line.Line.TheVariants.{Skipped}
use Rattle.card_text.specs.FaultTexts.{fault_of}
use Rattle.card_text.specs.Hexadecimal.{bytes_of}
use Rattle.card_text.specs.Numbers.{byte_of, number_of}
use Rattle.card_text.specs.Parts.{parts}
use Rattle.card_text.specs.TextLines.{is_skipped, line_by}

-- `sd` or `mmc`
unfoldable pub kind_of : List ℕ → Option CardKind
kind_of text =
    if bytes_eq text (codes "sd") then Some Sd
    else (if bytes_eq text (codes "mmc") then Some Mmc else None)

-- `yes` or `no`
unfoldable pub choice_of : List ℕ → Option Bool
choice_of text =
    if bytes_eq text (codes "yes") then Some true
    else (if bytes_eq text (codes "no") then Some false else None)

-- how many answers come late, at most 8
unfoldable pub delay_of : List ℕ → Option ℕ
delay_of text = option_and_then (λ n. if nat_le n 8 then Some n else None) (number_of text)

-- the same, at most 15
unfoldable pub long_delay_of : List ℕ → Option ℕ
long_delay_of text = option_and_then (λ n. if nat_le n 15 then Some n else None) (number_of text)

-- bits 30 and 29 of an OCR
unfoldable pub early_of : List ℕ → Option ℕ
early_of text = option_and_then (λ n. if nat_le n 3 then Some n else None) (number_of text)

-- `kept` or `named`
unfoldable pub keeps_length_of : List ℕ → Option Bool
keeps_length_of text =
    if bytes_eq text (codes "kept") then Some true
    else (if bytes_eq text (codes "named") then Some false else None)

-- `busy` or `ready`
unfoldable pub stays_busy_of : List ℕ → Option Bool
stays_busy_of text =
    if bytes_eq text (codes "busy") then Some true
    else (if bytes_eq text (codes "ready") then Some false else None)

-- `changes`, or an RCA
unfoldable pub published_rca_of : List ℕ → Option PublishedRca
published_rca_of text =
    if bytes_eq text (codes "changes") then Some Changes
    else option_map (λ bytes. Fixed (from_be_bytes w16 bytes)) (bytes_of 2 text)

-- `refused-15` or `refused-0`, or whether the card has high speed
unfoldable pub high_speed_of : List ℕ → Option HighSpeedChoice
high_speed_of text =
    if bytes_eq text (codes "refused-15") then Some (Refused SelectsNone)
    else (if bytes_eq text (codes "refused-0") then Some (Refused SelectsDefault)
    else option_map (λ choice. Taken choice) (choice_of text))

-- a key of SD cards with its value
unfoldable pub sd_line_of : List ℕ → List ℕ → Option CardLine
sd_line_of key text =
    if bytes_eq key (codes "scr") then option_map (λ bytes. Scr bytes) (bytes_of 8 text)
    else (if bytes_eq key (codes "rca") then option_map (λ rca. Rca rca) (published_rca_of text)
    else (if bytes_eq key (codes "cmd8") then option_map (λ choice. Cmd8 choice) (choice_of text)
    else (if bytes_eq key (codes "highspeed") then option_map (λ choice. HighSpeed choice) (high_speed_of text)
    else (if bytes_eq key (codes "r6-app") then option_map (λ choice. R6App choice) (choice_of text) else None))))

-- a key of how long a card may take, of eMMC devices, or of SD cards, with its value
unfoldable pub late_line_of : List ℕ → List ℕ → Option CardLine
late_line_of key text =
    if bytes_eq key (codes "late-status") then option_map (λ count. LateStatus count) (delay_of text)
    else (if bytes_eq key (codes "long-ready") then option_map (λ count. Ready count) (long_delay_of text)
    else (if bytes_eq key (codes "long-busy") then option_map (λ count. Busy count) (long_delay_of text)
    else (if bytes_eq key (codes "long-slow-status") then option_map (λ count. SlowStatus count) (long_delay_of text)
    else (if bytes_eq key (codes "goes-on") then option_map (λ choice. GoesOn choice) (choice_of text)
    else (if bytes_eq key (codes "ext-changes") then option_map (λ choice. ExtChanges choice) (choice_of text)
    else sd_line_of key text)))))

-- a key of what a card does where it is free, or another one, with its value
unfoldable pub free_line_of : List ℕ → List ℕ → Option CardLine
free_line_of key text =
    if bytes_eq key (codes "early") then option_map (λ bits. Early bits) (early_of text)
    else (if bytes_eq key (codes "length") then option_map (λ choice. KeepsLength choice) (keeps_length_of text)
    else (if bytes_eq key (codes "stop") then option_map (λ choice. StaysBusy choice) (stays_busy_of text)
    else (if bytes_eq key (codes "slow-status") then option_map (λ count. SlowStatus count) (delay_of text)
    else late_line_of key text)))

-- a key that stands once with its value
unfoldable pub line_of_key : List ℕ → List ℕ → Option CardLine
line_of_key key text =
    if bytes_eq key (codes "kind") then option_map (λ kind. Kind kind) (kind_of text)
    else (if bytes_eq key (codes "ocr") then option_map (λ bytes. Ocr (from_be_bytes w32 bytes)) (bytes_of 4 text)
    else (if bytes_eq key (codes "cid") then option_map (λ bytes. Cid bytes) (bytes_of 16 text)
    else (if bytes_eq key (codes "csd") then option_map (λ bytes. Csd bytes) (bytes_of 16 text)
    else (if bytes_eq key (codes "sectors") then option_map (λ count. Sectors count) (number_of text)
    else (if bytes_eq key (codes "ready") then option_map (λ count. Ready count) (delay_of text)
    else (if bytes_eq key (codes "busy") then option_map (λ count. Busy count) (delay_of text)
    else (if bytes_eq key (codes "locked") then option_map (λ choice. Locked choice) (choice_of text)
    else free_line_of key text)))))))

-- a byte of the EXT_CSD, which has places 0 to 511
abbrev pub byte_by : Option ℕ → Option ℕ → Option CardLine
byte_by (Some place) (Some value) = if nat_lt place 512 then Some (Ext place value) else None
byte_by place value = None

unfoldable pub ext_line_of : List ℕ → List ℕ → Option CardLine
ext_line_of place value = byte_by (number_of place) (byte_of value)

-- none is planned for the number at which the count of exchanges stays
abbrev pub planned_by : Option ℕ → Option CardFault → Option CardLine
planned_by (Some exchange) (Some fault) = if nat_lt exchange (2 ^ 64 - 1) then Some (Fault exchange fault) else None
planned_by exchange fault = None

unfoldable pub fault_line_of : List ℕ → List (List ℕ) → Option CardLine
fault_line_of exchange words = planned_by (number_of exchange) (fault_of words)

-- a key with its value, or `ext` with a place and a byte
unfoldable pub value_line_of : List ℕ → List ℕ → List (List ℕ) → Option CardLine
value_line_of key value [] = line_of_key key value
value_line_of key place (value ∷ []) = if bytes_eq key (codes "ext") then ext_line_of place value else None
value_line_of key value others = None

-- what the fields of a line say
unfoldable pub card_line_of_fields : List (List ℕ) → Option CardLine
card_line_of_fields (key ∷ value ∷ others) =
    if bytes_eq key (codes "fault") then fault_line_of value others else value_line_of key value others
card_line_of_fields fields = None

-- what a line says: one thing, or nothing where it is skipped
unfoldable pub card_line_of : List ℕ → Line CardLine
card_line_of line = if is_skipped line then Skipped else line_by (card_line_of_fields (parts 32 line))

-- an SD card may have it
abbrev pub is_of_sd : CardLine → Bool
is_of_sd (Ext place value) = false
is_of_sd (ExtChanges choice) = false
is_of_sd line = true

-- an eMMC device may have it
abbrev pub is_of_mmc : CardLine → Bool
is_of_mmc (Scr bytes) = false
is_of_mmc (Rca rca) = false
is_of_mmc (Cmd8 choice) = false
is_of_mmc (HighSpeed choice) = false
is_of_mmc (R6App choice) = false
is_of_mmc line = true

-- a card of this kind may have it
abbrev pub is_of : CardKind → CardLine → Bool
is_of Sd line = is_of_sd line
is_of Mmc line = is_of_mmc line

-- a line gives again what another one gives: a key that stands once, or a fault for the same exchange
abbrev pub repeats : CardLine → CardLine → Bool
repeats (Kind kind) (Kind other) = true
repeats (Ocr ocr) (Ocr other) = true
repeats (Cid bytes) (Cid others) = true
repeats (Csd bytes) (Csd others) = true
repeats (Sectors count) (Sectors other) = true
repeats (Ready count) (Ready other) = true
repeats (Busy count) (Busy other) = true
repeats (Early bits) (Early other) = true
repeats (KeepsLength choice) (KeepsLength other) = true
repeats (StaysBusy choice) (StaysBusy other) = true
repeats (SlowStatus count) (SlowStatus other) = true
repeats (LateStatus count) (LateStatus other) = true
repeats (GoesOn choice) (GoesOn other) = true
repeats (Locked choice) (Locked other) = true
repeats (Scr bytes) (Scr others) = true
repeats (Rca rca) (Rca other) = true
repeats (Cmd8 choice) (Cmd8 other) = true
repeats (HighSpeed choice) (HighSpeed other) = true
repeats (R6App choice) (R6App other) = true
repeats (ExtChanges choice) (ExtChanges other) = true
repeats (Fault exchange fault) (Fault other another) = exchange == other
repeats line other = false
