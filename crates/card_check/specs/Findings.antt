-- What is said of the lines of a card file that are wrong.
use Rattle.std.specs.Prelude.{ℕ, ◌&&◌, List, [], ◌∷◌, ◌++◌, codes, if◌then◌else◌, length, min, nat_le}
use Rattle.std.specs.Prelude.{drop, nat_lt, take}
use Rattle.std.specs.Fmt.{decimal}
use Rattle.text_out.specs.Hex.{hex_text}
use Rattle.mmc_frame.specs.declared.kind.Kind.TheVariants.{Mmc, Sd}
use Rattle.card_check.specs.Keys.{expected_words}
use Rattle.card_check.specs.Strays.{stray_words}
use Rattle.card_check.specs.declared.cause.Cause.{Cause}
use Rattle.card_check.specs.declared.cause.Cause.TheVariants.{OtherKind, Repeated, Stray as HasStray, TooManyFaults, UnknownKey, Value}
use Rattle.card_check.specs.declared.finding.TheConstants.{MAX_SHOWN}

-- a printable byte as it is, and any other in hexadecimal digits
abbrev pub byte_text : ℕ → List ℕ
byte_text byte = if nat_le 32 byte && nat_lt byte 127 then byte ∷ [] else codes "\\x" ++ hex_text (byte ∷ [])

abbrev pub quoted_text : List ℕ → List ℕ
quoted_text [] = []
quoted_text (byte ∷ bytes) = byte_text byte ++ quoted_text bytes

-- what stands after the front of a line
abbrev pub end_words : List ℕ → List ℕ
end_words [] = codes "\""
end_words (byte ∷ bytes) = codes "\".."

-- the front of a line in quotes, with dots where it goes on
unfoldable pub found_text : List ℕ → List ℕ
found_text line =
    let shown = min (length line) MAX_SHOWN in
    codes "\"" ++ (quoted_text (take shown line) ++ end_words (drop shown line))

-- what is wrong, and what was expected
abbrev pub cause_words : Cause → List ℕ
cause_words (HasStray stray) = stray_words stray
cause_words UnknownKey = codes "no such key; the keys are kind, ocr, cid, csd, sectors, ready, busy, early, length, stop, slow-status, late-status, long-ready, long-busy, long-slow-status, goes-on, locked, fault, scr, rca, cmd8, highspeed, r6-app, ext and ext-changes, each with a space behind it"
cause_words (Value key) = expected_words key
cause_words (OtherKind Sd) = codes "an SD card has no such line, and kind is sd"
cause_words (OtherKind Mmc) = codes "an eMMC device has no such line, and kind is mmc"
cause_words Repeated = codes "a line above gives the same key, or a fault for the same exchange"
cause_words TooManyFaults = codes "256 faults are planned above, and no more can be"

unfoldable pub place_text : List ℕ → ℕ → List ℕ
place_text file line = file ++ (codes " line " ++ (decimal line ++ codes ": "))

-- FILE line N: FOUND: EXPECTED
abbrev pub wrong_line : List ℕ → ℕ → List ℕ → List ℕ → List ℕ
wrong_line file line found words = place_text file line ++ (found_text found ++ (codes ": " ++ (words ++ (10 ∷ []))))
