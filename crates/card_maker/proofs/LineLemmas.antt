-- What the lines of a card file say.
use Rattle.std.proofs.Common.{◌≡◌, ℕ, ◌^◌, ◌<◌, List, [], ◌∷◌, length, Bool, true, false, refl, ap, ◌∙◌, arith}
use Rattle.std.specs.Prelude.{codes}
use Rattle.std.specs.Int.{to_be_bytes, w32}
use Rattle.std.specs.Fmt.{decimal}
use Rattle.std.proofs.lemmas.Nat.{from_be_bytes-to_be_bytes_4}
use Rattle.mmc_frame.specs.Flips.{AreBytes}
use Rattle.mmc_frame.specs.declared.kind.Kind.{Kind as CardKind}
use Rattle.mmc_frame.specs.declared.kind.Kind.TheVariants as Is
use Rattle.text_out.specs.Hex.{hex_text}
use Rattle.card_text.specs.declared.card_line.CardLine.TheVariants.{Cid, Cmd8, Csd, Ext, HighSpeed, Kind, Ocr, Scr, Sectors}
use Rattle.card_text.specs.declared.card_line.HighSpeedChoice.TheVariants.{Taken}
use Rattle.card_text.specs.declared.text_line.Line.TheVariants.{Says, Skipped}
use Rattle.card_text.specs.CardLines.{card_line_of, card_line_of_fields, choice_of, ext_line_of, free_line_of, high_speed_of, late_line_of}
use Rattle.card_text.specs.CardLines.{kind_of, line_of_key, sd_line_of, value_line_of}
use Rattle.card_text.specs.Parts.{parts}
use Rattle.card_maker.specs.CardText.{byte_name, ext_line, kind_title, kind_word, name_line, title_line}
use Rattle.card_maker.specs.FileLines.{choice_word, number_line, register_line, word_line}
use Rattle.card_maker.proofs.TextLemmas.{byte_of-hex, bytes_of-hex, is_without, number_of-decimal, parts_at, parts_none}
use Rattle.card_maker.proofs.TextLemmas.{without_decimal, without_hex}

-- the fields of a line of two
pub two_fields : (key value : List ℕ) → is_without 32 key ≡ true → is_without 32 value ≡ true
    → parts 32 (word_line key value) ≡ key ∷ value ∷ []
two_fields key value h k = parts_at 32 key value h ∙ ap (λ ps. key ∷ ps) (parts_none 32 value k)

pub kind_said : (kind : CardKind) → card_line_of (word_line (codes "kind") (kind_word kind)) ≡ Says (Kind kind)
unfolding card_line_of card_line_of_fields value_line_of line_of_key kind_of parts
kind_said Is.Sd = refl
kind_said Is.Mmc = refl

pub ocr_said : (ocr : ℕ) → ocr < 2 ^ 32 → AreBytes (to_be_bytes w32 ocr)
    → card_line_of (register_line (codes "ocr") (to_be_bytes w32 ocr)) ≡ Says (Ocr ocr)
unfolding card_line_of card_line_of_fields value_line_of line_of_key
ocr_said ocr fits bytes =
    rw (
      two_fields (codes "ocr") (hex_text (to_be_bytes w32 ocr)) refl (without_hex 32 (to_be_bytes w32 ocr) (omega arith)),
      bytes_of-hex 4 (to_be_bytes w32 ocr) refl bytes,
      from_be_bytes-to_be_bytes_4 ocr fits,
    ) refl

pub cid_said : (bs : List ℕ) → length bs ≡ 16 → AreBytes bs → card_line_of (register_line (codes "cid") bs) ≡ Says (Cid bs)
unfolding card_line_of card_line_of_fields value_line_of line_of_key
cid_said bs long bytes =
    rw (two_fields (codes "cid") (hex_text bs) refl (without_hex 32 bs (omega arith)), bytes_of-hex 16 bs long bytes) refl

pub csd_said : (bs : List ℕ) → length bs ≡ 16 → AreBytes bs → card_line_of (register_line (codes "csd") bs) ≡ Says (Csd bs)
unfolding card_line_of card_line_of_fields value_line_of line_of_key
csd_said bs long bytes =
    rw (two_fields (codes "csd") (hex_text bs) refl (without_hex 32 bs (omega arith)), bytes_of-hex 16 bs long bytes) refl

pub scr_said : (bs : List ℕ) → length bs ≡ 8 → AreBytes bs → card_line_of (register_line (codes "scr") bs) ≡ Says (Scr bs)
unfolding card_line_of card_line_of_fields value_line_of line_of_key free_line_of late_line_of sd_line_of
scr_said bs long bytes =
    rw (two_fields (codes "scr") (hex_text bs) refl (without_hex 32 bs (omega arith)), bytes_of-hex 8 bs long bytes) refl

pub sectors_said : (n : ℕ) → n < 2 ^ 64 → card_line_of (number_line (codes "sectors") n) ≡ Says (Sectors n)
unfolding card_line_of card_line_of_fields value_line_of line_of_key
sectors_said n fits =
    rw (two_fields (codes "sectors") (decimal n) refl (without_decimal 32 n (omega arith) fits), number_of-decimal n fits) refl

pub cmd8_said : (choice : Bool) → card_line_of (word_line (codes "cmd8") (choice_word choice)) ≡ Says (Cmd8 choice)
unfolding card_line_of card_line_of_fields value_line_of line_of_key free_line_of late_line_of sd_line_of choice_of parts
cmd8_said true = refl
cmd8_said false = refl

pub high_speed_said : (choice : Bool)
    → card_line_of (word_line (codes "highspeed") (choice_word choice)) ≡ Says (HighSpeed (Taken choice))
unfolding card_line_of card_line_of_fields value_line_of line_of_key free_line_of late_line_of sd_line_of high_speed_of choice_of parts
high_speed_said true = refl
high_speed_said false = refl

pub ext_said : (place byte : ℕ) → place < 512 → byte < 256 → card_line_of (ext_line place (byte ∷ [])) ≡ Says (Ext place byte)
unfolding card_line_of card_line_of_fields value_line_of ext_line_of
ext_said place byte near small =
    let fits : place < 2 ^ 64 = omega arith in
    let fields : parts 32 (ext_line place (byte ∷ [])) ≡ codes "ext" ∷ decimal place ∷ hex_text (byte ∷ []) ∷ [] =
    parts_at 32 (codes "ext") (word_line (decimal place) (hex_text (byte ∷ []))) refl
    ∙ ap (λ ps. codes "ext" ∷ ps)
    (two_fields (decimal place) (hex_text (byte ∷ [])) (without_decimal 32 place (omega arith) fits)
    (without_hex 32 (byte ∷ []) (omega arith))) in
    rw (fields, number_of-decimal place fits, byte_of-hex byte small) (grind (arith))

pub title_skipped : (kind : CardKind) (n : ℕ) → card_line_of (title_line (kind_title kind) n) ≡ Skipped
unfolding card_line_of
title_skipped Is.Sd n = refl
title_skipped Is.Mmc n = refl

pub name_skipped : (place : ℕ) → card_line_of (name_line (byte_name place)) ≡ Skipped
unfolding card_line_of
name_skipped place = refl
