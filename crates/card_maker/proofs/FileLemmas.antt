-- A card file that is printed is read as the card.
use Rattle.std.proofs.Common.{◌≡◌, ℕ, suc, ◌+◌, ◌^◌, ◌<◌, ◌≤◌, List, [], ◌∷◌, ◌++◌, length, Option, None, Some, Bool, true, false, cond}
use Rattle.std.proofs.Common.{add-one, drop, drop-cons, get_or, sym, refl, ap, ◌∙◌, subst, arith, append_assoc, length-append}
use Rattle.std.specs.Prelude.{◌==◌, codes, fold, replicate, slice_set}
use Rattle.std.specs.Int.{to_be_bytes, w32}
use Rattle.std.specs.Fmt.{decimal}
use Rattle.std.specs.List.{AllByRecursion, IsDistinct}
use Rattle.std.specs.Option.{option_or}
use Rattle.std.proofs.lemmas.Bool.{eqb-true}
use Rattle.std.proofs.lemmas.List.Elements.{All-from_recursion}
use Rattle.mmc_frame.specs.Flips.{AreBytes}
use Rattle.mmc_frame.specs.declared.kind.Kind.{Kind as CardKind}
use Rattle.mmc_frame.specs.declared.kind.Kind.TheVariants as Is
use Rattle.mmc_card_sim.specs.CardSpec.{HasOwnWidths, HasWidths}
use Rattle.mmc_card_sim.specs.Registers.{kind_of as kind_by}
use Rattle.mmc_card_rows.specs.declared.registers.KindRegisters.{KindRegisters}
use Rattle.mmc_card_rows.specs.declared.registers.KindRegisters.TheVariants as Has
use Rattle.mmc_card_rows.specs.declared.registers.SdRegisters.{SdRegisters}
use Rattle.mmc_card_sim.specs.declared.spec.CardSpec.{CardSpec}
use Rattle.mmc_card_rows.specs.declared.delays.Refusal.{Refusal}
use Rattle.text_out.specs.Hex.{hex_text}
use Rattle.card_text.specs.declared.card_line.CardLine.{CardLine}
use Rattle.card_text.specs.declared.card_line.CardLine.TheVariants.{Cid, Cmd8, Csd, Ext, HighSpeed, Kind, Ocr, Scr, Sectors}
use Rattle.card_text.specs.declared.card_line.HighSpeedChoice.TheVariants.{Taken}
use Rattle.card_text.specs.declared.text_line.Line.TheVariants.{Says, Skipped}
use Rattle.card_text.specs.CardFile.{AreCardLines, IsCardFile, StandTogether, card_lines_in, kind_in, may_have, plan_of}
use Rattle.card_text.specs.CardLines.{card_line_of, repeats}
use Rattle.card_text.specs.CardSpecs.{busy_of_line, early_of_line, ext_csd_of, first_of, given_by, high_speed_of_line}
use Rattle.card_text.specs.CardSpecs.{ages_of_line, goes_on_of_line, late_of_line, shows_app_cmd_of_line}
use Rattle.card_text.specs.CardSpecs.{keeps_length_of_line, lagging_of_line, locked_of_line, ready_of_line, spec_of, stays_busy_of_line, with_byte}
use Rattle.card_text.specs.Script.{lines}
use Rattle.card_text.specs.TextLines.{said_in}
use Rattle.card_maker.specs.CardText.{byte_lines, byte_name, card_file_text, common_lines, ext_line, ext_lines, kind_title, kind_word, title_line, name_line, own_lines, sd_lines}
use Rattle.card_maker.specs.FileLines.{choice_word, ended_lines, number_line, register_line, word_line}
use Rattle.card_maker.specs.Plain.{HasFirstRca, IsPlain}
use Rattle.card_maker.proofs.TextLemmas.{is_without, parts_at, parts_none, without_append, without_decimal, without_hex}
use Rattle.card_maker.proofs.LineLemmas.{cid_said, cmd8_said, csd_said, ext_said, high_speed_said, kind_said, name_skipped, ocr_said}
use Rattle.card_maker.proofs.LineLemmas.{scr_said, sectors_said, title_skipped}

-- ---- the lines of the text

-- no line has a line feed
abbrev AreLines : List (List ℕ) → Type 0
AreLines ls = AllByRecursion (λ l. is_without 10 l ≡ true) ls

lines_append : (ls others : List (List ℕ)) → AreLines ls → AreLines others → AreLines (ls ++ others)
lines_append [] others h k = k
lines_append (l ∷ ls) others h k = (h.0, lines_append ls others h.1 k)

-- after the last line feed stands an empty line
lines_ended : (ls : List (List ℕ)) → AreLines ls → lines (ended_lines ls) ≡ ls ++ [] ∷ []
lines_ended [] h = parts_none 10 [] refl
lines_ended (l ∷ ls) h =
    ap lines (append_assoc l (10 ∷ []) (ended_lines ls)) ∙ parts_at 10 l (ended_lines ls) h.0
    ∙ ap (λ others. l ∷ others) (lines_ended ls h.1)

word_is_line : (key value : List ℕ) → is_without 10 key ≡ true → is_without 10 value ≡ true
    → is_without 10 (word_line key value) ≡ true
word_is_line key value h k = without_append 10 key (32 ∷ value) h k

register_is_line : (key bytes : List ℕ) → is_without 10 key ≡ true → is_without 10 (register_line key bytes) ≡ true
register_is_line key bytes h = word_is_line key (hex_text bytes) h (without_hex 10 bytes (omega arith))

number_is_line : (key : List ℕ) (n : ℕ) → is_without 10 key ≡ true → n < 2 ^ 64
    → is_without 10 (number_line key n) ≡ true
number_is_line key n h fits = word_is_line key (decimal n) h (without_decimal 10 n (omega arith) fits)

title_is_line : (kind : CardKind) (n : ℕ) → n < 2 ^ 64 → is_without 10 (title_line (kind_title kind) n) ≡ true
title_is_line Is.Sd n fits =
    word_is_line (kind_title Is.Sd) (word_line (decimal n) (codes "sectors")) refl
    (word_is_line (decimal n) (codes "sectors") (without_decimal 10 n (omega arith) fits) refl)
title_is_line Is.Mmc n fits =
    word_is_line (kind_title Is.Mmc) (word_line (decimal n) (codes "sectors")) refl
    (word_is_line (decimal n) (codes "sectors") (without_decimal 10 n (omega arith) fits) refl)

kind_is_line : (kind : CardKind) → is_without 10 (word_line (codes "kind") (kind_word kind)) ≡ true
kind_is_line Is.Sd = refl
kind_is_line Is.Mmc = refl

common_are_lines : (spec : CardSpec) → spec.sectors < 2 ^ 64 → AreLines (common_lines spec)
common_are_lines spec fits =
    let kind = kind_by spec.registers.kind in (
      title_is_line kind spec.sectors fits,
      (
        kind_is_line kind,
        (
          register_is_line (codes "ocr") (to_be_bytes w32 spec.registers.ocr) refl,
          (
            register_is_line (codes "cid") spec.registers.cid refl,
            (
              register_is_line (codes "csd") spec.registers.csd refl,
              (number_is_line (codes "sectors") spec.sectors refl fits, tt),
            ),
          ),
        ),
      ),
    )

cmd8_is_line : (choice : Bool) → is_without 10 (word_line (codes "cmd8") (choice_word choice)) ≡ true
cmd8_is_line true = refl
cmd8_is_line false = refl

high_speed_is_line : (choice : Bool) → is_without 10 (word_line (codes "highspeed") (choice_word choice)) ≡ true
high_speed_is_line true = refl
high_speed_is_line false = refl

either : (b : Bool) (x y : List ℕ) → is_without 10 x ≡ true → is_without 10 y ≡ true → is_without 10 (cond b x y) ≡ true
either true x y h k = h
either false x y h k = k

name_is_line : (place : ℕ) → is_without 10 (name_line (byte_name place)) ≡ true
name_is_line place =
    word_is_line (codes "#") (byte_name place) refl
    (either (place == 143) _ _ refl (either (place == 144) _ _ refl (either (place == 145) _ _ refl
    (either (place == 155) _ _ refl (either (place == 160) _ _ refl (either (place == 192) _ _ refl
    (either (place == 194) _ _ refl (either (place == 196) _ _ refl (either (place == 212) _ _ refl (either (place == 213) _ _ refl
    (either (place == 214) _ _ refl (either (place == 215) _ _ refl (either (place == 221) _ _ refl
    (either (place == 224) _ _ refl (either (place == 226) _ _ refl (either (place == 231) _ _ refl refl))))))))))))))))

ext_is_line : (place byte : ℕ) → place < 512 → is_without 10 (ext_line place (byte ∷ [])) ≡ true
ext_is_line place byte near =
    word_is_line (codes "ext") (word_line (decimal place) (hex_text (byte ∷ []))) refl
    (word_is_line (decimal place) (hex_text (byte ∷ [])) (without_decimal 10 place (omega arith) (omega arith))
    (without_hex 10 (byte ∷ []) (omega arith)))

ext_step_lines : (t : Bool) (place byte : ℕ) (others : List (List ℕ)) → place < 512 → AreLines others
    → AreLines (cond t [] (name_line (byte_name place) ∷ ext_line place (byte ∷ []) ∷ []) ++ others)
ext_step_lines true place byte others near h = h
ext_step_lines false place byte others near h = (name_is_line place, (ext_is_line place byte near, h))

ext_are_lines : (place : ℕ) (bytes : List ℕ) → place + length bytes ≤ 512 → AreLines (ext_lines place bytes)
ext_are_lines place [] near = tt
ext_are_lines place (byte ∷ bytes) near =
    ext_step_lines (byte == 0) place byte (ext_lines (suc place) bytes) (omega arith)
    (ext_are_lines (suc place) bytes (omega arith))

ended_append : (ls others : List (List ℕ)) → ended_lines (ls ++ others) ≡ ended_lines ls ++ ended_lines others
ended_append [] others = refl
ended_append (l ∷ ls) others =
    ap (λ rest. (l ++ 10 ∷ []) ++ rest) (ended_append ls others)
    ∙ sym (append_assoc (l ++ 10 ∷ []) (ended_lines ls) (ended_lines others))

-- the text of a card file in its two parts
pub text_is : (spec : CardSpec) → card_file_text spec ≡ ended_lines (common_lines spec) ++ ended_lines (own_lines spec.registers.kind)
unfolding card_file_text
text_is spec = ended_append (common_lines spec) (own_lines spec.registers.kind)

-- the text of the bytes from one on
pub ext_at : (bs : List ℕ) (i : ℕ) → i < length bs
    → ended_lines (ext_lines i (drop i bs))
    ≡ ended_lines (byte_lines i (get_or bs i 0)) ++ ended_lines (ext_lines (i + 1) (drop (i + 1) bs))
ext_at bs i lt =
    ap (λ rest. ended_lines (ext_lines i rest)) (drop-cons bs i 0 lt)
    ∙ ended_append (byte_lines i (get_or bs i 0)) (ext_lines (suc i) (drop (suc i) bs))
    ∙ ap (λ n. ended_lines (byte_lines i (get_or bs i 0)) ++ ended_lines (ext_lines n (drop n bs))) (sym (add-one i))

-- ---- what lines say together

say_none : card_lines_in ([] ∷ []) ≡ Some []
unfolding card_lines_in said_in card_line_of
say_none = refl

say_skipped : (text : List ℕ) (texts : List (List ℕ)) (ls : List CardLine) → card_line_of text ≡ Skipped
    → card_lines_in texts ≡ Some ls → card_lines_in (text ∷ texts) ≡ Some ls
unfolding card_lines_in said_in
say_skipped text texts ls is others = rw is others

say_more : (text : List ℕ) (texts : List (List ℕ)) (l : CardLine) (ls : List CardLine) → card_line_of text ≡ Says l
    → card_lines_in texts ≡ Some ls → card_lines_in (text ∷ texts) ≡ Some (l ∷ ls)
unfolding card_lines_in said_in
say_more text texts l ls is others = rw (is, others) refl

kind_first : (title text : List ℕ) (texts : List (List ℕ)) (kind : CardKind) → card_line_of title ≡ Skipped
    → card_line_of text ≡ Says (Kind kind) → kind_in (title ∷ text ∷ texts) ≡ Some kind
unfolding kind_in
kind_first title text texts kind skipped is = rw (skipped, is) refl

-- ---- a card that is plain

-- a spec by its parts, which is plain in all else
abbrev pub plain_spec : KindRegisters → ℕ → List ℕ → List ℕ → ℕ → CardSpec
plain_spec kind ocr cid csd sectors =
    record {
      registers = record { kind = kind; ocr = ocr; cid = cid; csd = csd; is_locked = false };
      sectors = sectors;
      ready = 0;
      busy = 0;
      early = None;
      keeps_length = true;
      refusal = None;
      stays_busy = false;
      lagging = 0;
      late = 0;
      goes_on = false;
      shows_app_cmd = false;
      ages = false;
      image = None;
    }

-- a spec by each of its fields
abbrev spec_of_fields : KindRegisters → ℕ → List ℕ → List ℕ → Bool → ℕ → ℕ → ℕ → Option ℕ → Bool → Option Refusal → Bool
    → ℕ → ℕ → Bool → Bool → Bool → Option (List ℕ) → CardSpec
spec_of_fields kind ocr cid csd locked sectors ready busy early keeps refusal stays lagging late goes shows ages image =
    record {
      registers = record { kind = kind; ocr = ocr; cid = cid; csd = csd; is_locked = locked };
      sectors = sectors;
      ready = ready;
      busy = busy;
      early = early;
      keeps_length = keeps;
      refusal = refusal;
      stays_busy = stays;
      lagging = lagging;
      late = late;
      goes_on = goes;
      shows_app_cmd = shows;
      ages = ages;
      image = image;
    }

plain_is : (spec : CardSpec) → IsPlain spec
    → spec
    ≡ plain_spec spec.registers.kind spec.registers.ocr spec.registers.cid spec.registers.csd spec.sectors
plain_is spec h =
    let r = spec.registers in
    let fields : (locked : Bool) (ready busy : ℕ) (early : Option ℕ) (keeps : Bool) (refusal : Option Refusal) (stays : Bool)
    (lagging late : ℕ) (goes shows ages : Bool) (image : Option (List ℕ)) → locked ≡ false → ready ≡ 0 → busy ≡ 0 → early ≡ None → keeps ≡ true
    → refusal ≡ None → stays ≡ false → lagging ≡ 0 → late ≡ 0 → goes ≡ false → shows ≡ false
    → ages ≡ false → image ≡ None
    → spec_of_fields r.kind r.ocr r.cid r.csd locked spec.sectors ready busy early keeps refusal stays lagging late goes
    shows ages image
    ≡ plain_spec r.kind r.ocr r.cid r.csd spec.sectors = λ locked ready busy early keeps refusal stays lagging late goes shows ages image
    a b c d e f g i j k l m n. cc in
    fields r.is_locked spec.ready spec.busy spec.early spec.keeps_length spec.refusal spec.stays_busy spec.lagging
    spec.late spec.goes_on spec.shows_app_cmd spec.ages spec.image
    h.unlocked h.ready h.busy h.early h.keeps_length h.refusal h.stays_busy h.lagging
    h.late h.goes_on h.shows_app_cmd h.ages h.image

-- ---- an SD card

abbrev sd_card_lines : SdRegisters → ℕ → List ℕ → List ℕ → ℕ → List CardLine
sd_card_lines sd ocr cid csd sectors =
    Kind Is.Sd ∷ Ocr ocr ∷ Cid cid ∷ Csd csd ∷ Sectors sectors ∷ Scr sd.scr ∷ Cmd8 sd.answers_cmd8
    ∷ HighSpeed (Taken sd.has_high_speed) ∷ []

sd_stand : (sd : SdRegisters) (ocr : ℕ) (cid csd : List ℕ) (sectors : ℕ)
    → StandTogether (Some Is.Sd) (sd_card_lines sd ocr cid csd sectors)
unfolding IsDistinct plan_of
sd_stand sd ocr cid csd sectors = record {
  of_kind = All-from_recursion (λ l. may_have (Some Is.Sd) l ≡ true) (sd_card_lines sd ocr cid csd sectors)
      (refl, (refl, (refl, (refl, (refl, (refl, (refl, (refl, tt))))))));
  once = (
    (refl, (refl, (refl, (refl, (refl, (refl, (refl, tt))))))),
    (
      (refl, (refl, (refl, (refl, (refl, (refl, tt)))))),
      (
        (refl, (refl, (refl, (refl, (refl, tt))))),
        (
          (refl, (refl, (refl, (refl, tt)))),
          (
            (refl, (refl, (refl, tt))),
            (
              (refl, (refl, tt)),
              ((refl, tt), (tt, tt)),
            ),
          ),
        ),
      ),
    ),
  );
  few = omega arith;
}

abbrev of_sd : List ℕ → ℕ → Bool → Bool → Bool → SdRegisters
of_sd scr rca changes cmd8 high_speed =
    record { scr = scr; rca = rca; rca_changes = changes; answers_cmd8 = cmd8; has_high_speed = high_speed }

-- the registers of an SD card that publishes RCA 1
abbrev first_rca_sd : List ℕ → Bool → Bool → SdRegisters
first_rca_sd scr cmd8 high_speed = of_sd scr 1 false cmd8 high_speed

sd_given : (scr : List ℕ) (cmd8 high_speed : Bool) (ocr : ℕ) (cid csd : List ℕ) (sectors : ℕ)
    → spec_of (sd_card_lines (first_rca_sd scr cmd8 high_speed) ocr cid csd sectors)
    ≡ Some (plain_spec (Has.Sd (first_rca_sd scr cmd8 high_speed)) ocr cid csd sectors)
unfolding spec_of given_by first_of
sd_given scr cmd8 high_speed ocr cid csd sectors = refl

sd_said : (sd : SdRegisters) (spec : CardSpec) → spec.registers.kind ≡ Has.Sd sd → HasWidths spec.registers
    → AreBytes (to_be_bytes w32 spec.registers.ocr) → length sd.scr ≡ 8 → AreBytes sd.scr → spec.sectors < 2 ^ 64
    → card_lines_in ((common_lines spec ++ sd_lines sd) ++ [] ∷ [])
    ≡ Some (sd_card_lines sd spec.registers.ocr spec.registers.cid spec.registers.csd spec.sectors)
sd_said sd spec is widths ocr long bytes fits =
    let r = spec.registers in
    let kind : kind_by r.kind ≡ Is.Sd = ap kind_by is in
    say_skipped _ _ _ (title_skipped (kind_by r.kind) spec.sectors)
    (say_more _ _ _ _ (kind_said (kind_by r.kind) ∙ ap (λ k. Says (Kind k)) kind)
    (say_more _ _ _ _ (ocr_said r.ocr widths.ocr ocr)
    (say_more _ _ _ _ (cid_said r.cid widths.cid widths.cid_bytes)
    (say_more _ _ _ _ (csd_said r.csd widths.csd widths.csd_bytes)
    (say_more _ _ _ _ (sectors_said spec.sectors fits)
    (say_more _ _ _ _ (scr_said sd.scr long bytes)
    (say_more _ _ _ _ (cmd8_said sd.answers_cmd8)
    (say_more _ _ _ _ (high_speed_said sd.has_high_speed) say_none))))))))

sd_are_lines : (sd : SdRegisters) → AreLines (sd_lines sd)
sd_are_lines sd = (
  register_is_line (codes "scr") sd.scr refl,
  (cmd8_is_line sd.answers_cmd8, (high_speed_is_line sd.has_high_speed, tt)),
)

-- the lines of a plain card, and what they say, come to its card file
is_card_file : (spec : CardSpec) (own : List (List ℕ)) (ls : List CardLine) → own_lines spec.registers.kind ≡ own
    → AreLines own → spec.sectors < 2 ^ 64
    → card_lines_in ((common_lines spec ++ own) ++ [] ∷ []) ≡ Some ls
    → StandTogether (Some (kind_by spec.registers.kind)) ls → spec_of ls ≡ Some spec → plan_of ls ≡ []
    → IsCardFile (lines (card_file_text spec)) spec []
unfolding card_file_text
is_card_file spec own ls is are fits said stand given plan =
    let texts = (common_lines spec ++ own) ++ [] ∷ [] in
    let all : lines (ended_lines (common_lines spec ++ own_lines spec.registers.kind)) ≡ texts =
    ap (λ o. lines (ended_lines (common_lines spec ++ o))) is
    ∙ lines_ended (common_lines spec ++ own) (lines_append (common_lines spec) own (common_are_lines spec fits) are) in
    let kind : kind_in texts ≡ Some (kind_by spec.registers.kind) =
    kind_first _ _ _ (kind_by spec.registers.kind) (title_skipped (kind_by spec.registers.kind) spec.sectors)
    (kind_said (kind_by spec.registers.kind)) in
    subst (λ ts. IsCardFile ts spec []) (sym all) (record {
      ls = ls;
      good = subst (λ k. AreCardLines k texts ls) (sym kind) (record { said = said; together = stand });
      spec_said = given;
      plan_said = sym plan;
    })

sd_plan : (sd : SdRegisters) (ocr : ℕ) (cid csd : List ℕ) (sectors : ℕ)
    → plan_of (sd_card_lines sd ocr cid csd sectors) ≡ []
unfolding plan_of
sd_plan sd ocr cid csd sectors = refl

sd_by_fields : (scr : List ℕ) (rca : ℕ) (changes cmd8 high_speed : Bool) → rca ≡ 1 → changes ≡ false
    → of_sd scr rca changes cmd8 high_speed ≡ first_rca_sd scr cmd8 high_speed
sd_by_fields scr rca changes cmd8 high_speed e f = rw (e, f) refl

-- the card file of an SD card
sd_file : (spec : CardSpec) (sd : SdRegisters) → spec.registers.kind ≡ Has.Sd sd → IsPlain spec → HasWidths spec.registers
    → AreBytes (to_be_bytes w32 spec.registers.ocr) → spec.sectors < 2 ^ 64
    → IsCardFile (lines (card_file_text spec)) spec []
sd_file spec sd is plain widths ocr fits =
    let r = spec.registers in
    let own = subst HasOwnWidths is widths.own in
    let rca = subst HasFirstRca is plain.rca in
    let first : sd ≡ first_rca_sd sd.scr sd.answers_cmd8 sd.has_high_speed =
    sd_by_fields sd.scr sd.rca sd.rca_changes sd.answers_cmd8 sd.has_high_speed rca.0 rca.1 in
    let kind : Has.Sd sd ≡ r.kind = sym is in
    let whole : plain_spec (Has.Sd (first_rca_sd sd.scr sd.answers_cmd8 sd.has_high_speed)) r.ocr r.cid r.csd spec.sectors ≡ spec =
    ap (λ s. plain_spec (Has.Sd s) r.ocr r.cid r.csd spec.sectors) (sym first)
    ∙ ap (λ k. plain_spec k r.ocr r.cid r.csd spec.sectors) kind ∙ sym (plain_is spec plain) in
    let ls = sd_card_lines sd r.ocr r.cid r.csd spec.sectors in
    let given : spec_of ls ≡ Some spec =
    ap (λ s. spec_of (sd_card_lines s r.ocr r.cid r.csd spec.sectors)) first
    ∙ sd_given sd.scr sd.answers_cmd8 sd.has_high_speed r.ocr r.cid r.csd spec.sectors ∙ ap Some whole in
    is_card_file spec (sd_lines sd) ls (ap own_lines is) (sd_are_lines sd) fits
    (sd_said sd spec is widths ocr own.0 own.1 fits)
    (subst (λ k. StandTogether (Some (kind_by k)) ls) kind (sd_stand sd r.ocr r.cid r.csd spec.sectors)) given
    (sd_plan sd r.ocr r.cid r.csd spec.sectors)

-- ---- an eMMC device

abbrev exts : ℕ → List ℕ → List CardLine
exts place [] = []
exts place (byte ∷ bytes) = cond (byte == 0) (exts (suc place) bytes) (Ext place byte ∷ exts (suc place) bytes)

ext_step_said : (t : Bool) (place byte : ℕ) (texts : List (List ℕ)) (ls : List CardLine) → place < 512 → byte < 256
    → card_lines_in (texts ++ [] ∷ []) ≡ Some ls
    → card_lines_in ((cond t [] (name_line (byte_name place) ∷ ext_line place (byte ∷ []) ∷ []) ++ texts) ++ [] ∷ [])
    ≡ Some (cond t ls (Ext place byte ∷ ls))
ext_step_said true place byte texts ls near small h = h
ext_step_said false place byte texts ls near small h =
    say_skipped _ _ _ (name_skipped place) (say_more _ _ _ _ (ext_said place byte near small) h)

exts_said : (place : ℕ) (bytes : List ℕ) → place + length bytes ≤ 512 → AreBytes bytes
    → card_lines_in (ext_lines place bytes ++ [] ∷ []) ≡ Some (exts place bytes)
exts_said place [] near small = say_none
exts_said place (byte ∷ bytes) near small =
    ext_step_said (byte == 0) place byte (ext_lines (suc place) bytes) (exts (suc place) bytes) (omega arith) small.0
    (exts_said (suc place) bytes (omega arith) small.1)

-- what holds of every line of a byte holds of all of these lines
each_ext : (P : CardLine → Type 0) → ((place byte : ℕ) → P (Ext place byte)) → (place : ℕ) (bytes : List ℕ)
    → AllByRecursion P (exts place bytes)
each_ext P each place [] = tt
each_ext P each place (byte ∷ bytes) =
    elim (byte == 0) as (λ t. AllByRecursion P (cond t (exts (suc place) bytes) (Ext place byte ∷ exts (suc place) bytes))) [
      | true ↦ each_ext P each (suc place) bytes
      | false ↦ (each place byte, each_ext P each (suc place) bytes)
    ]

exts_distinct : (place : ℕ) (bytes : List ℕ) → IsDistinct (λ above line. repeats line above) (exts place bytes)
unfolding IsDistinct
exts_distinct place [] = tt
exts_distinct place (byte ∷ bytes) =
    elim (byte == 0) as (λ t. IsDistinct (λ above line. repeats line above)
    (cond t (exts (suc place) bytes) (Ext place byte ∷ exts (suc place) bytes))) [
      | true ↦ exts_distinct (suc place) bytes
      | false ↦ (
        each_ext (λ l. repeats l (Ext place byte) ≡ false) (λ other value. refl) (suc place) bytes,
        exts_distinct (suc place) bytes,
      )
    ]

-- no line of a byte gives what a key gives, or a fault
no_key : {B : Type 0} (value : CardLine → Option B) → ((place byte : ℕ) → value (Ext place byte) ≡ None) → (place : ℕ)
    (bytes : List ℕ) → first_of value (exts place bytes) ≡ None
unfolding first_of
no_key value none place [] = refl
no_key {B} value none place (byte ∷ bytes) =
    elim (byte == 0) as (λ t. first_of value (cond t (exts (suc place) bytes) (Ext place byte ∷ exts (suc place) bytes)) ≡ None) [
      | true ↦ no_key value none (suc place) bytes
      | false ↦ ap (λ (o : Option B). option_or o (first_of value (exts (suc place) bytes))) (none place byte)
          ∙ no_key value none (suc place) bytes
    ]

no_plan : (place : ℕ) (bytes : List ℕ) → plan_of (exts place bytes) ≡ []
unfolding plan_of
no_plan place [] = refl
no_plan place (byte ∷ bytes) =
    elim (byte == 0) as (λ t. plan_of (cond t (exts (suc place) bytes) (Ext place byte ∷ exts (suc place) bytes)) ≡ []) [
      | true ↦ no_plan (suc place) bytes
      | false ↦ no_plan (suc place) bytes
    ]

set_after : (front rest : List ℕ) (old byte : ℕ) → slice_set (front ++ old ∷ rest) (length front) byte ≡ front ++ byte ∷ rest
set_after [] rest old byte = refl
set_after (f ∷ front) rest old byte = ap (λ bs. f ∷ bs) (set_after front rest old byte)

put_step : (t : Bool) (place byte : ℕ) (front zeros : List ℕ) (ls : List CardLine) (whole : List ℕ) → (t ≡ true → byte ≡ 0)
    → fold with_byte (front ++ byte ∷ zeros) ls ≡ whole → slice_set (front ++ 0 ∷ zeros) place byte ≡ front ++ byte ∷ zeros
    → fold with_byte (front ++ 0 ∷ zeros) (cond t ls (Ext place byte ∷ ls)) ≡ whole
put_step true place byte front zeros ls whole zero next set =
    ap (λ b. fold with_byte (front ++ b ∷ zeros) ls) (sym (zero refl)) ∙ next
put_step false place byte front zeros ls whole zero next set = ap (λ block. fold with_byte block ls) set ∙ next

-- the bytes that aren't 00 are put in their places
exts_put : (front bytes : List ℕ) (place : ℕ) → place ≡ length front
    → fold with_byte (front ++ replicate (length bytes) 0) (exts place bytes) ≡ front ++ bytes
exts_put front [] place e = refl
exts_put front (byte ∷ bytes) place e =
    let zeros : List ℕ = replicate (length bytes) 0 in
    let rest : fold with_byte ((front ++ byte ∷ []) ++ zeros) (exts (suc place) bytes) ≡ (front ++ byte ∷ []) ++ bytes =
    exts_put (front ++ byte ∷ []) bytes (suc place) (omega (arith, length-append front (byte ∷ []))) in
    let next : fold with_byte (front ++ byte ∷ zeros) (exts (suc place) bytes) ≡ front ++ byte ∷ bytes =
    ap (λ block. fold with_byte block (exts (suc place) bytes)) (sym (append_assoc front (byte ∷ []) zeros)) ∙ rest
    ∙ append_assoc front (byte ∷ []) bytes in
    let set : slice_set (front ++ 0 ∷ zeros) place byte ≡ front ++ byte ∷ zeros =
    ap (λ i. slice_set (front ++ 0 ∷ zeros) i byte) e ∙ set_after front zeros 0 byte in
    put_step (byte == 0) place byte front zeros (exts (suc place) bytes) (front ++ byte ∷ bytes) (λ z. eqb-true byte 0 z) next set

abbrev mmc_card_lines : List ℕ → ℕ → List ℕ → List ℕ → ℕ → List CardLine
mmc_card_lines block ocr cid csd sectors =
    Kind Is.Mmc ∷ Ocr ocr ∷ Cid cid ∷ Csd csd ∷ Sectors sectors ∷ exts 0 block

mmc_stand : (block : List ℕ) (ocr : ℕ) (cid csd : List ℕ) (sectors : ℕ)
    → StandTogether (Some Is.Mmc) (mmc_card_lines block ocr cid csd sectors)
unfolding IsDistinct plan_of
mmc_stand block ocr cid csd sectors =
    let apart = λ (x : CardLine) (none : (place byte : ℕ) → repeats (Ext place byte) x ≡ false).
    each_ext (λ l. repeats l x ≡ false) none 0 block in
    record {
      of_kind = All-from_recursion (λ l. may_have (Some Is.Mmc) l ≡ true) (mmc_card_lines block ocr cid csd sectors)
          (refl, (refl, (refl, (refl, (refl, each_ext (λ l. may_have (Some Is.Mmc) l ≡ true) (λ place byte. refl) 0 block)))));
      once = (
        (refl, (refl, (refl, (refl, apart (Kind Is.Mmc) (λ place byte. refl))))),
        (
          (refl, (refl, (refl, apart (Ocr ocr) (λ place byte. refl)))),
          (
            (refl, (refl, apart (Cid cid) (λ place byte. refl))),
            (
              (refl, apart (Csd csd) (λ place byte. refl)),
              (apart (Sectors sectors) (λ place byte. refl), exts_distinct 0 block),
            ),
          ),
        ),
      );
      few = omega (arith, ap length (no_plan 0 block));
    }

mmc_plan : (block : List ℕ) (ocr : ℕ) (cid csd : List ℕ) (sectors : ℕ)
    → plan_of (mmc_card_lines block ocr cid csd sectors) ≡ []
unfolding plan_of
mmc_plan block ocr cid csd sectors = no_plan 0 block

mmc_said : (block : List ℕ) (spec : CardSpec) → spec.registers.kind ≡ Has.Mmc (record { ext_csd = block })
    → HasWidths spec.registers → AreBytes (to_be_bytes w32 spec.registers.ocr) → length block ≡ 512 → AreBytes block
    → spec.sectors < 2 ^ 64
    → card_lines_in ((common_lines spec ++ ext_lines 0 block) ++ [] ∷ [])
    ≡ Some (mmc_card_lines block spec.registers.ocr spec.registers.cid spec.registers.csd spec.sectors)
mmc_said block spec is widths ocr long bytes fits =
    let r = spec.registers in
    let kind : kind_by r.kind ≡ Is.Mmc = ap kind_by is in
    say_skipped _ _ _ (title_skipped (kind_by r.kind) spec.sectors)
    (say_more _ _ _ _ (kind_said (kind_by r.kind) ∙ ap (λ k. Says (Kind k)) kind)
    (say_more _ _ _ _ (ocr_said r.ocr widths.ocr ocr)
    (say_more _ _ _ _ (cid_said r.cid widths.cid widths.cid_bytes)
    (say_more _ _ _ _ (csd_said r.csd widths.csd widths.csd_bytes)
    (say_more _ _ _ _ (sectors_said spec.sectors fits) (exts_said 0 block (omega arith) bytes))))))

mmc_given : (block : List ℕ) (ocr : ℕ) (cid csd : List ℕ) (sectors : ℕ) → length block ≡ 512
    → spec_of (mmc_card_lines block ocr cid csd sectors)
    ≡ Some (plain_spec (Has.Mmc (record { ext_csd = block })) ocr cid csd sectors)
unfolding spec_of given_by first_of ext_csd_of
mmc_given block ocr cid csd sectors long =
    let put : fold with_byte (replicate 512 0) (exts 0 block) ≡ block =
    ap (λ n. fold with_byte (replicate n 0) (exts 0 block)) (sym long) ∙ exts_put [] block 0 refl in
    rw (
      no_key ready_of_line (λ place byte. refl) 0 block,
      no_key busy_of_line (λ place byte. refl) 0 block,
      no_key early_of_line (λ place byte. refl) 0 block,
      no_key keeps_length_of_line (λ place byte. refl) 0 block,
      no_key stays_busy_of_line (λ place byte. refl) 0 block,
      no_key lagging_of_line (λ place byte. refl) 0 block,
      no_key late_of_line (λ place byte. refl) 0 block,
      no_key goes_on_of_line (λ place byte. refl) 0 block,
      no_key shows_app_cmd_of_line (λ place byte. refl) 0 block,
      no_key ages_of_line (λ place byte. refl) 0 block,
      no_key locked_of_line (λ place byte. refl) 0 block,
      no_key high_speed_of_line (λ place byte. refl) 0 block,
      put,
    ) refl

-- the card file of an eMMC device
mmc_file : (spec : CardSpec) (block : List ℕ) → spec.registers.kind ≡ Has.Mmc (record { ext_csd = block }) → IsPlain spec
    → HasWidths spec.registers → AreBytes (to_be_bytes w32 spec.registers.ocr) → spec.sectors < 2 ^ 64
    → IsCardFile (lines (card_file_text spec)) spec []
mmc_file spec block is plain widths ocr fits =
    let r = spec.registers in
    let own = subst HasOwnWidths is widths.own in
    let whole : plain_spec (Has.Mmc (record { ext_csd = block })) r.ocr r.cid r.csd spec.sectors ≡ spec =
    ap (λ k. plain_spec k r.ocr r.cid r.csd spec.sectors) (sym is) ∙ sym (plain_is spec plain) in
    let ls = mmc_card_lines block r.ocr r.cid r.csd spec.sectors in
    is_card_file spec (ext_lines 0 block) ls (ap own_lines is) (ext_are_lines 0 block (omega (arith, own.0))) fits
    (mmc_said block spec is widths ocr own.0 own.1 fits)
    (subst (λ k. StandTogether (Some (kind_by k)) ls) (sym is) (mmc_stand block r.ocr r.cid r.csd spec.sectors))
    (mmc_given block r.ocr r.cid r.csd spec.sectors own.0 ∙ ap Some whole) (mmc_plan block r.ocr r.cid r.csd spec.sectors)

file_by : (spec : CardSpec) (kind : KindRegisters) → spec.registers.kind ≡ kind → IsPlain spec → HasWidths spec.registers
    → AreBytes (to_be_bytes w32 spec.registers.ocr) → spec.sectors < 2 ^ 64
    → IsCardFile (lines (card_file_text spec)) spec []
file_by spec (Has.Sd sd) is plain widths ocr fits = sd_file spec sd is plain widths ocr fits
file_by spec (Has.Mmc mmc) is plain widths ocr fits = mmc_file spec mmc.ext_csd is plain widths ocr fits

-- the card file of a plain card is read as that card
pub read_again : (spec : CardSpec) → IsPlain spec → HasWidths spec.registers
    → AreBytes (to_be_bytes w32 spec.registers.ocr) → spec.sectors < 2 ^ 64
    → IsCardFile (lines (card_file_text spec)) spec []
read_again spec = file_by spec spec.registers.kind refl
