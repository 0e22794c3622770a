-- The lines that were judged so far, and those that are left.
use Rattle.std.proofs.Common.{◌≡◌, ◌≤◌, ◌<◌, ℕ, ◌+◌, List, [], ◌∷◌, ◌++◌, length, drop, eqb, Option, refl, sym, ap, ◌∙◌}
use Rattle.std.proofs.Common.{append-nil, append_assoc, arith, map, subst, suc}
use Rattle.std.proofs.Common.{add-one, drop-cons, get_or}
use Rattle.std.proofs.Common.{None, Result, Some}
use Rattle.std.specs.Borrow.{Bor}
use Rattle.std.proofs.lemmas.List.{drop_all}
use Rattle.std.specs.Io.KnownBytes.{Appends}
use Rattle.std.specs.List.{flat_map}
use Rattle.std.specs.Prelude.{IsErr}
use Rattle.text_out.proofs.WritingLemmas.{appends_more, appends_none, writes_broken}
use Rattle.text_out.specs.Writing.{AppendsFront, Writes}
use Rattle.std.proofs.lemmas.List.Splits.{length-slice_split}
use Rattle.std.proofs.lemmas.List.Sums.{count_by-le-length}
use Rattle.card_text.specs.CardFile.{kind_in}
use Rattle.card_text.specs.CardLines.{card_line_of}
use Rattle.card_text.specs.Parts.{left_parts, parts}
use Rattle.card_text.specs.Script.{lines}
use Rattle.card_text.specs.declared.card_line.CardLine.{CardLine}
use Rattle.mmc_frame.specs.declared.kind.Kind.{Kind as CardKind}
use Rattle.card_check.specs.Causes.{wrong_with}
use Rattle.card_check.specs.WrongLines.{WrongLine, good_with, numbered, shown, wrong_from, wrong_lines}
use Rattle.card_check.specs.WrongLines.{wrong_text}
use Rattle.card_check.specs.declared.fault.CheckFault.{CheckFault}
use Rattle.card_check.specs.declared.finding.Finding.{Finding}

-- a text has one line more than line feeds at most
pub lines_few : (text : List ℕ) → length (lines text) ≤ length text + 1
unfolding parts
lines_few text = omega (arith, length-slice_split (λ b. eqb b 10) text, count_by-le-length (λ b. eqb b 10) text)

-- where nothing is left there is no line
pub none_left : (rest : Option (Bor (List ℕ))) → ((text : Bor (List ℕ)) → rest ≡ Some text → ⊥) → left_parts 10 rest ≡ []
none_left None none = refl
none_left (Some text) none = absurd (none text refl)

-- Of a card file.

-- so many lines were judged, these are good and these are wrong, and `left` are those to come
pub record Judged (kind : Option CardKind) (all left : List (List ℕ)) (most number : ℕ) (good : List CardLine)
    (found : List WrongLine) : Type 0 where
  pub few : number + length left ≤ most
  pub whole : wrong_from kind 1 [] all ≡ found ++ wrong_from kind (number + 1) good left

pub judged_none : (kind : Option CardKind) (text : List ℕ)
    → Judged kind (lines text) (lines text) (length text + 1) 0 [] []
judged_none kind text = let few = lines_few text in record { few = omega (arith, few); whole = refl }

pub judged_few : (kind : Option CardKind) (all left others : List (List ℕ)) (line : List ℕ) (most number : ℕ)
    (good : List CardLine) (found : List WrongLine)
    → Judged kind all left most number good found → left ≡ line ∷ others → number + 1 ≤ most
judged_few kind all left others line most number good found j first =
    let few = j.few in
    let size : length left ≡ suc (length others) = ap length first in
    omega (arith, few, size)

wrong_more : (kind : Option CardKind) (number : ℕ) (good : List CardLine) (line : List ℕ) (others : List (List ℕ))
    → wrong_from kind number good (line ∷ others)
    ≡ numbered number line (wrong_with kind good line)
    ++ wrong_from kind (number + 1) (good_with good (wrong_with kind good line) (card_line_of line)) others
unfolding wrong_from
wrong_more kind number good line others = refl

-- one line more
pub judged_more : (kind : Option CardKind) (all left others : List (List ℕ)) (line : List ℕ) (most number : ℕ)
    (good grown : List CardLine) (found more : List WrongLine)
    → Judged kind all left most number good found → left ≡ line ∷ others
    → grown ≡ good_with good (wrong_with kind good line) (card_line_of line)
    → more ≡ found ++ numbered (number + 1) line (wrong_with kind good line)
    → Judged kind all others most (number + 1) grown more
judged_more kind all left others line most number good grown found more j first goods founds =
    let few = j.few in
    let size : length left ≡ suc (length others) = ap length first in
    let rest = λ (above : List CardLine). wrong_from kind (number + 1 + 1) above others in
    record {
      few = omega (arith, few, size);
      whole = j.whole ∙ ap (λ ls. found ++ wrong_from kind (number + 1) good ls) first
          ∙ ap (λ ws. found ++ ws) (wrong_more kind (number + 1) good line others)
          ∙ sym (append_assoc found (numbered (number + 1) line (wrong_with kind good line)) (rest (good_with good (wrong_with kind good line) (card_line_of line))))
          ∙ ap (λ ws. ws ++ rest (good_with good (wrong_with kind good line) (card_line_of line))) (sym founds)
          ∙ ap (λ above. more ++ rest above) (sym goods);
    }

-- no line is left
pub judged_all : (kind : Option CardKind) (all left : List (List ℕ)) (most number : ℕ) (good : List CardLine)
    (found : List WrongLine)
    → Judged kind all left most number good found → left ≡ [] → kind ≡ kind_in all → found ≡ wrong_lines all
unfolding wrong_from
judged_all kind all left most number good found j none same =
    sym (append-nil found)
    ∙ sym (j.whole ∙ ap (λ ls. found ++ wrong_from kind (number + 1) good ls) none)
    ∙ ap (λ k. wrong_from k 1 [] all) same

-- the finding at a place, and those after it
pub found_at : (fs : List Finding) (i : ℕ) (none : Finding) → i < length fs
    → flat_map wrong_text (map shown (drop i fs))
    ≡ wrong_text (shown (get_or fs i none)) ++ flat_map wrong_text (map shown (drop (i + 1) fs))
found_at fs i none lt =
    ap (λ xs. flat_map wrong_text (map shown xs)) (drop-cons fs i none lt)
    ∙ ap (λ n. wrong_text (shown (get_or fs i none)) ++ flat_map wrong_text (map shown (drop n fs))) (sym (add-one i))

-- so many findings were written
pub record PutSoFar (fs : List Finding) (i : ℕ) (old now : Option (List ℕ)) : Type 0 where
  pub front : List ℕ
  pub split : flat_map wrong_text (map shown fs) ≡ front ++ flat_map wrong_text (map shown (drop i fs))
  pub printed : Appends old now front

pub put_none : (fs : List Finding) (old : Option (List ℕ)) → PutSoFar fs 0 old old
put_none fs old = record { front = []; split = refl; printed = appends_none old }

pub put_more : (fs : List Finding) (i : ℕ) (none : Finding) (old now new : Option (List ℕ)) → i < length fs
    → PutSoFar fs i old now → Appends now new (wrong_text (shown (get_or fs i none))) → PutSoFar fs (i + 1) old new
put_more fs i none old now new lt so_far line = record {
  front = so_far.front ++ wrong_text (shown (get_or fs i none));
  split = so_far.split ∙ ap (λ t. so_far.front ++ t) (found_at fs i none lt) ∙ sym (append_assoc so_far.front _ _);
  printed = appends_more old now new so_far.front _ so_far.printed line;
}

pub put_broken : (fs : List Finding) (i : ℕ) (none : Finding) (old now new : Option (List ℕ))
    (r : Result Unit CheckFault) → i < length fs → PutSoFar fs i old now → IsErr r
    → AppendsFront now new (wrong_text (shown (get_or fs i none))) → Writes old new r (flat_map wrong_text (map shown fs))
put_broken fs i none old now new r lt so_far failed line =
    writes_broken old now new r so_far.front (wrong_text (shown (get_or fs i none)))
    (flat_map wrong_text (map shown (drop (i + 1) fs))) _ failed
    (so_far.split ∙ ap (λ t. so_far.front ++ t) (found_at fs i none lt)) so_far.printed line

pub put_all : (fs : List Finding) (i : ℕ) (old now : Option (List ℕ)) → length fs ≤ i → PutSoFar fs i old now
    → Appends old now (flat_map wrong_text (map shown fs))
put_all fs i old now over so_far =
    subst (Appends old now)
    (sym (append-nil so_far.front)
    ∙ ap (λ xs. so_far.front ++ flat_map wrong_text (map shown xs)) (sym (drop_all i fs over)) ∙ sym so_far.split)
    so_far.printed
