-- The lines of a card file that were read so far, and those that are left.
use Rattle.std.proofs.Common.{◌≡◌, ℕ, ◌+◌, ◌-◌, ◌≤◌, List, [], ◌∷◌, ◌++◌, length, take, suc, Option, None, Some}
use Rattle.std.proofs.Common.{Bool, true, false, not, sym, refl, ap, ◌∙◌, subst, arith, append_assoc, length-append}
use Rattle.std.specs.List.{All, AllByRecursion, IsDistinct, filter_map, list_any}
use Rattle.std.proofs.lemmas.Bool.{and_from, and_parts, false≢true, ltb-true, lt-ltb, or_from, or_parts}
use Rattle.std.proofs.lemmas.List.Elements.{All-head, All-nil, All-push, All-tail, filter_map-append}
use Rattle.mmc_frame.specs.declared.kind.Kind.{Kind as CardKind}
use Rattle.card_text.specs.declared.card_line.CardLine.{CardLine}
use Rattle.card_text.specs.declared.card_line.CardLine.TheVariants.{Fault}
use Rattle.card_text.specs.declared.text_line.Line.TheVariants.{Bad, Says, Skipped}
use Rattle.card_text.specs.CardFile.{AreCardLines, AreGood, IsFirstBadCardLine, StandTogether, card_lines_in, has_room}
use Rattle.card_text.specs.CardFile.{may_have, may_stand, plan_of, planned_of_line}
use Rattle.card_text.specs.CardLines.{card_line_of, repeats}
use Rattle.card_text.specs.Script.{lines}
use Rattle.card_text.specs.TextLines.{said_in}
use Rattle.card_text.proofs.ScriptLemmas.{lines_few}
use Rattle.card_text.proofs.TextLineLemmas.{said_bad, said_more, said_skipped}

-- ---- one more line

each_push : {X : Type 0} (P : X → Type 0) (xs : List X) (y : X) → AllByRecursion P xs → P y
    → AllByRecursion P (xs ++ y ∷ [])
each_push P [] y all last = (last, tt)
each_push P (x ∷ xs) y all last = (all.0, each_push P xs y all.1 last)

each_front : {X : Type 0} (P : X → Type 0) (xs : List X) (y : X) → AllByRecursion P (xs ++ y ∷ [])
    → AllByRecursion P xs × P y
each_front P [] y all = (tt, all.0)
each_front P (x ∷ xs) y all = let rest = each_front P xs y all.1 in ((all.0, rest.0), rest.1)

module _ {X : Type 0} (again : X → X → Bool) where
  distinct_push : (xs : List X) (y : X) → IsDistinct (λ x z. again z x) xs → list_any (λ x. again y x) xs ≡ false
      → IsDistinct (λ x z. again z x) (xs ++ y ∷ [])
  unfolding IsDistinct
  distinct_push [] y once none = (tt, tt)
  distinct_push (x ∷ xs) y once none =
      let each = or_parts (again y x) _ none in
      (each_push (λ z. again z x ≡ false) xs y once.0 each.0, distinct_push xs y once.1 each.1)

  distinct_front : (xs : List X) (y : X) → IsDistinct (λ x z. again z x) (xs ++ y ∷ [])
      → list_any (λ x. again y x) xs ≡ false
  unfolding IsDistinct
  distinct_front [] y once = refl
  distinct_front (x ∷ xs) y once =
      or_from (again y x) _ (each_front (λ z. again z x ≡ false) xs y once.0).1 (distinct_front xs y once.1)

last_of_all : {X : Type 0} (P : X → Type 0) (xs : List X) (y : X) → All P (xs ++ y ∷ []) → P y
last_of_all P [] y all = All-head P y [] all
last_of_all P (x ∷ xs) y all = last_of_all P xs y (All-tail P x (xs ++ y ∷ []) all)

plan_push : (ls : List CardLine) (l : CardLine)
    → length (plan_of (ls ++ l ∷ [])) ≡ length (plan_of ls) + length (filter_map planned_of_line (l ∷ []))
unfolding plan_of
plan_push ls l =
    ap length (filter_map-append planned_of_line ls (l ∷ [])) ∙ length-append (filter_map planned_of_line ls) _

room : (ls : List CardLine) (l : CardLine) → length (plan_of ls) ≤ 256 → has_room ls l ≡ true
    → length (plan_of (ls ++ l ∷ [])) ≤ 256
room ls (Fault exchange fault) few has =
    omega (arith, few, plan_push ls (Fault exchange fault), ltb-true (length (plan_of ls)) 256 has)
room ls l few has = omega (arith, few, plan_push ls l)

room_left : (ls : List CardLine) (l : CardLine) → length (plan_of (ls ++ l ∷ [])) ≤ 256 → has_room ls l ≡ true
room_left ls (Fault exchange fault) few =
    lt-ltb (length (plan_of ls)) 256 (omega (arith, few, plan_push ls (Fault exchange fault)))
room_left ls l few = refl

not_false : (b : Bool) → b ≡ false → not b ≡ true
not_false true h = cc
not_false false h = refl

not_true : (b : Bool) → not b ≡ true → b ≡ false
not_true true h = cc
not_true false h = refl

stand_push : (kind : Option CardKind) (ls : List CardLine) (l : CardLine) → StandTogether kind ls
    → may_stand kind ls l ≡ true → StandTogether kind (ls ++ l ∷ [])
stand_push kind ls l together may =
    let both = and_parts _ _ may in
    let first = and_parts _ _ both.0 in
    record {
      of_kind = All-push (λ x. may_have kind x ≡ true) ls l together.of_kind first.0;
      once = distinct_push repeats ls l together.once (not_true _ first.1);
      few = room ls l together.few both.1;
    }

stand_front : (kind : Option CardKind) (ls : List CardLine) (l : CardLine) → StandTogether kind (ls ++ l ∷ [])
    → may_stand kind ls l ≡ true
stand_front kind ls l together =
    and_from _ _
    (and_from _ _ (last_of_all (λ x. may_have kind x ≡ true) ls l together.of_kind)
    (not_false _ (distinct_front repeats ls l together.once)))
    (room_left ls l together.few)

-- ---- the lines that were read

-- what was read of all the lines, where `left` are those to come
pub record CardRead (all left : List (List ℕ)) (kind : Option CardKind) (number : ℕ) (ls : List CardLine) : Type 0 where
  pub done : List (List ℕ)
  pub split : all ≡ done ++ left
  pub counted : number ≡ length done
  pub good : AreCardLines kind done ls

pub card_none : (all : List (List ℕ)) (kind : Option CardKind) → CardRead all all kind 0 []
unfolding card_lines_in said_in IsDistinct plan_of
card_none all kind = record {
  done = [];
  split = refl;
  counted = refl;
  good = record {
    said = refl;
    together = record { of_kind = All-nil (λ x. may_have kind x ≡ true); once = tt; few = omega arith };
  };
}

-- one more line, which changes what was said
more : (all left others : List (List ℕ)) (kind : Option CardKind) (line : List ℕ) (number : ℕ) (ls grown : List CardLine)
    (read : CardRead all left kind number ls) → left ≡ line ∷ others → AreCardLines kind (read.done ++ line ∷ []) grown
    → CardRead all others kind (number + 1) grown
more all left others kind line number ls grown read first good = record {
  done = read.done ++ line ∷ [];
  split = read.split ∙ ap (λ rest. read.done ++ rest) first ∙ sym (append_assoc read.done (line ∷ []) others);
  counted = omega (arith, read.counted, length-append read.done (line ∷ []));
  good = good;
}

-- a line that is skipped
pub card_skipped : (all left others : List (List ℕ)) (kind : Option CardKind) (line : List ℕ) (number : ℕ)
    (ls : List CardLine) → CardRead all left kind number ls → left ≡ line ∷ others → card_line_of line ≡ Skipped
    → CardRead all others kind (number + 1) ls
unfolding card_lines_in
card_skipped all left others kind line number ls read first is =
    more all left others kind line number ls ls read first (record {
      said = said_skipped card_line_of read.done line ls read.good.said is;
      together = read.good.together;
    })

-- a line that may stand
pub card_more : (all left others : List (List ℕ)) (kind : Option CardKind) (line : List ℕ) (number : ℕ)
    (ls : List CardLine) (l : CardLine) → CardRead all left kind number ls → left ≡ line ∷ others
    → card_line_of line ≡ Says l → may_stand kind ls l ≡ true
    → CardRead all others kind (number + 1) (ls ++ l ∷ [])
unfolding card_lines_in
card_more all left others kind line number ls l read first is may =
    more all left others kind line number ls (ls ++ l ∷ []) read first (record {
      said = said_more card_line_of read.done line ls l read.good.said is;
      together = stand_push kind ls l read.good.together may;
    })

-- ---- the first bad line

front_one : (done : List (List ℕ)) (line : List ℕ) (others : List (List ℕ))
    → take (suc (length done)) (done ++ line ∷ others) ≡ done ++ line ∷ []
front_one [] line others = refl
front_one (d ∷ ds) line others = ap (λ rest. d ∷ rest) (front_one ds line others)

front_all : (done left : List (List ℕ)) → take (length done) (done ++ left) ≡ done
front_all [] left = refl
front_all (d ∷ ds) left = ap (λ rest. d ∷ rest) (front_all ds left)

bad : (all left others : List (List ℕ)) (kind : Option CardKind) (line : List ℕ) (number : ℕ) (ls : List CardLine)
    (read : CardRead all left kind number ls) → left ≡ line ∷ others
    → (AreGood kind (read.done ++ line ∷ []) → ⊥) → IsFirstBadCardLine kind all (number + 1)
bad all left others kind line number ls read first none =
    let whole : all ≡ read.done ++ line ∷ others = read.split ∙ ap (λ rest. read.done ++ rest) first in
    let size : length all ≡ length read.done + (length others + 1) =
    ap length whole ∙ length-append read.done (line ∷ others) ∙ ap (λ n. length read.done + n) (omega arith) in
    let here : number + 1 - 1 ≡ length read.done = omega (arith, read.counted) in
    let next : number + 1 ≡ suc (length read.done) = omega (arith, read.counted) in
    let before : take (number + 1 - 1) all ≡ read.done =
    ap (λ n. take n all) here ∙ ap (take (length read.done)) read.split ∙ front_all read.done left in
    let upto : take (number + 1) all ≡ read.done ++ line ∷ [] =
    ap (λ n. take n all) next ∙ ap (take (suc (length read.done))) whole ∙ front_one read.done line others in
    record {
      counted = omega arith;
      stands = omega (arith, read.counted, size);
      good_before = subst (AreGood kind) (sym before) (ls, read.good);
      bad = λ good. none (subst (AreGood kind) upto good);
    }

-- a line that isn't of the grammar
pub card_bad : (all left others : List (List ℕ)) (kind : Option CardKind) (line : List ℕ) (number : ℕ)
    (ls : List CardLine) → CardRead all left kind number ls → left ≡ line ∷ others → card_line_of line ≡ Bad
    → IsFirstBadCardLine kind all (number + 1)
unfolding card_lines_in
card_bad all left others kind line number ls read first is =
    bad all left others kind line number ls read first
    (λ good. let none : None ≡ Some good.0 =
    sym (said_bad card_line_of read.done line ls read.good.said is) ∙ good.1.said in cc)

-- a line that may not stand
pub card_refused : (all left others : List (List ℕ)) (kind : Option CardKind) (line : List ℕ) (number : ℕ)
    (ls : List CardLine) (l : CardLine) → CardRead all left kind number ls → left ≡ line ∷ others
    → card_line_of line ≡ Says l → may_stand kind ls l ≡ false → IsFirstBadCardLine kind all (number + 1)
unfolding card_lines_in
card_refused all left others kind line number ls l read first is may_not =
    bad all left others kind line number ls read first
    (λ good. let both : Some (ls ++ l ∷ []) ≡ Some good.0 =
    sym (said_more card_line_of read.done line ls l read.good.said is) ∙ good.1.said in
    let same : ls ++ l ∷ [] ≡ good.0 = cc in
    let may : may_stand kind ls l ≡ true = stand_front kind ls l (subst (StandTogether kind) (sym same) good.1.together) in
    absurd (false≢true (sym may_not ∙ may)))

-- a line that is left is no later than the text is long
pub card_few : (text : List ℕ) (left others : List (List ℕ)) (kind : Option CardKind) (line : List ℕ) (number : ℕ)
    (ls : List CardLine) → CardRead (lines text) left kind number ls → left ≡ line ∷ others → number ≤ length text
card_few text left others kind line number ls read first =
    omega (arith, read.counted, lines_few text read.done left others line read.split first)
