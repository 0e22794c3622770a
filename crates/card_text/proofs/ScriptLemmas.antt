-- The lines that were read so far, and those that are left.
use Rattle.std.proofs.Common.{◌≡◌, ◌≢◌, ℕ, ◌+◌, ◌-◌, ◌≤◌, List, [], ◌∷◌, ◌++◌, length, get_or, eqb, Some, sym, refl, ap}
use Rattle.std.proofs.Common.{◌∙◌, subst, arith, append_assoc, length-append}
use Rattle.std.proofs.lemmas.List.Splits.{length-slice_split}
use Rattle.std.proofs.lemmas.List.Sums.{count_by-le-length}
use Rattle.card_text.specs.declared.event.ScriptEvent.{ScriptEvent}
use Rattle.card_text.specs.declared.text_line.Line.TheVariants.{Bad, Says, Skipped}
use Rattle.card_text.specs.Parts.{parts}
use Rattle.card_text.specs.Script.{IsFirstBadLine, events_in, line_of, lines}
use Rattle.card_text.specs.TextLines.{said_in}
use Rattle.card_text.proofs.TextLineLemmas.{good_lines, said_more, said_skipped}

-- what was read of all the lines, where `left` are those to come
pub record ScriptRead (all left : List (List ℕ)) (number : ℕ) (events : List ScriptEvent) : Type 0 where
  pub done : List (List ℕ)
  pub split : all ≡ done ++ left
  pub counted : number ≡ length done
  pub said : events_in done ≡ Some events

pub read_none : (all : List (List ℕ)) → ScriptRead all all 0 []
unfolding events_in said_in
read_none all = record { done = []; split = refl; counted = refl; said = refl }

-- one more line, which changes what was said
more : (all left others : List (List ℕ)) (line : List ℕ) (number : ℕ) (events grown : List ScriptEvent)
    (read : ScriptRead all left number events) → left ≡ line ∷ others → events_in (read.done ++ line ∷ []) ≡ Some grown
    → ScriptRead all others (number + 1) grown
more all left others line number events grown read first said = record {
  done = read.done ++ line ∷ [];
  split = read.split ∙ ap (λ ls. read.done ++ ls) first ∙ sym (append_assoc read.done (line ∷ []) others);
  counted = omega (arith, read.counted, length-append read.done (line ∷ []));
  said = said;
}

-- a line that is skipped
pub read_skipped : (all left others : List (List ℕ)) (line : List ℕ) (number : ℕ) (events : List ScriptEvent)
    → ScriptRead all left number events → left ≡ line ∷ others → line_of line ≡ Skipped
    → ScriptRead all others (number + 1) events
unfolding events_in
read_skipped all left others line number events read first is =
    more all left others line number events events read first (said_skipped line_of read.done line events read.said is)

-- a line that says an event
pub read_event : (all left others : List (List ℕ)) (line : List ℕ) (number : ℕ) (events : List ScriptEvent)
    (event : ScriptEvent) → ScriptRead all left number events → left ≡ line ∷ others → line_of line ≡ Says event
    → ScriptRead all others (number + 1) (events ++ event ∷ [])
unfolding events_in
read_event all left others line number events event read first is =
    more all left others line number events (events ++ event ∷ []) read first
    (said_more line_of read.done line events event read.said is)

at_left : (done : List (List ℕ)) (line : List ℕ) (others : List (List ℕ))
    → get_or (done ++ line ∷ others) (length done) [] ≡ line
at_left [] line others = refl
at_left (d ∷ ds) line others = at_left ds line others

pub read_bad : (all : List (List ℕ)) (left others : List (List ℕ)) (line : List ℕ) (number : ℕ)
    (events : List ScriptEvent)
    → ScriptRead all left number events → left ≡ line ∷ others → line_of line ≡ Bad → IsFirstBadLine all (number + 1)
unfolding events_in
read_bad all left others line number events read first bad =
    let whole : all ≡ read.done ++ line ∷ others = read.split ∙ ap (λ ls. read.done ++ ls) first in
    let size : length all ≡ length read.done + (length others + 1) =
    ap length whole ∙ length-append read.done (line ∷ others) ∙ ap (λ n. length read.done + n) (omega arith) in
    let here : number + 1 - 1 ≡ length read.done = omega (arith, read.counted) in
    record {
      counted = omega arith;
      stands = omega (arith, read.counted, size);
      bad = ap (λ n. line_of (get_or all n [])) here ∙ ap (λ ls. line_of (get_or ls (length read.done) [])) whole
          ∙ ap line_of (at_left read.done line others) ∙ bad;
      good_before = λ k lt. subst (λ ls. line_of (get_or ls k []) ≢ Bad) (sym whole)
          (good_lines line_of read.done (line ∷ others) events k read.said (omega (arith, read.counted)));
    }

-- a line that is left is no later than the text is long
pub lines_few : (text : List ℕ) (done left others : List (List ℕ)) (line : List ℕ)
    → lines text ≡ done ++ left → left ≡ line ∷ others → length done ≤ length text
unfolding parts
lines_few text done left others line split first =
    let whole : lines text ≡ done ++ line ∷ others = split ∙ ap (λ ls. done ++ ls) first in
    let size : length (lines text) ≡ length done + (length others + 1) =
    ap length whole ∙ length-append done (line ∷ others) ∙ ap (λ n. length done + n) (omega arith) in
    omega (arith, size, length-slice_split (λ b. eqb b 10) text, count_by-le-length (λ b. eqb b 10) text)

pub read_few : (text : List ℕ) (left others : List (List ℕ)) (line : List ℕ) (number : ℕ) (events : List ScriptEvent)
    → ScriptRead (lines text) left number events → left ≡ line ∷ others → number ≤ length text
read_few text left others line number events read first =
    omega (arith, read.counted, lines_few text read.done left others line read.split first)
