-- The lines of a text of which something was written so far, and those that are left.
use Rattle.std.proofs.Common.{◌≡◌, ◌≤◌, ℕ, ◌+◌, List, [], ◌∷◌, ◌++◌, length, refl, sym, ap, ◌∙◌, append-nil, append_assoc, arith, suc}
use Rattle.card_text.specs.Script.{lines}
use Rattle.card_check.specs.ByLines.{by_lines}
use Rattle.card_check.proofs.WrongLineLemmas.{lines_few}

-- so many lines were reviewed, this was written of them, and `left` are those to come
pub record Reviewed (said : ℕ → List ℕ → List ℕ) (all left : List (List ℕ)) (most number : ℕ) (front : List ℕ) : Type 0 where
  pub few : number + length left ≤ most
  pub whole : by_lines said 1 all ≡ front ++ by_lines said (number + 1) left

pub reviewed_none : (said : ℕ → List ℕ → List ℕ) (text : List ℕ)
    → Reviewed said (lines text) (lines text) (length text + 1) 0 []
reviewed_none said text = let few = lines_few text in record { few = omega (arith, few); whole = refl }

module _ (said : ℕ → List ℕ → List ℕ) (all left others : List (List ℕ)) (line : List ℕ) (most number : ℕ)
    (front : List ℕ) where
  pub reviewed_few : Reviewed said all left most number front → left ≡ line ∷ others → number + 1 ≤ most
  reviewed_few j first =
      let few = j.few in
      let size : length left ≡ suc (length others) = ap length first in
      omega (arith, few, size)

  -- what is written of the next line, and after it
  pub reviewed_next : Reviewed said all left most number front → left ≡ line ∷ others
      → by_lines said 1 all ≡ front ++ (said (number + 1) line ++ by_lines said (number + 1 + 1) others)
  unfolding by_lines
  reviewed_next j first = j.whole ∙ ap (λ ls. front ++ by_lines said (number + 1) ls) first

  pub reviewed_more : Reviewed said all left most number front → left ≡ line ∷ others
      → Reviewed said all others most (number + 1) (front ++ said (number + 1) line)
  reviewed_more j first =
      let few = j.few in
      let size : length left ≡ suc (length others) = ap length first in
      record {
        few = omega (arith, few, size);
        whole = reviewed_next j first
            ∙ sym (append_assoc front (said (number + 1) line) (by_lines said (number + 1 + 1) others));
      }

pub reviewed_all : (said : ℕ → List ℕ → List ℕ) (all left : List (List ℕ)) (most number : ℕ) (front : List ℕ)
    → Reviewed said all left most number front → left ≡ [] → front ≡ by_lines said 1 all
unfolding by_lines
reviewed_all said all left most number front j none =
    sym (append-nil front) ∙ sym (j.whole ∙ ap (λ ls. front ++ by_lines said (number + 1) ls) none)
