-- What is taken from the end of a list that was turned round.
use Rattle.std.proofs.Common.{◌++◌, ◌<◌, ◌∷◌, ◌≡◌, ◌∙◌, List, None, Option, Some, [], ap, append-nil, append_assoc, arith}
use Rattle.std.proofs.Common.{false, length, refl, reverse, sym, true}
use Rattle.std.specs.Prelude.{IsSome, MatchOption, map, option_to_list}
use Rattle.std.specs.List.{refill}
use Rattle.std.proofs.lemmas.List.{length-reverse, reverse-append, reverse-reverse}
use Rattle.arrayvec.specs.ArrayVec.{ArrayVec, array_vec_len}
use Rattle.arrayvec.proofs.ArrayVecLemmas.{items-with_items}

-- what a list has once it was turned round where it stands
pub turned : {X : Type 0} (v : ArrayVec X) (rs : List X) → rs ≡ reverse v.items
    → refill (array_vec_len v) v.items rs ≡ reverse v.items
turned v rs is = items-with_items v rs (ap length is ∙ length-reverse v.items) ∙ is

-- the last is the first once they are turned round
pub last_first : {X : Type 0} (xs ls : List X) (x : X) → xs ≡ ls ++ x ∷ [] → reverse xs ≡ x ∷ reverse ls
last_first xs ls x is = ap reverse is ∙ reverse-append ls (x ∷ [])

-- of all that were given and those that are left, the last of these is given next
pub given_more : {X Y : Type 0} (f : X → Y) (xs ls : List X) (x : X) (given all : List Y) → xs ≡ ls ++ x ∷ []
    → given ++ map f (reverse xs) ≡ all → (given ++ f x ∷ []) ++ map f (reverse ls) ≡ all
given_more f xs ls x given all is told =
    append_assoc given (f x ∷ []) (map f (reverse ls)) ∙ sym (ap (λ rs. given ++ map f rs) (last_first xs ls x is)) ∙ told

none_by : {X : Type 0} (xs : List X) (o : Option X) → o ≡ None → (0 < length xs → IsSome o) → xs ≡ []
none_by [] o none some = refl
none_by (x ∷ xs) (Some y) none some = cc
none_by (x ∷ xs) None none some = let bad : false ≡ true = some (omega arith) in cc

-- where nothing is taken there is nothing
pub none_left : {X : Type 0} (xs ls : List X) (o : Option X) → o ≡ None → xs ≡ ls ++ option_to_list o
    → (0 < length xs → IsSome o) → (xs ≡ []) × (ls ≡ [])
none_left xs ls (Some x) none is some = absurd cc
none_left xs ls None none is some =
    let empty = none_by xs None refl some in (empty, sym (append-nil ls) ∙ sym is ∙ empty)

-- taking the last of them turned round, and turning the rest back
pub taken_first : {X : Type 0} (xs ls : List X) (first : Option X) → reverse xs ≡ ls ++ option_to_list first
    → (0 < length (reverse xs) → IsSome first)
    → MatchOption first ((xs ≡ []) × (reverse ls ≡ [])) (λ x. xs ≡ x ∷ reverse ls)
taken_first xs ls (Some x) is some = sym (reverse-reverse xs) ∙ last_first (reverse xs) ls x is
taken_first xs ls None is some =
    let none = none_left (reverse xs) ls None refl is some in
    (sym (reverse-reverse xs) ∙ ap reverse none.0, ap reverse none.1)
