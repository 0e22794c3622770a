-- Pieces of data: the first one, and one more.
use Rattle.std.proofs.Common.{Bool, [], ap, false, true, append-nil, arith, drop, length, subst, sym, take, ◌%◌, ◌++◌, ◌<◌, ◌∙◌, ◌≡◌, ◌≤◌, ◌∷◌, List, ℕ}
use Rattle.std.proofs.Math.Seq.{drop-append_seam, take-append_seam}
use Rattle.std.proofs.lemmas.List.{drop_all, length-append, take_all}
use Rattle.std.specs.Prelude.{if◌then◌else◌}
use Rattle.nbd_server.specs.Data.{AreCut, joined}

-- the first piece is the first bytes, and the others are the rest
pub cut_front : (piece : List ℕ) (pieces : List (List ℕ)) → AreCut (piece ∷ pieces)
    → (piece ≡ take 8192 (joined (piece ∷ pieces))) × (joined pieces ≡ drop 8192 (joined (piece ∷ pieces)))
cut_front piece [] (some, few, whole, others) =
    (sym (ap (take 8192) (append-nil piece) ∙ take_all 8192 piece few), sym (ap (drop 8192) (append-nil piece) ∙ drop_all 8192 piece few))
cut_front piece (next ∷ pieces) (some, few, whole, others) =
    let long : length piece ≡ 8192 = whole (omega arith) in
    let rest = joined (next ∷ pieces) in (
      subst (λ n. piece ≡ take n (piece ++ rest)) long (sym (take-append_seam piece rest)),
      subst (λ n. rest ≡ drop n (piece ++ rest)) long (sym (drop-append_seam piece rest)),
    )

whole_one : (piece : List ℕ) (pieces : List (List ℕ)) → (0 < length pieces → length piece ≡ 8192) → 0 < length piece
    → length piece ≤ 8192 → length (joined (piece ∷ pieces)) % 8192 ≡ 0 → length piece ≡ 8192
whole_one piece [] whole some few full = omega (arith, some, few, full, length-append piece [])
whole_one piece (next ∷ pieces) whole some few full = whole (omega arith)

-- a piece after whole ones
pub cut_more : (pieces : List (List ℕ)) (piece : List ℕ) → AreCut pieces → length (joined pieces) % 8192 ≡ 0
    → 0 < length piece → length piece ≤ 8192 → AreCut (pieces ++ piece ∷ [])
cut_more [] piece cut full some few = (some, few, λ none. omega (arith, none), tt)
cut_more (first ∷ pieces) piece (some_first, few_first, whole, others) full some few =
    let long = whole_one first pieces whole some_first few_first full in
    let left : length (joined pieces) % 8192 ≡ 0 = omega (arith, long, full, length-append first (joined pieces)) in
    (some_first, few_first, λ more. long, cut_more pieces piece others left some few)

-- where it was put there
pub cut_after : (put : Bool) (old new : List (List ℕ)) (piece : List ℕ)
    → new ≡ (if put then old ++ piece ∷ [] else old) → AreCut old → length (joined old) % 8192 ≡ 0 → 0 < length piece
    → length piece ≤ 8192 → AreCut new
cut_after true old new piece is cut full some few = subst AreCut (sym is) (cut_more old piece cut full some few)
cut_after false old new piece is cut full some few = subst AreCut (sym is) cut
