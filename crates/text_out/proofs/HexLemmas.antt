-- The byte at a place, and those after it.
use Rattle.std.proofs.Common.{◌≡◌, ◌<◌, ◌+◌, ℕ, List, [], ◌∷◌, ◌++◌, length, drop, get_or, sym, ap, ◌∙◌, drop-cons}
use Rattle.std.proofs.Common.{add-one}
use Rattle.text_out.specs.Hex.{hex_text}

pub hex_at : (bs : List ℕ) (i : ℕ) → i < length bs → hex_text (drop i bs) ≡ hex_text (get_or bs i 0 ∷ []) ++ hex_text
    (drop (i + 1) bs)
hex_at bs i lt = ap hex_text (drop-cons bs i 0 lt) ∙ ap (λ n. hex_text (get_or bs i 0 ∷ []) ++ hex_text (drop n bs))
    (sym (add-one i))
