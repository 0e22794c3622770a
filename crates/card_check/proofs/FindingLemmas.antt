-- A byte of a line, and those after it.
use Rattle.std.proofs.Common.{◌≡◌, ◌<◌, ◌+◌, ℕ, List, ◌++◌, length, drop, get_or, sym, ap, ◌∙◌, drop-cons, add-one}
use Rattle.card_check.specs.Findings.{byte_text, quoted_text}

pub quoted_at : (bs : List ℕ) (i : ℕ) → i < length bs
    → quoted_text (drop i bs) ≡ byte_text (get_or bs i 0) ++ quoted_text (drop (i + 1) bs)
quoted_at bs i lt = ap quoted_text (drop-cons bs i 0 lt)
    ∙ ap (λ n. byte_text (get_or bs i 0) ++ quoted_text (drop n bs)) (sym (add-one i))
