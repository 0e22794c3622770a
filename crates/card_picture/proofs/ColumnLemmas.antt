-- A text up to the first byte of a kind.
use Rattle.std.proofs.Common.{◌≡◌, ◌<◌, ◌≤◌, ℕ, List, ap, length, get_or, take}
use Rattle.std.specs.Prelude.{◌==◌, not}
use Rattle.std.proofs.lemmas.Bool.{eq-eqb, ne_eqb}
use Rattle.std.proofs.lemmas.List.Sums.{prefix_len_is}
use Rattle.card_picture.specs.Columns.{up_to}

pub up_to_is : (end : ℕ) (text : List ℕ) (n : ℕ) → n ≤ length text → ((k : ℕ) → k < n → get_or text k 0 ≡ end → ⊥)
    → (n < length text → get_or text n 0 ≡ end) → up_to end text ≡ take n text
unfolding up_to
up_to_is end text n within before here =
    ap (λ m. take m text) (prefix_len_is (λ byte. not (byte == end)) text n 0 within
    (λ k lt. ap not (ne_eqb _ _ (before k lt))) (λ lt. ap not (eq-eqb _ _ (here lt))))
