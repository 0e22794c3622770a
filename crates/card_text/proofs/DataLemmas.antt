-- Bytes so far, and what the repeats of the other parts add.
use Rattle.std.proofs.Common.{◌≡◌, ℕ, ◌+◌, ◌<◌, ◌≤◌, List, [], ◌∷◌, ◌++◌, length, Option, None, Some, refl, ap, ◌∙◌}
use Rattle.std.proofs.Common.{arith, append_assoc, append-nil, length-append}
use Rattle.std.specs.Prelude.{option_and_then, replicate}
use Rattle.std.proofs.lemmas.Bool.{le-leb, leb-true}
use Rattle.std.proofs.lemmas.List.{length-replicate}
use Rattle.card_text.proofs.NumberLemmas.{guard_no}
use Rattle.text_out.specs.Repeats.{Repeat, spread}
use Rattle.card_text.specs.Parts.{parts}
use Rattle.card_text.specs.Data.{repeat_of, repeats_of, capped, with_repeat, data_of}

abbrev pub after : List ℕ → List (List ℕ) → Option (List ℕ)
after front texts = option_and_then (λ rs. capped (front ++ spread rs)) (repeats_of texts)

pub after_none : (text : List ℕ) → after [] (parts 44 text) ≡ data_of text
unfolding data_of
after_none text = refl

pub after_all : (front : List ℕ) → length front ≤ 1048576 → Some front ≡ after front []
unfolding repeats_of spread
after_all front short = rw (append-nil front, le-leb (length front) 1048576 short) refl

step : (front : List ℕ) (byte count : ℕ) (m : Option (List Repeat))
    → option_and_then (λ rs. capped ((front ++ replicate count byte) ++ spread rs)) m
    ≡ option_and_then (λ rs. capped (front ++ spread rs)) (with_repeat (Some (byte, count)) m)
unfolding spread
step front byte count None = refl
step front byte count (Some rs) = ap capped (append_assoc front (replicate count byte) (spread rs))

pub after_more : (front : List ℕ) (first : List ℕ) (texts : List (List ℕ)) (byte count : ℕ)
    → Some (byte, count) ≡ repeat_of first → after (front ++ replicate count byte) texts ≡ after front (first ∷ texts)
unfolding repeats_of
after_more front first texts byte count h = rw (← h) (step front byte count (repeats_of texts))

bad : (front : List ℕ) (m : Option (List Repeat))
    → None ≡ option_and_then (λ rs. capped (front ++ spread rs)) (with_repeat None m)
bad front None = refl
bad front (Some rs) = refl

pub after_bad : (front : List ℕ) (first : List ℕ) (texts : List (List ℕ)) → None ≡ repeat_of first
    → None ≡ after front (first ∷ texts)
unfolding repeats_of
after_bad front first texts h = rw (← h) (bad front (repeats_of texts))

long_step : (front : List ℕ) (byte count : ℕ) (m : Option (List Repeat)) → 1048576 < length front + count
    → None ≡ option_and_then (λ rs. capped (front ++ spread rs)) (with_repeat (Some (byte, count)) m)
unfolding spread
long_step front byte count None long = refl
long_step front byte count (Some rs) long = guard_no _ _ (λ t. let k = leb-true _ _ t in
    let more : length (replicate count byte ++ spread rs) ≡ count + length (spread rs) =
    length-append (replicate count byte) (spread rs) ∙ ap (λ n. n + length (spread rs)) (length-replicate count byte) in
    let e : length (front ++ (replicate count byte ++ spread rs)) ≡ length front + (count + length (spread rs)) =
    length-append front _ ∙ ap (λ n. length front + n) more in
    omega (arith, k, e))

pub after_long : (front : List ℕ) (first : List ℕ) (texts : List (List ℕ)) (byte count : ℕ)
    → Some (byte, count) ≡ repeat_of first → 1048576 < length front + count → None ≡ after front (first ∷ texts)
unfolding repeats_of
after_long front first texts byte count h long = rw (← h) (long_step front byte count (repeats_of texts) long)
