-- Data as it is printed is read again.
use Rattle.std.proofs.Common.{◌≡◌, ℕ, ◌+◌, ◌/◌, ◌%◌, ◌^◌, ◌<◌, ◌≤◌, List, [], ◌∷◌, length, Some, Bool, true, false}
use Rattle.std.proofs.Common.{cond, map, sym, refl, ap, ap₂, ◌∙◌, arith}
use Rattle.std.specs.Prelude.{All, ◌==◌, nat_lt, option_and_then}
use Rattle.std.specs.Char.{digit_value}
use Rattle.std.specs.Fmt.{decimal}
use Rattle.std.specs.List.{join_with_byte, slice_split}
use Rattle.std.specs.Str.{all_ascii_digits}
use Rattle.std.specs.Str.Parse.{digits_value}
use Rattle.std.proofs.lemmas.Bool.{and_from, le-leb, lt-ltb, ne_eqb}
use Rattle.std.proofs.lemmas.Fmt.{decimal_nonempty, digits_decimal, digits_value-decimal}
use Rattle.std.proofs.lemmas.List.Elements.{All-append, All-cons, All-head, All-nil, All-tail, All-weaker}
use Rattle.std.proofs.lemmas.List.Splits.{slice_split_at, slice_split_none}
use Rattle.std.proofs.lemmas.Str.{digit_value-digit_char}
use Rattle.std.proofs.lemmas.Str.Parse.{tells_all_ascii_digits}
use Rattle.text_out.specs.Hex.{hex_digit}
use Rattle.text_out.specs.Repeats.{Repeat, repeat_text, repeats, repeats_text, spread, with_byte}
use Rattle.text_out.proofs.RepeatLemmas.{repeats_some, spread_repeats}
use Rattle.card_text.specs.Data.{capped, data_of, repeat_of, repeats_of, with_repeat}
use Rattle.card_text.specs.Numbers.{byte_of, number_of}
use Rattle.card_text.specs.Parts.{parts}
use Rattle.card_text.proofs.NumberLemmas.{decimal_model, guard_yes}

number_of-decimal : (n : ℕ) → n < 2 ^ 64 → number_of (decimal n) ≡ Some n
unfolding number_of
number_of-decimal n h =
    let value : digits_value 10 (decimal n) ≡ n = digits_value-decimal decimal_model n h in
    let small : digits_value 10 (decimal n) < 2 ^ 64 = omega (arith, value, h) in
    let digits = and_from _ _ (lt-ltb _ _ (decimal_nonempty n h)) (digits_decimal decimal_model n h) in
    sym (guard_yes _ _ _ (and_from _ _ digits (lt-ltb _ _ small)) (sym value))

byte_of-hex : (b : ℕ) → b < 256 → byte_of (hex_digit (b / 16) ∷ hex_digit (b % 16) ∷ []) ≡ Some b
unfolding byte_of
byte_of-hex b h =
    let high : digit_value (hex_digit (b / 16)) ≡ b / 16 = digit_value-digit_char (b / 16) (omega arith) in
    let low : digit_value (hex_digit (b % 16)) ≡ b % 16 = digit_value-digit_char (b % 16) (omega arith) in
    let high_fits : digit_value (hex_digit (b / 16)) < 16 = omega (arith, high) in
    let low_fits : digit_value (hex_digit (b % 16)) < 16 = omega (arith, low) in
    sym (guard_yes _ _ _ (and_from _ _ (lt-ltb _ _ high_fits) (lt-ltb _ _ low_fits)) (omega (arith, high, low)))

abbrev Other : ℕ → ℕ → Type 0
Other c b = (b == c) ≡ false

-- no byte of the list is c
abbrev Lacks : ℕ → List ℕ → Type 0
Lacks c bs = All (Other c) bs

lacks_cons : (c b : ℕ) (bs : List ℕ) → (b ≡ c → ⊥) → Lacks c bs → Lacks c (b ∷ bs)
lacks_cons c b bs ne h = All-cons (Other c) b bs (ne_eqb b c ne) h

lacks_digits : (c : ℕ) (ds : List ℕ) → c < 48 → all_ascii_digits ds ≡ true → Lacks c ds
lacks_digits c [] small h = All-nil (Other c)
lacks_digits c (d ∷ ds) small h =
    let p = tells_all_ascii_digits.parts d ds h in
    lacks_cons c d ds (λ e. absurd (omega (arith, p.0, e))) (lacks_digits c ds small p.1)

lacks_decimal : (c n : ℕ) → c < 48 → n < 2 ^ 64 → Lacks c (decimal n)
lacks_decimal c n small h = lacks_digits c (decimal n) small (digits_decimal decimal_model n h)

digit_from_by : (t : Bool) (d : ℕ) → 48 ≤ cond t (48 + d) (87 + d)
digit_from_by true d = omega arith
digit_from_by false d = omega arith

digit_from : (d : ℕ) → 48 ≤ hex_digit d
digit_from d = digit_from_by (nat_lt d 10) d

lacks_hex : (c b : ℕ) → c < 48 → Lacks c (hex_digit (b / 16) ∷ hex_digit (b % 16) ∷ [])
lacks_hex c b small =
    lacks_cons c (hex_digit (b / 16)) (hex_digit (b % 16) ∷ []) (λ e. absurd (omega (arith, digit_from (b / 16), e)))
    (lacks_cons c (hex_digit (b % 16)) [] (λ e. absurd (omega (arith, digit_from (b % 16), e))) (All-nil (Other c)))

-- a repeat that the grammar knows
pub record IsKnownRepeat (most : ℕ) (r : Repeat) : Type 0 where
  pub byte : r.0 < 256
  pub some : 0 < r.1
  pub few : r.1 ≤ most

pub repeat_of-text : (r : Repeat) → IsKnownRepeat 1048576 r → repeat_of (repeat_text r) ≡ Some r
unfolding repeat_of parts
repeat_of-text r h =
    let hex = hex_digit (r.0 / 16) ∷ hex_digit (r.0 % 16) ∷ [] in
    let fits : r.1 < 2 ^ 64 = omega (arith, h.few) in
    let cut : slice_split (λ b. b == 42) (repeat_text r) ≡ hex ∷ decimal r.1 ∷ [] =
    slice_split_at (λ b. b == 42) hex 42 (decimal r.1) (lacks_hex 42 r.0 (omega arith)) refl
    ∙ ap (λ ps. hex ∷ ps) (slice_split_none (λ b. b == 42) (decimal r.1) (lacks_decimal 42 r.1 (omega arith) fits)) in
    rw (cut, byte_of-hex r.0 h.byte, number_of-decimal r.1 fits, lt-ltb 0 r.1 h.some) refl

lacks_text : (r : Repeat) → IsKnownRepeat 1048576 r → Lacks 44 (repeat_text r)
lacks_text r h =
    let fits : r.1 < 2 ^ 64 = omega (arith, h.few) in
    All-append (Other 44) (hex_digit (r.0 / 16) ∷ hex_digit (r.0 % 16) ∷ []) (42 ∷ decimal r.1)
    (lacks_hex 44 r.0 (omega arith))
    (lacks_cons 44 42 (decimal r.1) (λ e. absurd (omega (arith, e))) (lacks_decimal 44 r.1 (omega arith) fits))

-- the texts of repeats are the parts of their join
parts_join : (r : Repeat) (rs : List Repeat) → All (IsKnownRepeat 1048576) (r ∷ rs)
    → parts 44 (join_with_byte 44 (map repeat_text (r ∷ rs))) ≡ map repeat_text (r ∷ rs)
unfolding parts
parts_join r [] h =
    slice_split_none (λ b. b == 44) (repeat_text r) (lacks_text r (All-head (IsKnownRepeat 1048576) r [] h))
parts_join r (q ∷ rs) h =
    slice_split_at (λ b. b == 44) (repeat_text r) 44 (join_with_byte 44 (map repeat_text (q ∷ rs)))
    (lacks_text r (All-head (IsKnownRepeat 1048576) r (q ∷ rs) h)) refl
    ∙ ap (λ ps. repeat_text r ∷ ps) (parts_join q rs (All-tail (IsKnownRepeat 1048576) r (q ∷ rs) h))

repeats_of-texts : (rs : List Repeat) → All (IsKnownRepeat 1048576) rs → repeats_of (map repeat_text rs) ≡ Some rs
unfolding repeats_of
repeats_of-texts [] h = refl
repeats_of-texts (r ∷ rs) h =
    ap₂ with_repeat (repeat_of-text r (All-head (IsKnownRepeat 1048576) r rs h))
    (repeats_of-texts rs (All-tail (IsKnownRepeat 1048576) r rs h))

fewer : (least most : ℕ) (rs : List Repeat) → least ≤ most → All (IsKnownRepeat least) rs → All (IsKnownRepeat most) rs
fewer least most rs le h =
    All-weaker (IsKnownRepeat least) (IsKnownRepeat most)
    (λ r f. record { byte = f.byte; some = f.some; few = omega (arith, f.few) }) rs h

wider : (most : ℕ) (rs : List Repeat) → All (IsKnownRepeat most) rs → All (IsKnownRepeat (most + 1)) rs
wider most rs h = fewer most (most + 1) rs (omega arith) h

fine_by : (t : Bool) (most b : ℕ) (r : Repeat) (rs : List Repeat) → b < 256 → All (IsKnownRepeat most) (r ∷ rs)
    → All (IsKnownRepeat (most + 1)) (cond t ((b, r.1 + 1) ∷ rs) ((b, 1) ∷ r ∷ rs))
fine_by true most b r rs small h =
    let f = All-head (IsKnownRepeat most) r rs h in
    All-cons (IsKnownRepeat (most + 1)) (b, r.1 + 1) rs
    (record { byte = small; some = omega arith; few = omega (arith, f.few) })
    (wider most rs (All-tail (IsKnownRepeat most) r rs h))
fine_by false most b r rs small h =
    All-cons (IsKnownRepeat (most + 1)) (b, 1) (r ∷ rs) (record { byte = small; some = omega arith; few = omega arith })
    (wider most (r ∷ rs) h)

fine_with : (most b : ℕ) (rs : List Repeat) → b < 256 → All (IsKnownRepeat most) rs
    → All (IsKnownRepeat (most + 1)) (with_byte b rs)
fine_with most b [] small h =
    All-cons (IsKnownRepeat (most + 1)) (b, 1) [] (record { byte = small; some = omega arith; few = omega arith })
    (All-nil (IsKnownRepeat (most + 1)))
fine_with most b (r ∷ rs) small h = fine_by (b == r.0) most b r rs small h

fine_repeats : (bs : List ℕ) → All (λ b. b < 256) bs → All (IsKnownRepeat (length bs)) (repeats bs)
unfolding repeats
fine_repeats [] h = All-nil (IsKnownRepeat 0)
fine_repeats (b ∷ bs) h =
    fewer (length bs + 1) (length (b ∷ bs)) (with_byte b (repeats bs)) (omega arith)
    (fine_with (length bs) b (repeats bs) (All-head (λ x. x < 256) b bs h)
    (fine_repeats bs (All-tail (λ x. x < 256) b bs h)))

read_by : (bs : List ℕ) (rs : List Repeat) → repeats bs ≡ rs → (rs ≡ [] → ⊥) → length bs ≤ 1048576
    → All (IsKnownRepeat 1048576) rs → data_of (repeats_text bs) ≡ Some bs
unfolding data_of repeats_text
read_by bs [] e some short h = absurd (some refl)
read_by bs (r ∷ rs) e some short h =
    let text : join_with_byte 44 (map repeat_text (repeats bs)) ≡ join_with_byte 44 (map repeat_text (r ∷ rs)) =
    ap (λ l. join_with_byte 44 (map repeat_text l)) e in
    let back : spread (r ∷ rs) ≡ bs = ap spread (sym e) ∙ spread_repeats bs in
    ap (λ t. option_and_then (λ l. capped (spread l)) (repeats_of (parts 44 t))) text
    ∙ ap (λ ps. option_and_then (λ l. capped (spread l)) (repeats_of ps)) (parts_join r rs h)
    ∙ ap (option_and_then (λ l. capped (spread l))) (repeats_of-texts (r ∷ rs) h)
    ∙ ap capped back
    ∙ rw (le-leb (length bs) 1048576 short) refl

nonempty : (bs : List ℕ) → 0 < length bs → bs ≡ [] → ⊥
nonempty bs some none = omega (arith, some, ap length none)

pub data_read_again : (bs : List ℕ) → 0 < length bs → length bs ≤ 1048576 → All (λ b. b < 256) bs
    → data_of (repeats_text bs) ≡ Some bs
data_read_again bs some short bytes =
    read_by bs (repeats bs) refl (repeats_some bs (nonempty bs some)) short
    (fewer (length bs) 1048576 (repeats bs) short (fine_repeats bs bytes))
