-- A line with its check after it has no remainder.
use Rattle.std.proofs.Common.{◌≡◌, ℕ, ◌+◌, ◌*◌, ◌/◌, ◌%◌, ◌^◌, ◌<◌, inl, inr, List, [], ◌∷◌, ◌++◌, length}
use Rattle.std.proofs.Common.{Bool, true, false, cond, refl, sym, ◌∙◌, ap, arith, bit_xor, append_assoc, append-nil}
use Rattle.std.specs.Prelude.{◌==◌}
use Rattle.std.specs.Int.Bits.{xor_self, xor_zero_r, xor_assoc}
use Rattle.std.proofs.lemmas.Nat.{xor_lt, xor_block}
use Rattle.std.proofs.lemmas.Bool.{cases_eq, eq-eqb, ne_eqb}
use Rattle.card_wave.specs.LineCheck.{times_x, remainder, line_check, check_bits}
use Rattle.card_wave.proofs.Linear.{pushed, remainder-lt, remainder-push, line_check-lt, line_check_is, shift, shift_within, times_x_linear, times_x_low, times_x-lt}

-- bits after a remainder, one after another
abbrev pushed_all : ℕ → List Bool → ℕ
pushed_all p [] = p
pushed_all p (b ∷ bs) = pushed_all (pushed p b) bs

pushed-lt : (p : ℕ) (b : Bool) → p < 65536 → pushed p b < 65536
pushed-lt p true h = xor_lt 16 (times_x p) 1 (times_x-lt p h) (omega arith)
pushed-lt p false h = xor_lt 16 (times_x p) 0 (times_x-lt p h) (omega arith)

remainder-append : (xs ys : List Bool) → remainder (xs ++ ys) ≡ pushed_all (remainder xs) ys
remainder-append xs [] = ap remainder (append-nil xs)
remainder-append xs (y ∷ ys) =
    ap remainder (sym (append_assoc xs (y ∷ []) ys))
    ∙ remainder-append (xs ++ y ∷ []) ys
    ∙ ap (λ p. pushed_all p ys) (remainder-push xs y)

-- a sum is pushed part by part
pushed_sum : (p q : ℕ) (bs : List Bool) → p < 65536 → q < 65536 → pushed_all (bit_xor p q) bs
    ≡ bit_xor (shift (length bs) p) (pushed_all q bs)
unfolding shift
pushed_sum p q [] h k = refl
pushed_sum p q (b ∷ bs) h k =
    ap (λ x. pushed_all x bs) (ap (λ x. bit_xor x (cond b 1 0)) (times_x_linear p q h k)
    ∙ xor_assoc (times_x p) (times_x q) (cond b 1 0))
    ∙ pushed_sum (times_x p) (pushed q b) bs (times_x-lt p h) (pushed-lt q b k)
    ∙ ap (λ x. bit_xor x (pushed_all (pushed q b) bs)) (shift_within (length bs) p)

-- after a string, bits of their own
remainder_after : (xs ys : List Bool) → remainder (xs ++ ys) ≡ bit_xor (shift (length ys) (remainder xs))
    (remainder ys)
unfolding remainder
remainder_after xs ys =
    remainder-append xs ys
    ∙ ap (λ p. pushed_all p ys) (sym (xor_zero_r (remainder xs)))
    ∙ pushed_sum (remainder xs) 0 ys (remainder-lt xs) (omega arith)
    ∙ ap (bit_xor (shift (length ys) (remainder xs))) (sym (remainder-append [] ys))

even_and_one : (p : ℕ) → bit_xor (2 * p) 1 ≡ 2 * p + 1
even_and_one p =
    let x : bit_xor (p * 2 ^ 1 + 0) (0 * 2 ^ 1 + 1) ≡ bit_xor p 0 * 2 ^ 1 + bit_xor 0 1 =
    xor_block 1 p 0 0 1 (omega arith) (omega arith) in
    let a : 2 * p ≡ p * 2 ^ 1 + 0 = omega arith in
    ap (λ m. bit_xor m 1) a ∙ x ∙ ap (λ m. m * 2 + 1) (xor_zero_r p) ∙ omega arith

-- a number is twice its half, and its last bit
last_bit : (m : ℕ) → m < 65536 → pushed (m / 2) (m % 2 == 1) ≡ m
last_bit m h =
    let low : m / 2 < 32768 = omega arith in
    elim (cases_eq (m % 2) 1) [
      | inl one ↦ (rw (eq-eqb (m % 2) 1 one, times_x_low (m / 2) low, even_and_one (m / 2)) (omega arith))
      | inr other ↦ (rw (ne_eqb (m % 2) 1 other, times_x_low (m / 2) low, xor_zero_r (2 * (m / 2))) (omega arith))
    ]

push_bit : (bs : List Bool) (m : ℕ) → m < 65536 → remainder bs ≡ m / 2 → remainder (bs ++ (m % 2 == 1) ∷ []) ≡ m
push_bit bs m h e = remainder-push bs (m % 2 == 1) ∙ ap (λ p. pushed p (m % 2 == 1)) e ∙ last_bit m h

none : remainder [] ≡ 0
unfolding remainder
none = refl

-- the bits of a number below 2^16 have it as their remainder
remainder_of_bits : (n : ℕ) → n < 65536 → remainder (check_bits n) ≡ n
remainder_of_bits n h =
    let s15 : remainder ((n / 32768 % 2 == 1) ∷ []) ≡ n / 32768 = push_bit [] (n / 32768) (omega arith)
    (none ∙ (let d : 0 ≡ n / 32768 / 2 = omega arith in d)) in
    let s14 : remainder ((n / 32768 % 2 == 1) ∷ (n / 16384 % 2 == 1) ∷ []) ≡ n / 16384 = push_bit ((n / 32768 % 2 == 1) ∷ []) (n / 16384) (omega arith) (s15 ∙ (let d : n / 32768 ≡ n / 16384 / 2 = omega arith in d)) in
    let s13 : remainder ((n / 32768 % 2 == 1) ∷ (n / 16384 % 2 == 1) ∷ (n / 8192 % 2 == 1) ∷ []) ≡ n / 8192 = push_bit ((n / 32768 % 2 == 1) ∷ (n / 16384 % 2 == 1) ∷ []) (n / 8192) (omega arith) (s14 ∙ (let d : n / 16384 ≡ n / 8192 / 2 = omega arith in d)) in
    let s12 : remainder ((n / 32768 % 2 == 1) ∷ (n / 16384 % 2 == 1) ∷ (n / 8192 % 2 == 1) ∷ (n / 4096 % 2 == 1) ∷ []) ≡ n / 4096 = push_bit ((n / 32768 % 2 == 1) ∷ (n / 16384 % 2 == 1) ∷ (n / 8192 % 2 == 1) ∷ []) (n / 4096) (omega arith) (s13 ∙ (let d : n / 8192 ≡ n / 4096 / 2 = omega arith in d)) in
    let s11 : remainder ((n / 32768 % 2 == 1) ∷ (n / 16384 % 2 == 1) ∷ (n / 8192 % 2 == 1) ∷ (n / 4096 % 2 == 1) ∷ (n / 2048 % 2 == 1) ∷ []) ≡ n / 2048 = push_bit ((n / 32768 % 2 == 1) ∷ (n / 16384 % 2 == 1) ∷ (n / 8192 % 2 == 1) ∷ (n / 4096 % 2 == 1) ∷ []) (n / 2048) (omega arith) (s12 ∙ (let d : n / 4096 ≡ n / 2048 / 2 = omega arith in d)) in
    let s10 : remainder ((n / 32768 % 2 == 1) ∷ (n / 16384 % 2 == 1) ∷ (n / 8192 % 2 == 1) ∷ (n / 4096 % 2 == 1) ∷ (n / 2048 % 2 == 1) ∷ (n / 1024 % 2 == 1) ∷ []) ≡ n / 1024 = push_bit ((n / 32768 % 2 == 1) ∷ (n / 16384 % 2 == 1) ∷ (n / 8192 % 2 == 1) ∷ (n / 4096 % 2 == 1) ∷ (n / 2048 % 2 == 1) ∷ []) (n / 1024) (omega arith) (s11 ∙ (let d : n / 2048 ≡ n / 1024 / 2 = omega arith in d)) in
    let s9 : remainder ((n / 32768 % 2 == 1) ∷ (n / 16384 % 2 == 1) ∷ (n / 8192 % 2 == 1) ∷ (n / 4096 % 2 == 1) ∷ (n / 2048 % 2 == 1) ∷ (n / 1024 % 2 == 1) ∷ (n / 512 % 2 == 1) ∷ []) ≡ n / 512 = push_bit ((n / 32768 % 2 == 1) ∷ (n / 16384 % 2 == 1) ∷ (n / 8192 % 2 == 1) ∷ (n / 4096 % 2 == 1) ∷ (n / 2048 % 2 == 1) ∷ (n / 1024 % 2 == 1) ∷ []) (n / 512) (omega arith) (s10 ∙ (let d : n / 1024 ≡ n / 512 / 2 = omega arith in d)) in
    let s8 : remainder ((n / 32768 % 2 == 1) ∷ (n / 16384 % 2 == 1) ∷ (n / 8192 % 2 == 1) ∷ (n / 4096 % 2 == 1) ∷ (n / 2048 % 2 == 1) ∷ (n / 1024 % 2 == 1) ∷ (n / 512 % 2 == 1) ∷ (n / 256 % 2 == 1) ∷ []) ≡ n / 256 = push_bit ((n / 32768 % 2 == 1) ∷ (n / 16384 % 2 == 1) ∷ (n / 8192 % 2 == 1) ∷ (n / 4096 % 2 == 1) ∷ (n / 2048 % 2 == 1) ∷ (n / 1024 % 2 == 1) ∷ (n / 512 % 2 == 1) ∷ []) (n / 256) (omega arith) (s9 ∙ (let d : n / 512 ≡ n / 256 / 2 = omega arith in d)) in
    let s7 : remainder ((n / 32768 % 2 == 1) ∷ (n / 16384 % 2 == 1) ∷ (n / 8192 % 2 == 1) ∷ (n / 4096 % 2 == 1) ∷ (n / 2048 % 2 == 1) ∷ (n / 1024 % 2 == 1) ∷ (n / 512 % 2 == 1) ∷ (n / 256 % 2 == 1) ∷ (n / 128 % 2 == 1) ∷ []) ≡ n / 128 = push_bit ((n / 32768 % 2 == 1) ∷ (n / 16384 % 2 == 1) ∷ (n / 8192 % 2 == 1) ∷ (n / 4096 % 2 == 1) ∷ (n / 2048 % 2 == 1) ∷ (n / 1024 % 2 == 1) ∷ (n / 512 % 2 == 1) ∷ (n / 256 % 2 == 1) ∷ []) (n / 128) (omega arith) (s8 ∙ (let d : n / 256 ≡ n / 128 / 2 = omega arith in d)) in
    let s6 : remainder ((n / 32768 % 2 == 1) ∷ (n / 16384 % 2 == 1) ∷ (n / 8192 % 2 == 1) ∷ (n / 4096 % 2 == 1) ∷ (n / 2048 % 2 == 1) ∷ (n / 1024 % 2 == 1) ∷ (n / 512 % 2 == 1) ∷ (n / 256 % 2 == 1) ∷ (n / 128 % 2 == 1) ∷ (n / 64 % 2 == 1) ∷ []) ≡ n / 64 = push_bit ((n / 32768 % 2 == 1) ∷ (n / 16384 % 2 == 1) ∷ (n / 8192 % 2 == 1) ∷ (n / 4096 % 2 == 1) ∷ (n / 2048 % 2 == 1) ∷ (n / 1024 % 2 == 1) ∷ (n / 512 % 2 == 1) ∷ (n / 256 % 2 == 1) ∷ (n / 128 % 2 == 1) ∷ []) (n / 64) (omega arith) (s7 ∙ (let d : n / 128 ≡ n / 64 / 2 = omega arith in d)) in
    let s5 : remainder ((n / 32768 % 2 == 1) ∷ (n / 16384 % 2 == 1) ∷ (n / 8192 % 2 == 1) ∷ (n / 4096 % 2 == 1) ∷ (n / 2048 % 2 == 1) ∷ (n / 1024 % 2 == 1) ∷ (n / 512 % 2 == 1) ∷ (n / 256 % 2 == 1) ∷ (n / 128 % 2 == 1) ∷ (n / 64 % 2 == 1) ∷ (n / 32 % 2 == 1) ∷ []) ≡ n / 32 = push_bit ((n / 32768 % 2 == 1) ∷ (n / 16384 % 2 == 1) ∷ (n / 8192 % 2 == 1) ∷ (n / 4096 % 2 == 1) ∷ (n / 2048 % 2 == 1) ∷ (n / 1024 % 2 == 1) ∷ (n / 512 % 2 == 1) ∷ (n / 256 % 2 == 1) ∷ (n / 128 % 2 == 1) ∷ (n / 64 % 2 == 1) ∷ []) (n / 32) (omega arith) (s6 ∙ (let d : n / 64 ≡ n / 32 / 2 = omega arith in d)) in
    let s4 : remainder ((n / 32768 % 2 == 1) ∷ (n / 16384 % 2 == 1) ∷ (n / 8192 % 2 == 1) ∷ (n / 4096 % 2 == 1) ∷ (n / 2048 % 2 == 1) ∷ (n / 1024 % 2 == 1) ∷ (n / 512 % 2 == 1) ∷ (n / 256 % 2 == 1) ∷ (n / 128 % 2 == 1) ∷ (n / 64 % 2 == 1) ∷ (n / 32 % 2 == 1) ∷ (n / 16 % 2 == 1) ∷ []) ≡ n / 16 = push_bit ((n / 32768 % 2 == 1) ∷ (n / 16384 % 2 == 1) ∷ (n / 8192 % 2 == 1) ∷ (n / 4096 % 2 == 1) ∷ (n / 2048 % 2 == 1) ∷ (n / 1024 % 2 == 1) ∷ (n / 512 % 2 == 1) ∷ (n / 256 % 2 == 1) ∷ (n / 128 % 2 == 1) ∷ (n / 64 % 2 == 1) ∷ (n / 32 % 2 == 1) ∷ []) (n / 16) (omega arith) (s5 ∙ (let d : n / 32 ≡ n / 16 / 2 = omega arith in d)) in
    let s3 : remainder ((n / 32768 % 2 == 1) ∷ (n / 16384 % 2 == 1) ∷ (n / 8192 % 2 == 1) ∷ (n / 4096 % 2 == 1) ∷ (n / 2048 % 2 == 1) ∷ (n / 1024 % 2 == 1) ∷ (n / 512 % 2 == 1) ∷ (n / 256 % 2 == 1) ∷ (n / 128 % 2 == 1) ∷ (n / 64 % 2 == 1) ∷ (n / 32 % 2 == 1) ∷ (n / 16 % 2 == 1) ∷ (n / 8 % 2 == 1) ∷ []) ≡ n / 8 = push_bit ((n / 32768 % 2 == 1) ∷ (n / 16384 % 2 == 1) ∷ (n / 8192 % 2 == 1) ∷ (n / 4096 % 2 == 1) ∷ (n / 2048 % 2 == 1) ∷ (n / 1024 % 2 == 1) ∷ (n / 512 % 2 == 1) ∷ (n / 256 % 2 == 1) ∷ (n / 128 % 2 == 1) ∷ (n / 64 % 2 == 1) ∷ (n / 32 % 2 == 1) ∷ (n / 16 % 2 == 1) ∷ []) (n / 8) (omega arith) (s4 ∙ (let d : n / 16 ≡ n / 8 / 2 = omega arith in d)) in
    let s2 : remainder ((n / 32768 % 2 == 1) ∷ (n / 16384 % 2 == 1) ∷ (n / 8192 % 2 == 1) ∷ (n / 4096 % 2 == 1) ∷ (n / 2048 % 2 == 1) ∷ (n / 1024 % 2 == 1) ∷ (n / 512 % 2 == 1) ∷ (n / 256 % 2 == 1) ∷ (n / 128 % 2 == 1) ∷ (n / 64 % 2 == 1) ∷ (n / 32 % 2 == 1) ∷ (n / 16 % 2 == 1) ∷ (n / 8 % 2 == 1) ∷ (n / 4 % 2 == 1) ∷ []) ≡ n / 4 = push_bit ((n / 32768 % 2 == 1) ∷ (n / 16384 % 2 == 1) ∷ (n / 8192 % 2 == 1) ∷ (n / 4096 % 2 == 1) ∷ (n / 2048 % 2 == 1) ∷ (n / 1024 % 2 == 1) ∷ (n / 512 % 2 == 1) ∷ (n / 256 % 2 == 1) ∷ (n / 128 % 2 == 1) ∷ (n / 64 % 2 == 1) ∷ (n / 32 % 2 == 1) ∷ (n / 16 % 2 == 1) ∷ (n / 8 % 2 == 1) ∷ []) (n / 4) (omega arith) (s3 ∙ (let d : n / 8 ≡ n / 4 / 2 = omega arith in d)) in
    let s1 : remainder ((n / 32768 % 2 == 1) ∷ (n / 16384 % 2 == 1) ∷ (n / 8192 % 2 == 1) ∷ (n / 4096 % 2 == 1) ∷ (n / 2048 % 2 == 1) ∷ (n / 1024 % 2 == 1) ∷ (n / 512 % 2 == 1) ∷ (n / 256 % 2 == 1) ∷ (n / 128 % 2 == 1) ∷ (n / 64 % 2 == 1) ∷ (n / 32 % 2 == 1) ∷ (n / 16 % 2 == 1) ∷ (n / 8 % 2 == 1) ∷ (n / 4 % 2 == 1) ∷ (n / 2 % 2 == 1) ∷ []) ≡ n / 2 = push_bit ((n / 32768 % 2 == 1) ∷ (n / 16384 % 2 == 1) ∷ (n / 8192 % 2 == 1) ∷ (n / 4096 % 2 == 1) ∷ (n / 2048 % 2 == 1) ∷ (n / 1024 % 2 == 1) ∷ (n / 512 % 2 == 1) ∷ (n / 256 % 2 == 1) ∷ (n / 128 % 2 == 1) ∷ (n / 64 % 2 == 1) ∷ (n / 32 % 2 == 1) ∷ (n / 16 % 2 == 1) ∷ (n / 8 % 2 == 1) ∷ (n / 4 % 2 == 1) ∷ []) (n / 2) (omega arith) (s2 ∙ (let d : n / 4 ≡ n / 2 / 2 = omega arith in d)) in
    let s0 : remainder ((n / 32768 % 2 == 1) ∷ (n / 16384 % 2 == 1) ∷ (n / 8192 % 2 == 1) ∷ (n / 4096 % 2 == 1) ∷ (n / 2048 % 2 == 1) ∷ (n / 1024 % 2 == 1) ∷ (n / 512 % 2 == 1) ∷ (n / 256 % 2 == 1) ∷ (n / 128 % 2 == 1) ∷ (n / 64 % 2 == 1) ∷ (n / 32 % 2 == 1) ∷ (n / 16 % 2 == 1) ∷ (n / 8 % 2 == 1) ∷ (n / 4 % 2 == 1) ∷ (n / 2 % 2 == 1) ∷ (n / 1 % 2 == 1) ∷ []) ≡ n / 1 = push_bit ((n / 32768 % 2 == 1) ∷ (n / 16384 % 2 == 1) ∷ (n / 8192 % 2 == 1) ∷ (n / 4096 % 2 == 1) ∷ (n / 2048 % 2 == 1) ∷ (n / 1024 % 2 == 1) ∷ (n / 512 % 2 == 1) ∷ (n / 256 % 2 == 1) ∷ (n / 128 % 2 == 1) ∷ (n / 64 % 2 == 1) ∷ (n / 32 % 2 == 1) ∷ (n / 16 % 2 == 1) ∷ (n / 8 % 2 == 1) ∷ (n / 4 % 2 == 1) ∷ (n / 2 % 2 == 1) ∷ []) (n / 1) (omega arith) (s1 ∙ (let d : n / 2 ≡ n / 1 / 2 = omega arith in d)) in
    s0 ∙ (let d : n / 1 ≡ n = omega arith in d)

pub no_remainder : (bits : List Bool) → remainder (bits ++ check_bits (line_check bits)) ≡ 0
no_remainder bits =
    remainder_after bits (check_bits (line_check bits))
    ∙ ap (bit_xor (shift 16 (remainder bits))) (remainder_of_bits (line_check bits) (line_check-lt bits))
    ∙ ap (λ x. bit_xor x (line_check bits)) (sym (line_check_is bits))
    ∙ xor_self (line_check bits)
