-- Remainders are linear, and a string's remainder is got bit by bit from its front.
use Rattle.std.proofs.Common.{◌≡◌, ℕ, zero, suc, ◌+◌, ◌-◌, ◌*◌, ◌/◌, ◌^◌, ◌<◌, inl, inr, List, [], ◌∷◌, ◌++◌, length}
use Rattle.std.proofs.Common.{Bool, true, false, cond, refl, sym, ◌∙◌, ap, arith, zero-add, bit_xor}
use Rattle.std.specs.Int.Bits.{xor_self, xor_zero_l, xor_zero_r, xor_assoc}
use Rattle.std.proofs.lemmas.Nat.{xor_lt, xor_shr, xor_block}
use Rattle.std.proofs.lemmas.Nat.Bits.{same_from_bits, bit_at_xor}
use Rattle.std.proofs.lemmas.Bool.{cases_lt, lt-ltb, le-ltb}
use Rattle.std.proofs.Math.Dec.{ltb}
use Rattle.mmc_frame.specs.Check.{times_x, power, remainder}

-- (a + b) + (c + d) is (a + c) + (b + d)
pub xor_swap : (a b c d : ℕ) → bit_xor (bit_xor a b) (bit_xor c d) ≡ bit_xor (bit_xor a c) (bit_xor b d)
xor_swap a b c d =
    same_from_bits _ _ (λ i. simp bit_at_xor (omega arith))

pub same_from_xor : (a b : ℕ) → bit_xor a b ≡ 0 → a ≡ b
same_from_xor a b h =
    sym (xor_zero_r a) ∙ ap (bit_xor a) (sym (xor_self b)) ∙ sym (xor_assoc a b b) ∙ ap (λ x. bit_xor x b) h
    ∙ xor_zero_l b

-- the remainder of a number of eight bits
abbrev pub eight : ℕ → ℕ
eight n = bit_xor n (137 * (n / 128))

tenfold : (u v : ℕ) → u < 2 → v < 2 → 137 * bit_xor u v ≡ bit_xor (137 * u) (137 * v)
tenfold zero zero p q = refl
tenfold zero (suc zero) p q = refl
tenfold (suc zero) zero p q = refl
tenfold (suc zero) (suc zero) p q = refl
tenfold zero (suc (suc v)) p q = absurd (omega arith)
tenfold (suc zero) (suc (suc v)) p q = absurd (omega arith)
tenfold (suc (suc u)) v p q = absurd (omega arith)

pub eight_linear : (a b : ℕ) → a < 256 → b < 256 → eight (bit_xor a b) ≡ bit_xor (eight a) (eight b)
eight_linear a b p q =
    ap (λ u. bit_xor (bit_xor a b) (137 * u)) (xor_shr a b 7)
    ∙ ap (bit_xor (bit_xor a b)) (tenfold (a / 128) (b / 128) (omega arith) (omega arith))
    ∙ xor_swap a b (137 * (a / 128)) (137 * (b / 128))

-- the top bit goes, and x^3 + 1 comes in its place
pub eight-lt : (n : ℕ) → n < 256 → eight n < 128
eight-lt n h =
    elim (cases_lt n 128) [
      | inl low ↦ (let d : n / 128 ≡ 0 = omega arith in rw d (rw (xor_zero_r n) low))
      | inr high ↦
          (let d : n / 128 ≡ 1 = omega arith in
          let e : n ≡ 1 * 2 ^ 7 + (n - 128) = omega arith in
          let x : bit_xor (1 * 2 ^ 7 + (n - 128)) (1 * 2 ^ 7 + 9) ≡ bit_xor 1 1 * 2 ^ 7 + bit_xor (n - 128) 9 =
          xor_block 7 1 1 (n - 128) 9 (omega arith) (omega arith) in
          let f : bit_xor n 137 ≡ bit_xor (n - 128) 9 = ap (λ m. bit_xor m 137) e ∙ x
          ∙ zero-add (bit_xor (n - 128) 9) in
          let g : bit_xor (n - 128) 9 < 128 = xor_lt 7 (n - 128) 9 (omega arith) (omega arith) in
          rw d (rw f g))
    ]

pub times_x_is : (p : ℕ) → p < 128 → times_x p ≡ eight (2 * p)
unfolding times_x
times_x_is p h =
    elim (cases_lt p 64) [
      | inl low ↦ (let e : ltb p 64 ≡ true = lt-ltb p 64 low in let d : 2 * p / 128 ≡ 0 = omega arith in
          rw (e, d) (sym (xor_zero_r (2 * p))))
      | inr high ↦ (let e : ltb p 64 ≡ false = le-ltb p 64 high in let d : 2 * p / 128 ≡ 1 = omega arith in rw (e, d))
    ]

pub times_x-lt : (p : ℕ) → p < 128 → times_x p < 128
times_x-lt p h = rw (times_x_is p h) (eight-lt (2 * p) (omega arith))

doubled : (p q : ℕ) → 2 * bit_xor p q ≡ bit_xor (2 * p) (2 * q)
doubled p q =
    let a : 2 * p ≡ p * 2 + 0 = omega arith in
    let b : 2 * q ≡ q * 2 + 0 = omega arith in
    let x : bit_xor (p * 2 + 0) (q * 2 + 0) ≡ bit_xor p q * 2 + 0 = xor_block 1 p q 0 0 (omega arith) (omega arith) in
    rw (a, b) (omega (arith, x))

pub times_x_linear : (p q : ℕ) → p < 128 → q < 128 → times_x (bit_xor p q) ≡ bit_xor (times_x p) (times_x q)
times_x_linear p q h k =
    times_x_is (bit_xor p q) (xor_lt 7 p q h k)
    ∙ ap eight (doubled p q)
    ∙ eight_linear (2 * p) (2 * q) (omega arith) (omega arith)
    ∙ (let e : bit_xor (times_x p) (times_x q) ≡ bit_xor (eight (2 * p)) (eight (2 * q)) =
    rw (times_x_is p h, times_x_is q k) in sym e)

pub power-lt : (i : ℕ) → power i < 128
unfolding power
power-lt zero = omega arith
power-lt (suc i) = times_x-lt (power i) (power-lt i)

pub remainder-lt : (bs : List Bool) → remainder bs < 128
unfolding remainder
remainder-lt [] = omega arith
remainder-lt (true ∷ bs) = xor_lt 7 _ _ (power-lt (length bs)) (remainder-lt bs)
remainder-lt (false ∷ bs) = remainder-lt bs

-- one more bit after
abbrev pub pushed : ℕ → Bool → ℕ
pushed p b = bit_xor (times_x p) (cond b 1 0)

pub pushed-lt : (p : ℕ) (b : Bool) → p < 128 → pushed p b < 128
pushed-lt p true h = xor_lt 7 (times_x p) 1 (times_x-lt p h) (omega arith)
pushed-lt p false h = xor_lt 7 (times_x p) 0 (times_x-lt p h) (omega arith)

length_pushed : (bs : List Bool) (b : Bool) → length (bs ++ b ∷ []) ≡ suc (length bs)
length_pushed [] b = refl
length_pushed (x ∷ bs) b = ap suc (length_pushed bs b)

pub remainder-push : (bs : List Bool) (b : Bool) → remainder (bs ++ b ∷ []) ≡ pushed (remainder bs) b
unfolding remainder times_x power
remainder-push [] true = refl
remainder-push [] false = refl
remainder-push (true ∷ bs) b =
    ap (λ n. bit_xor (power n) (remainder (bs ++ b ∷ []))) (length_pushed bs b)
    ∙ ap (bit_xor (times_x (power (length bs)))) (remainder-push bs b)
    ∙ sym (xor_assoc (times_x (power (length bs))) (times_x (remainder bs)) (cond b 1 0))
    ∙ ap (λ x. bit_xor x (cond b 1 0)) (sym
    (times_x_linear (power (length bs)) (remainder bs) (power-lt (length bs)) (remainder-lt bs)))
remainder-push (false ∷ bs) b = remainder-push bs b
