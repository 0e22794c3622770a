-- Remainders are linear, and the check of a line is got bit by bit.
use Rattle.std.proofs.Common.{◌≡◌, ℕ, zero, suc, ◌+◌, ◌-◌, ◌*◌, ◌/◌, ◌%◌, ◌^◌, ◌<◌, inl, inr, List, [], ◌∷◌, ◌++◌, length}
use Rattle.std.proofs.Common.{Bool, true, false, cond, refl, sym, ◌∙◌, ap, arith, zero-add, bit_xor, append_assoc}
use Rattle.std.proofs.Common.{append-nil, replicate}
use Rattle.std.specs.Int.Bits.{xor_self, xor_zero_r, xor_assoc}
use Rattle.std.proofs.lemmas.Nat.{xor_lt, xor_shr, xor_block}
use Rattle.std.proofs.lemmas.Nat.Bits.{same_from_bits, bit_at_xor}
use Rattle.std.proofs.lemmas.Bool.{cases_lt, lt-ltb, le-ltb, le-leb, lt-leb}
use Rattle.std.proofs.Math.Bool.{beq}
use Rattle.std.proofs.Math.Dec.{ltb, leb}
use Rattle.mmc_frame.specs.Check.{bits_of}
use Rattle.card_wave.specs.LineCheck.{times_x, power, remainder, line_check}

-- (a + b) + (c + d) is (a + c) + (b + d)
xor_swap : (a b c d : ℕ) → bit_xor (bit_xor a b) (bit_xor c d) ≡ bit_xor (bit_xor a c) (bit_xor b d)
xor_swap a b c d = same_from_bits _ _ (λ i. simp bit_at_xor (omega arith))

-- the remainder of a number of seventeen bits
abbrev folded : ℕ → ℕ
folded n = bit_xor n (69665 * (n / 65536))

whole : (u v : ℕ) → u < 2 → v < 2 → 69665 * bit_xor u v ≡ bit_xor (69665 * u) (69665 * v)
whole zero zero p q = refl
whole zero (suc zero) p q = refl
whole (suc zero) zero p q = refl
whole (suc zero) (suc zero) p q = refl
whole zero (suc (suc v)) p q = absurd (omega arith)
whole (suc zero) (suc (suc v)) p q = absurd (omega arith)
whole (suc (suc u)) v p q = absurd (omega arith)

folded_linear : (a b : ℕ) → a < 131072 → b < 131072 → folded (bit_xor a b) ≡ bit_xor (folded a) (folded b)
folded_linear a b p q =
    ap (λ u. bit_xor (bit_xor a b) (69665 * u)) (xor_shr a b 16)
    ∙ ap (bit_xor (bit_xor a b)) (whole (a / 65536) (b / 65536) (omega arith) (omega arith))
    ∙ xor_swap a b (69665 * (a / 65536)) (69665 * (b / 65536))

-- from x^16 on: the top bit goes, and x^12 + x^5 + 1 comes in its place
pub folded_high : (n : ℕ) → n < 65536 → bit_xor (65536 + n) 69665 ≡ bit_xor n 4129
folded_high n h =
    let e : 65536 + n ≡ 1 * 2 ^ 16 + n = omega arith in
    let x : bit_xor (1 * 2 ^ 16 + n) (1 * 2 ^ 16 + 4129) ≡ bit_xor 1 1 * 2 ^ 16 + bit_xor n 4129 =
    xor_block 16 1 1 n 4129 h (omega arith) in
    ap (λ m. bit_xor m 69665) e ∙ x ∙ zero-add (bit_xor n 4129)

times_x_is : (p : ℕ) → p < 65536 → times_x p ≡ folded (2 * p)
unfolding times_x
times_x_is p h =
    elim (cases_lt p 32768) [
      | inl low ↦ (let e : ltb p 32768 ≡ true = lt-ltb p 32768 low in let d : 2 * p / 65536 ≡ 0 = omega arith in
          rw (e, d) (sym (xor_zero_r (2 * p))))
      | inr high ↦ (let e : ltb p 32768 ≡ false = le-ltb p 32768 high in let d : 2 * p / 65536 ≡ 1 = omega arith in
          rw (e, d))
    ]

-- below x^15 x times p is p twice
pub times_x_low : (p : ℕ) → p < 32768 → times_x p ≡ 2 * p
unfolding times_x
times_x_low p low = let e : ltb p 32768 ≡ true = lt-ltb p 32768 low in rw e

-- from x^15 on the top bit goes
pub times_x_high : (q : ℕ) → q < 32768 → times_x (32768 + q) ≡ bit_xor (2 * q) 4129
unfolding times_x
times_x_high q h =
    let e : ltb (32768 + q) 32768 ≡ false = le-ltb (32768 + q) 32768 (omega arith) in
    let d : 2 * (32768 + q) ≡ 65536 + 2 * q = omega arith in
    rw (e, d) (folded_high (2 * q) (omega arith))

pub times_x-lt : (p : ℕ) → p < 65536 → times_x p < 65536
times_x-lt p h =
    elim (cases_lt p 32768) [
      | inl low ↦ (rw (times_x_low p low) (omega arith))
      | inr high ↦ (let e : p ≡ 32768 + (p - 32768) = omega arith in
          rw e (rw (times_x_high (p - 32768) (omega arith)) (xor_lt 16 (2 * (p - 32768)) 4129 (omega arith) (omega arith))))
    ]

doubled : (p q : ℕ) → 2 * bit_xor p q ≡ bit_xor (2 * p) (2 * q)
doubled p q =
    let a : 2 * p ≡ p * 2 + 0 = omega arith in
    let b : 2 * q ≡ q * 2 + 0 = omega arith in
    let x : bit_xor (p * 2 + 0) (q * 2 + 0) ≡ bit_xor p q * 2 + 0 = xor_block 1 p q 0 0 (omega arith) (omega arith) in
    rw (a, b) (omega (arith, x))

pub times_x_linear : (p q : ℕ) → p < 65536 → q < 65536 → times_x (bit_xor p q) ≡ bit_xor (times_x p) (times_x q)
times_x_linear p q h k =
    times_x_is (bit_xor p q) (xor_lt 16 p q h k)
    ∙ ap folded (doubled p q)
    ∙ folded_linear (2 * p) (2 * q) (omega arith) (omega arith)
    ∙ (let e : bit_xor (times_x p) (times_x q) ≡ bit_xor (folded (2 * p)) (folded (2 * q)) =
    rw (times_x_is p h, times_x_is q k) in sym e)

power-lt : (i : ℕ) → power i < 65536
unfolding power
power-lt zero = omega arith
power-lt (suc i) = times_x-lt (power i) (power-lt i)

pub remainder-lt : (bs : List Bool) → remainder bs < 65536
unfolding remainder
remainder-lt [] = omega arith
remainder-lt (true ∷ bs) = xor_lt 16 _ _ (power-lt (length bs)) (remainder-lt bs)
remainder-lt (false ∷ bs) = remainder-lt bs

-- one more bit after
abbrev pub pushed : ℕ → Bool → ℕ
pushed p b = bit_xor (times_x p) (cond b 1 0)

length_pushed : (bs : List Bool) (b : Bool) → length (bs ++ b ∷ []) ≡ suc (length bs)
length_pushed [] b = refl
length_pushed (x ∷ bs) b = ap suc (length_pushed bs b)

pub remainder-push : (bs : List Bool) (b : Bool) → remainder (bs ++ b ∷ []) ≡ pushed (remainder bs) b
unfolding remainder times_x power
remainder-push [] true = refl
remainder-push [] false = refl
remainder-push (true ∷ bs) b =
    ap (λ n. bit_xor (power n) (remainder (bs ++ b ∷ []))) (length_pushed bs b)
    ∙ ap (bit_xor (times_x (power (length bs)))) (remainder-push bs b)
    ∙ sym (xor_assoc (times_x (power (length bs))) (times_x (remainder bs)) (cond b 1 0))
    ∙ ap (λ x. bit_xor x (cond b 1 0)) (sym
    (times_x_linear (power (length bs)) (remainder bs) (power-lt (length bs)) (remainder-lt bs)))
remainder-push (false ∷ bs) b = remainder-push bs b

-- x^k times p
unfoldable pub shift : ℕ → ℕ → ℕ
shift zero p = p
shift (suc k) p = times_x (shift k p)

pub shift-lt : (k p : ℕ) → p < 65536 → shift k p < 65536
unfolding shift
shift-lt zero p h = h
shift-lt (suc k) p h = times_x-lt (shift k p) (shift-lt k p h)

shift_linear : (k p q : ℕ) → p < 65536 → q < 65536 → shift k (bit_xor p q) ≡ bit_xor (shift k p) (shift k q)
unfolding shift
shift_linear zero p q h l = refl
shift_linear (suc k) p q h l = ap times_x (shift_linear k p q h l)
    ∙ times_x_linear (shift k p) (shift k q) (shift-lt k p h) (shift-lt k q l)

pub shift_within : (k p : ℕ) → shift k (times_x p) ≡ times_x (shift k p)
unfolding shift
shift_within zero p = refl
shift_within (suc k) p = ap times_x (shift_within k p)

-- zeros after a string
zeros_after : (k : ℕ) (bs : List Bool) → remainder (bs ++ replicate k false) ≡ shift k (remainder bs)
unfolding shift
zeros_after zero bs = ap remainder (append-nil bs)
zeros_after (suc k) bs =
    ap remainder (sym (append_assoc bs (false ∷ []) (replicate k false)))
    ∙ zeros_after k (bs ++ false ∷ [])
    ∙ ap (shift k) (remainder-push bs false ∙ xor_zero_r (times_x (remainder bs)))
    ∙ shift_within k (remainder bs)

pub line_check-lt : (bs : List Bool) → line_check bs < 65536
unfolding line_check
line_check-lt bs = remainder-lt (bs ++ replicate 16 false)

pub line_check_is : (bs : List Bool) → line_check bs ≡ shift 16 (remainder bs)
unfolding line_check
line_check_is bs = zeros_after 16 bs

pub line_check_none : line_check [] ≡ 0
unfolding line_check remainder
line_check_none = refl

bit_shifted : (b : Bool) → shift 16 (cond b 1 0) ≡ cond b 4129 0
unfolding shift times_x
bit_shifted true = refl
bit_shifted false = refl

one_bit : (b : Bool) → cond b 1 0 < 65536
one_bit true = omega arith
one_bit false = omega arith

-- the check of a line with one bit more
abbrev pub pushed_check : ℕ → Bool → ℕ
pushed_check check bit = bit_xor (times_x check) (cond bit 4129 0)

pub line_check-push : (bs : List Bool) (b : Bool) → line_check (bs ++ b ∷ []) ≡ pushed_check (line_check bs) b
unfolding line_check
line_check-push bs b =
    zeros_after 16 (bs ++ b ∷ [])
    ∙ ap (shift 16) (remainder-push bs b)
    ∙ shift_linear 16 (times_x (remainder bs)) (cond b 1 0) (times_x-lt (remainder bs) (remainder-lt bs)) (one_bit b)
    ∙ ap (bit_xor (shift 16 (times_x (remainder bs)))) (bit_shifted b)
    ∙ ap (λ x. bit_xor x (cond b 4129 0)) (shift_within 16 (remainder bs) ∙ ap times_x (sym (zeros_after 16 bs)))

-- what the code does: twice the check without its top bit, and x^12 + x^5 + 1 more where the top bit isn't the new bit
pub next_same : (p : ℕ) (b : Bool) → p < 65536 → beq (leb 32768 p) b ≡ true → p % 32768 * 2 ≡ bit_xor (times_x p)
    (cond b 4129 0)
next_same p true h e =
    elim (cases_lt p 32768) [
      | inl low ↦ (let t : leb 32768 p ≡ false = lt-leb 32768 p low in (let u : beq (leb 32768 p) true ≡ false = rw t refl in cc))
      | inr high ↦ (let d : p ≡ 32768 + (p - 32768) = omega arith in
          let m : p % 32768 ≡ p - 32768 = omega arith in
          rw (ap times_x d, times_x_high (p - 32768) (omega arith), xor_assoc (2 * (p - 32768)) 4129 4129, xor_self 4129, xor_zero_r (2 * (p - 32768))) (omega arith))
    ]
next_same p false h e =
    elim (cases_lt p 32768) [
      | inl low ↦ (rw (xor_zero_r (times_x p), times_x_low p low) (omega arith))
      | inr high ↦ (let t : leb 32768 p ≡ true = le-leb 32768 p high in (let u : beq (leb 32768 p) false ≡ false = rw t refl in cc))
    ]

pub next_other : (p : ℕ) (b : Bool) → p < 65536 → beq (leb 32768 p) b ≡ false → bit_xor (p % 32768 * 2) 4129
    ≡ bit_xor (times_x p) (cond b 4129 0)
next_other p true h e =
    elim (cases_lt p 32768) [
      | inl low ↦ (let m : p % 32768 * 2 ≡ 2 * p = omega arith in rw (m, times_x_low p low) refl)
      | inr high ↦ (let t : leb 32768 p ≡ true = le-leb 32768 p high in (let u : beq (leb 32768 p) true ≡ true = rw t refl in cc))
    ]
next_other p false h e =
    elim (cases_lt p 32768) [
      | inl low ↦ (let t : leb 32768 p ≡ false = lt-leb 32768 p low in (let u : beq (leb 32768 p) false ≡ true = rw t refl in cc))
      | inr high ↦ (let d : p ≡ 32768 + (p - 32768) = omega arith in
          let m : p % 32768 * 2 ≡ 2 * (p - 32768) = omega arith in
          rw (xor_zero_r (times_x p), ap times_x d, times_x_high (p - 32768) (omega arith), m) refl)
    ]

-- the check of a line, bit by bit
abbrev checked_from : ℕ → List Bool → ℕ
checked_from check [] = check
checked_from check (b ∷ bs) = checked_from (pushed_check check b) bs

checked_after : (xs ys : List Bool) → line_check (xs ++ ys) ≡ checked_from (line_check xs) ys
checked_after xs [] = ap line_check (append-nil xs)
checked_after xs (y ∷ ys) =
    ap line_check (sym (append_assoc xs (y ∷ []) ys))
    ∙ checked_after (xs ++ y ∷ []) ys
    ∙ ap (λ n. checked_from n ys) (line_check-push xs y)

ones_checked : checked_from 0 (bits_of (replicate 512 255)) ≡ 32673
unfolding times_x
ones_checked = refl

pub check_of_ones : line_check (bits_of (replicate 512 255)) ≡ 32673
check_of_ones =
    checked_after [] (bits_of (replicate 512 255))
    ∙ ap (λ n. checked_from n (bits_of (replicate 512 255))) line_check_none
    ∙ ones_checked
