-- The check of a string of bytes is got byte by byte.
use Rattle.std.proofs.Common.{◌≡◌, ℕ, zero, suc, ◌*◌, ◌/◌, ◌%◌, ◌<◌, inl, inr, List, [], ◌∷◌, ◌++◌, length, replicate}
use Rattle.std.proofs.Common.{Bool, true, false, cond, ◌&&◌, refl, sym, ◌∙◌, ap, arith, append_assoc, append-nil}
use Rattle.std.proofs.Common.{bit_xor}
use Rattle.std.specs.Prelude.{nat_eq, slice_index, ◌==◌}
use Rattle.std.proofs.lemmas.Bool.{cases_eq, eqb-true, eq-eqb, ne_eqb}
use Rattle.std.specs.Int.Bits.{xor_self, xor_zero_r, xor_assoc}
use Rattle.mmc_frame.specs.Check.{times_x, power, remainder, bits_of, byte_bits}
use Rattle.mmc_frame.specs.declared.check.TheConstants.{SHIFTED}
use Rattle.mmc_frame.proofs.Linear.{same_from_xor, eight, eight_linear, times_x_is, times_x-lt, times_x_linear, pushed}
use Rattle.mmc_frame.proofs.Linear.{pushed-lt, remainder-push, remainder-lt}
use Rattle.std.proofs.lemmas.Nat.{xor_lt}

-- x^k times p
unfoldable pub shift : ℕ → ℕ → ℕ
shift zero p = p
shift (suc k) p = shift k (times_x p)

-- a test of every number below n
abbrev pub each_below : ℕ → (ℕ → Bool) → Bool
each_below zero test = true
each_below (suc n) test = test n && each_below n test

pub and_true : (a b : Bool) → (a && b) ≡ true → (a ≡ true) × (b ≡ true)
and_true true b h = (refl, h)
and_true false b h = cc

same_from_test : (n : ℕ) (f g : ℕ → ℕ) → each_below n (λ i. nat_eq (f i) (g i)) ≡ true → (i : ℕ) → i < n → f i ≡ g i
same_from_test zero f g h i l = absurd (omega arith)
same_from_test (suc n) f g h i l =
    let both = and_true (nat_eq (f n) (g n)) (each_below n (λ i. nat_eq (f i) (g i))) h in
    elim (cases_eq i n) [
      | inl same ↦ rw same (eqb-true (f n) (g n) both.0)
      | inr other ↦ same_from_test n f g both.1 i (omega (arith, other))
    ]

pub steps_are : (n : ℕ) → n < 256 → slice_index SHIFTED n ≡ shift 7 (eight n)
unfolding shift times_x
steps_are = same_from_test 256 _ _ refl

pub byte_remainder : (n : ℕ) → n < 256 → remainder (byte_bits n) ≡ eight n
unfolding remainder power times_x
byte_remainder = same_from_test 256 _ _ refl

-- k more bits after, one after another
abbrev pub pushed_all : ℕ → List Bool → ℕ
pushed_all p [] = p
pushed_all p (b ∷ bs) = pushed_all (pushed p b) bs

pub remainder-append : (xs ys : List Bool) → remainder (xs ++ ys) ≡ pushed_all (remainder xs) ys
remainder-append xs [] = ap remainder (append-nil xs)
remainder-append xs (y ∷ ys) =
    ap remainder (sym (append_assoc xs (y ∷ []) ys))
    ∙ remainder-append (xs ++ y ∷ []) ys
    ∙ ap (λ p. pushed_all p ys) (remainder-push xs y)

-- a sum is pushed part by part
pub pushed_sum : (p q : ℕ) (bs : List Bool) → p < 128 → q < 128 → pushed_all (bit_xor p q) bs
    ≡ bit_xor (shift (length bs) p) (pushed_all q bs)
unfolding shift
pushed_sum p q [] h k = refl
pushed_sum p q (b ∷ bs) h k =
    ap (λ x. pushed_all x bs) (ap (λ x. bit_xor x (cond b 1 0)) (times_x_linear p q h k)
    ∙ xor_assoc (times_x p) (times_x q) (cond b 1 0))
    ∙ pushed_sum (times_x p) (pushed q b) bs (times_x-lt p h) (pushed-lt q b k)

pub shift-lt : (k p : ℕ) → p < 128 → shift k p < 128
unfolding shift
shift-lt zero p h = h
shift-lt (suc k) p h = shift-lt k (times_x p) (times_x-lt p h)

-- after a string, bits of their own
pub remainder_after : (xs ys : List Bool) → remainder (xs ++ ys) ≡ bit_xor (shift (length ys) (remainder xs))
    (remainder ys)
unfolding remainder
remainder_after xs ys =
    remainder-append xs ys
    ∙ ap (λ p. pushed_all p ys) (sym (xor_zero_r (remainder xs)))
    ∙ pushed_sum (remainder xs) 0 ys (remainder-lt xs) (omega arith)
    ∙ ap (bit_xor (shift (length ys) (remainder xs))) (sym (remainder-append [] ys))

-- the check so far, before a byte
abbrev pub zeros : List Bool
zeros = replicate 7 false

pub check_is : (xs : List Bool) → remainder (xs ++ zeros) ≡ shift 7 (remainder xs)
unfolding remainder
check_is xs = remainder_after xs zeros ∙ xor_zero_r (shift 7 (remainder xs))

pub check_step : (xs : List Bool) (b : ℕ) → b < 256
    → slice_index SHIFTED (bit_xor (2 * remainder (xs ++ zeros)) b) ≡ remainder ((xs ++ byte_bits b) ++ zeros)
unfolding shift
check_step xs b h =
    let r = remainder xs in
    let low : shift 7 r < 128 = shift-lt 7 r (remainder-lt xs) in
    let is : remainder (xs ++ zeros) ≡ shift 7 r = check_is xs in
    let within : bit_xor (2 * shift 7 r) b < 256 = xor_lt 8 (2 * shift 7 r) b (omega arith) h in
    let at : eight (bit_xor (2 * shift 7 r) b) ≡ bit_xor (shift 8 r) (eight b) =
    eight_linear (2 * shift 7 r) b (omega arith) h ∙ ap (λ x. bit_xor x (eight b)) (sym (times_x_is (shift 7 r) low)) in
    let left : slice_index SHIFTED (bit_xor (2 * shift 7 r) b) ≡ shift 7 (bit_xor (shift 8 r) (eight b)) =
    steps_are _ within ∙ ap (shift 7) at in
    let right : remainder ((xs ++ byte_bits b) ++ zeros) ≡ shift 7 (bit_xor (shift 8 r) (eight b)) =
    check_is (xs ++ byte_bits b) ∙ ap (shift 7)
    (remainder_after xs (byte_bits b) ∙ ap (bit_xor (shift 8 r)) (byte_remainder b h)) in
    rw is (left ∙ sym right)

-- the bits of a list of bytes with one more
pub bits_pushed : (xs : List ℕ) (b : ℕ) → bits_of (xs ++ b ∷ []) ≡ bits_of xs ++ byte_bits b
bits_pushed [] b = refl
bits_pushed (x ∷ xs) b = ap (λ ys. byte_bits x ++ ys) (bits_pushed xs b)
    ∙ sym (append_assoc (byte_bits x) (bits_of xs) (byte_bits b))

pub length-bits_of : (xs : List ℕ) → length (bits_of xs) ≡ 8 * length xs
length-bits_of [] = refl
length-bits_of (x ∷ xs) = let h = length-bits_of xs in omega (arith, h)

-- the seven bits of a check, after the covered bits
abbrev pub seven : ℕ → List Bool
seven n = (n / 128 % 2 == 1) ∷ (n / 64 % 2 == 1) ∷ (n / 32 % 2 == 1) ∷ (n / 16 % 2 == 1) ∷ (n / 8 % 2 == 1) ∷ (n / 4 %
    2 == 1) ∷ (n / 2 % 2 == 1) ∷ []

seven_remainder : (n : ℕ) → n < 256 → remainder (seven n) ≡ n / 2
unfolding remainder power times_x
seven_remainder = same_from_test 256 _ _ refl

pub sound_is : (xs : List Bool) (n : ℕ) → n < 256 → remainder (xs ++ seven n) ≡ bit_xor (remainder (xs ++ zeros))
    (n / 2)
sound_is xs n h = remainder_after xs (seven n)
    ∙ (let e : shift 7 (remainder xs) ≡ remainder (xs ++ zeros) = sym (check_is xs) in rw (e, seven_remainder n h))

-- the test of the code is the test of the definition
pub same_test : (a b : ℕ) → nat_eq a b ≡ nat_eq (bit_xor a b) 0
same_test a b =
    elim (cases_eq a b) [
      | inl same ↦ (let z : bit_xor a b ≡ 0 = ap (λ x. bit_xor x b) same ∙ xor_self b in eq-eqb a b same
          ∙ sym (eq-eqb (bit_xor a b) 0 z))
      | inr other ↦ ne_eqb a b other ∙ sym (ne_eqb (bit_xor a b) 0 (λ z. other (same_from_xor a b z)))
    ]
