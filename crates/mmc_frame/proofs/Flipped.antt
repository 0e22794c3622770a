-- A sound string of at most 127 bits with one bit or two flipped isn't sound.
use Rattle.std.proofs.Common.{◌≡◌, ℕ, zero, suc, ◌+◌, ◌-◌, ◌<◌, ◌≤◌, ◌⊎◌, inl, inr, List, [], ◌∷◌, length, take, drop}
use Rattle.std.proofs.Common.{Bool, true, false, not, refl, sym, ◌∙◌, ap, arith, bit_xor, length-drop, length-take-le}
use Rattle.std.proofs.Common.{zero-add}
use Rattle.std.specs.Int.Bits.{xor_self, xor_zero_l, xor_zero_r, xor_assoc}
use Rattle.std.proofs.lemmas.Nat.{xor_comm}
use Rattle.std.proofs.lemmas.Bool.{cases_lt}
use Rattle.mmc_frame.specs.Check.{power, remainder}
use Rattle.mmc_frame.specs.Flips.{flip_at, Flips, one, two}
use Rattle.mmc_frame.proofs.Linear.{same_from_xor}
use Rattle.mmc_frame.proofs.Powers.{power_nonzero, powers_other}

-- to add a twice changes nothing
added_twice : (a r : ℕ) → r ≡ bit_xor a (bit_xor a r)
added_twice a r = sym (xor_zero_l r) ∙ ap (λ x. bit_xor x r) (sym (xor_self a)) ∙ xor_assoc a a r

exchanged : (a b r : ℕ) → bit_xor a (bit_xor b r) ≡ bit_xor b (bit_xor a r)
exchanged a b r = sym (xor_assoc a b r) ∙ ap (λ x. bit_xor x r) (xor_comm a b) ∙ xor_assoc b a r

pub length-flip_at : (p : ℕ) (bs : List Bool) → length (flip_at p bs) ≡ length bs
length-flip_at p [] = refl
length-flip_at zero (b ∷ bs) = refl
length-flip_at (suc p) (b ∷ bs) = ap suc (length-flip_at p bs)

-- a flipped bit adds its power, where k bits stand after it
flip_adds : (p k : ℕ) (bs : List Bool) → length bs ≡ p + suc k → remainder (flip_at p bs)
    ≡ bit_xor (power k) (remainder bs)
unfolding remainder
flip_adds p k [] h = absurd (omega arith)
flip_adds zero k (true ∷ bs) h = (let e : k ≡ length bs = omega arith in
    rw e (added_twice (power (length bs)) (remainder bs)))
flip_adds zero k (false ∷ bs) h = (let e : k ≡ length bs = omega arith in rw e refl)
flip_adds (suc p) k (true ∷ bs) h =
    ap (λ n. bit_xor (power n) (remainder (flip_at p bs))) (length-flip_at p bs)
    ∙ ap (bit_xor (power (length bs))) (flip_adds p k bs (omega arith))
    ∙ exchanged (power (length bs)) (power k) (remainder bs)
flip_adds (suc p) k (false ∷ bs) h = flip_adds p k bs (omega arith)

one_unsound : (p : ℕ) (bs : List Bool) → p < length bs → length bs ≤ 127 → remainder bs ≡ 0 → remainder (flip_at p bs)
    ≡ 0 → ⊥
one_unsound p bs l n sound again =
    let k = length bs - 1 - p in
    let e : remainder (flip_at p bs) ≡ bit_xor (power k) (remainder bs) = flip_adds p k bs (omega arith) in
    power_nonzero k (omega arith) (sym (xor_zero_r (power k)) ∙ ap (bit_xor (power k)) (sym sound) ∙ sym e ∙ again)

two_unsound : (p q : ℕ) (bs : List Bool) → p < q → q < length bs → length bs ≤ 127 → remainder bs ≡ 0
    → remainder (flip_at q (flip_at p bs)) ≡ 0 → ⊥
two_unsound p q bs less l n sound again =
    let j = length bs - 1 - p in
    let k = length bs - 1 - q in
    let e : remainder (flip_at p bs) ≡ bit_xor (power j) (remainder bs) = flip_adds p j bs (omega arith) in
    let m = length-flip_at p bs in
    let f : remainder (flip_at q (flip_at p bs)) ≡ bit_xor (power k) (remainder (flip_at p bs)) =
    flip_adds q k (flip_at p bs) (omega (arith, m)) in
    let z : bit_xor (power k) (bit_xor (power j) 0) ≡ 0 = ap (λ r. bit_xor (power k) (bit_xor (power j) r)) (sym sound)
    ∙ ap (bit_xor (power k)) (sym e) ∙ sym f ∙ again in
    powers_other j k (omega arith) (omega arith)
    (same_from_xor (power k) (power j) (ap (bit_xor (power k)) (sym (xor_zero_r (power j))) ∙ z))

-- the bit at this position
abbrev pub bit_of : ℕ → List Bool → Bool
bit_of p [] = false
bit_of zero (b ∷ bs) = b
bit_of (suc p) (b ∷ bs) = bit_of p bs

flipped_bit : (p : ℕ) (bs : List Bool) → p < length bs → bit_of p (flip_at p bs) ≡ not (bit_of p bs)
flipped_bit p [] h = absurd (omega arith)
flipped_bit zero (b ∷ bs) h = refl
flipped_bit (suc p) (b ∷ bs) h = flipped_bit p bs (omega arith)

other_bit : (p q : ℕ) (bs : List Bool) → (p ≡ q → ⊥) → bit_of q (flip_at p bs) ≡ bit_of q bs
other_bit p q [] h = refl
other_bit zero zero (b ∷ bs) h = absurd (h refl)
other_bit zero (suc q) (b ∷ bs) h = refl
other_bit (suc p) zero (b ∷ bs) h = refl
other_bit (suc p) (suc q) (b ∷ bs) h = other_bit p q bs (λ e. h (ap suc e))

not_same : (b : Bool) → not b ≡ b → ⊥
not_same true h = cc
not_same false h = cc

take_flip : (n p : ℕ) (bs : List Bool) → p < n → take n (flip_at p bs) ≡ flip_at p (take n bs)
take_flip zero p bs h = absurd (omega arith)
take_flip (suc n) p [] h = refl
take_flip (suc n) zero (b ∷ bs) h = refl
take_flip (suc n) (suc p) (b ∷ bs) h = ap (λ xs. b ∷ xs) (take_flip n p bs (omega arith))

drop_flip : (m p : ℕ) (bs : List Bool) → drop m (flip_at (m + p) bs) ≡ flip_at p (drop m bs)
drop_flip zero p bs = ap (λ i. flip_at i bs) (zero-add p)
drop_flip (suc m) p [] = refl
drop_flip (suc m) p (b ∷ bs) =
    let e : suc m + p ≡ suc (m + p) = omega arith in
    ap (λ i. drop (suc m) (flip_at i (b ∷ bs))) e ∙ drop_flip m p bs

-- the k bits after the first m
abbrev pub covered : ℕ → ℕ → List Bool → List Bool
covered m k bs = take k (drop m bs)

covered_flip : (m k p : ℕ) (bs : List Bool) → m ≤ p → p < m + k → covered m k (flip_at p bs)
    ≡ flip_at (p - m) (covered m k bs)
covered_flip m k p bs low high =
    let e : p ≡ m + (p - m) = omega arith in
    ap (λ i. covered m k (flip_at i bs)) e ∙ ap (take k) (drop_flip m (p - m) bs)
    ∙ take_flip k (p - m) (drop m bs) (omega arith)

length-covered : (m k : ℕ) (bs : List Bool) → m + k ≤ length bs → length (covered m k bs) ≡ k
length-covered m k bs fits = length-take-le k (drop m bs) (omega (arith, length-drop m bs))

-- outside the covered bits, ys is as xs
abbrev pub SameOutside : ℕ → ℕ → List Bool → List Bool → Type 0
SameOutside m k xs ys = (i : ℕ) → i < length xs → (i < m) ⊎ (m + k ≤ i) → bit_of i ys ≡ bit_of i xs

-- so a position that changed is a covered one
changed_is_covered : (m k i : ℕ) (xs ys : List Bool) → SameOutside m k xs ys → i < length xs
    → bit_of i ys ≡ not (bit_of i xs)
    → (m ≤ i) × (i < m + k)
changed_is_covered m k i xs ys fixed inside changed =
    elim (cases_lt i m) [
      | inl low ↦ absurd (not_same (bit_of i xs) (sym changed ∙ fixed i inside (inl low)))
      | inr from ↦ elim (cases_lt i (m + k)) [
        | inl below ↦ (from, below)
        | inr high ↦ absurd (not_same (bit_of i xs) (sym changed ∙ fixed i inside (inr high)))
      ]
    ]

-- Where the bits outside the covered ones are fixed, and those have the remainder 0 in both, ys isn't xs with one or
-- two bits flipped.
pub flips_show : (m k : ℕ) (xs ys : List Bool) → k ≤ 127 → m + k ≤ length xs → SameOutside m k xs ys
    → remainder (covered m k xs) ≡ 0 → remainder (covered m k ys) ≡ 0 → Flips xs ys → ⊥
flips_show m k xs ys small fits fixed sound heard (one p inside is) =
    let at = changed_is_covered m k p xs ys fixed inside (ap (bit_of p) is ∙ flipped_bit p xs inside) in
    let low : m ≤ p = at.0 in
    let high : p < m + k = at.1 in
    let count : length (covered m k xs) ≡ k = length-covered m k xs fits in
    one_unsound (p - m) (covered m k xs) (omega arith) (omega arith) sound
    (ap remainder (sym (ap (covered m k) is ∙ covered_flip m k p xs low high)) ∙ heard)
flips_show m k xs ys small fits fixed sound heard (two p q less inside is) =
    let late : q < length (flip_at p xs) = omega (arith, length-flip_at p xs) in
    let at_p = changed_is_covered m k p xs ys fixed (omega arith)
    (ap (bit_of p) is ∙ other_bit q p (flip_at p xs) (λ e. absurd (omega arith)) ∙ flipped_bit p xs (omega arith)) in
    let at_q = changed_is_covered m k q xs ys fixed inside
    (ap (bit_of q) is ∙ flipped_bit q (flip_at p xs) late ∙ ap not (other_bit p q xs (λ e. absurd (omega arith)))) in
    let low : m ≤ p = at_p.0 in
    let high : q < m + k = at_q.1 in
    let count : length (covered m k xs) ≡ k = length-covered m k xs fits in
    let two_inside : covered m k ys ≡ flip_at (q - m) (flip_at (p - m) (covered m k xs)) =
    ap (covered m k) is ∙ covered_flip m k q (flip_at p xs) (omega arith) high
    ∙ ap (flip_at (q - m)) (covered_flip m k p xs low (omega arith)) in
    two_unsound (p - m) (q - m) (covered m k xs) (omega arith) (omega arith) (omega arith) sound
    (ap remainder (sym two_inside) ∙ heard)

-- it isn't xs itself either
pub flips_differ : (xs : List Bool) → Flips xs xs → ⊥
flips_differ xs (one p inside is) = not_same (bit_of p xs) (sym (ap (bit_of p) is ∙ flipped_bit p xs inside))
flips_differ xs (two p q less inside is) =
    let late : q < length (flip_at p xs) = omega (arith, length-flip_at p xs) in
    not_same (bit_of q xs)
    (sym (ap (bit_of q) is ∙ flipped_bit q (flip_at p xs) late ∙ ap not (other_bit p q xs (λ e. absurd (omega arith)))))
