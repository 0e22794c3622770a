-- Frames with one or two bits flipped are refused: 48 bits, of which the check covers all but the end bit, and 136
-- bits, of which it covers all but the first eight and the end bit.
use Rattle.std.proofs.Common.{◌≡◌, ℕ, zero, suc, ◌+◌, ◌*◌, ◌/◌, ◌%◌, ◌^◌, ◌<◌, inl, inr, List, [], ◌∷◌, ◌++◌, length}
use Rattle.std.proofs.Common.{take, drop, Bool, true, false, cond, ◌&&◌, refl, sym, ◌∙◌, ap, subst, arith, is_ok}
use Rattle.std.proofs.Common.{is_some, Some, None, Result, Ok, Err}
use Rattle.std.specs.Prelude.{slice_index, slice_range, ◌==◌}
use Rattle.std.proofs.lemmas.Bool.{eqb-true, eq-eqb}
use Rattle.std.proofs.lemmas.List.{take_all}
use Rattle.mmc_frame.specs.Check.{remainder, bits_of, byte_bits}
use Rattle.mmc_frame.specs.Field.{field}
use Rattle.mmc_frame.specs.Flips.{AreBytes, Flips, RefusesFlips}
use Rattle.mmc_frame.specs.Frame.{number, is_sound, has_fixed_bits, index_in, argument_in, command_in, response_in}
use Rattle.mmc_frame.specs.RegisterFrame.{is_sound_register, ocr_frame, ocr_in, register_in}
use Rattle.mmc_frame.specs.ResponseFields.{read_as}
use Rattle.mmc_frame.specs.declared.fault.FrameFault.{FrameFault}
use Rattle.mmc_frame.specs.declared.fault.FrameFault.TheVariants.{FixedBits, Check, Index}
use Rattle.mmc_frame.proofs.Bytes.{and_true, length-bits_of}
use Rattle.mmc_frame.proofs.Flipped.{bit_of, flips_differ, flips_show}

bit_before : (i : ℕ) (xs ys : List Bool) → i < length xs → bit_of i (xs ++ ys) ≡ bit_of i xs
bit_before i [] ys h = absurd (omega arith)
bit_before zero (x ∷ xs) ys h = refl
bit_before (suc i) (x ∷ xs) ys h = bit_before i xs ys (omega arith)

-- the lowest bit of a byte is sent last of its eight
low_bit : (j : ℕ) (bytes : List ℕ) → j < length bytes → bit_of (8 * j + 7) (bits_of bytes)
    ≡ (slice_index bytes j % 2 == 1)
low_bit j [] h = absurd (omega arith)
low_bit zero (b ∷ bs) h = refl
low_bit (suc j) (b ∷ bs) h =
    let e : 8 * suc j + 7 ≡ suc (suc (suc (suc (suc (suc (suc (suc (8 * j + 7)))))))) = omega arith in
    ap (λ i. bit_of i (byte_bits b ++ bits_of bs)) e ∙ low_bit j bs (omega arith)

-- the bits at the same last position are equal where both bytes are odd
same_low_bit : (j i : ℕ) (f g : List ℕ) → i ≡ 8 * j + 7 → j < length f → j < length g
    → (slice_index f j % 2 == 1) ≡ true → (slice_index g j % 2 == 1) ≡ true → bit_of i (bits_of g)
    ≡ bit_of i (bits_of f)
same_low_bit j i f g e in_f in_g odd_f odd_g =
    ap (λ k. bit_of k (bits_of g)) e ∙ low_bit j g in_g ∙ odd_g ∙ sym odd_f ∙ sym (low_bit j f in_f)
    ∙ sym (ap (λ k. bit_of k (bits_of f)) e)

-- what a reader of 48 bits tests, beside the start bit, the transmission bit and the index
pub record IsTaken (f : List ℕ) : Type 0 where
  pub sound : is_sound f ≡ true
  pub ended : (slice_index f 5 % 2 == 1) ≡ true

remainder_of_sound : (f : List ℕ) → is_sound f ≡ true → remainder (take 47 (bits_of f)) ≡ 0
unfolding is_sound
remainder_of_sound f h = eqb-true _ 0 h

pub short_flips : (f g : List ℕ) → length f ≡ 6 → length g ≡ 6 → Flips (bits_of f) (bits_of g) → IsTaken f → IsTaken g
    → ⊥
short_flips f g size size_g flips sent heard =
    let count : length (bits_of f) ≡ 48 = omega (arith, length-bits_of f) in
    flips_show 0 47 (bits_of f) (bits_of g) (omega arith) (omega arith)
    (λ i inside outside. same_low_bit 5 i f g (elim outside [ inl low ↦ absurd (omega arith) | inr high ↦ omega arith ])
    (omega arith) (omega arith) sent.ended heard.ended)
    (remainder_of_sound f sent.sound) (remainder_of_sound g heard.sound) flips

refused : (b : Bool) → (b ≡ true → ⊥) → b ≡ false
refused true h = absurd (h refl)
refused false h = refl

-- what takes only such frames refuses flipped ones
pub short_law : (takes hears : List ℕ → Bool) → ((f : List ℕ) → takes f ≡ true → IsTaken f)
    → ((f : List ℕ) → hears f ≡ true → IsTaken f)
    → RefusesFlips 6 takes hears
short_law takes hears sends receives sent heard size size_heard flips taken =
    refused (hears heard) (λ again. short_flips sent heard size size_heard flips (sends sent taken)
    (receives heard again))

end_bit : (transmission : ℕ) (f : List ℕ) → has_fixed_bits transmission f ≡ true → (slice_index f 5 % 2 == 1) ≡ true
end_bit transmission f h =
    let low : field 0 0 (number f) ≡ 1 = eqb-true _ 1
    (and_true (field 47 46 (number f) == transmission) (field 0 0 (number f) == 1) h).1 in
    eq-eqb (slice_index f 5 % 2) 1 (omega arith)

some_by : {X : Type 0} (a : Bool) (x : X) → is_some (cond a (Some x) None) ≡ true → a ≡ true
some_by true x h = refl
some_by false x h = cc

pub command_taken : (f : List ℕ) → is_some (command_in f) ≡ true → IsTaken f
command_taken f h =
    let both = and_true (has_fixed_bits 1 f) (is_sound f)
    (some_by (has_fixed_bits 1 f && is_sound f) (index_in f, argument_in f) h) in
    record { sound = both.1; ended = end_bit 1 f both.0 }

ok_by : {P X : Type 0} (a b c : Bool) (x : X)
    → is_ok (cond a (cond b (cond c (Ok x) (Err Index)) (Err Check)) (Err FixedBits)) ≡ true
    → (a ≡ true → b ≡ true → P) → P
ok_by true true c x h f = f refl refl
ok_by true false c x h f = absurd cc
ok_by false b c x h f = absurd cc

pub response_taken : (index : ℕ) (f : List ℕ) → is_ok (response_in f index) ≡ true → IsTaken f
response_taken index f h =
    ok_by (has_fixed_bits 0 f) (is_sound f) (index_in f == index) (argument_in f) h
    (λ fixed sound. record { sound = sound; ended = end_bit 0 f fixed })

read_as_ok : {X : Type 0} (fields : ℕ → X) (r : Result ℕ FrameFault) → is_ok (read_as fields r) ≡ true → is_ok r ≡ true
read_as_ok fields (Ok x) h = refl
read_as_ok fields (Err e) h = h

-- a response to this index, whatever is read from its argument
pub read_as_taken : {X : Type 0} (fields : ℕ → X) (index : ℕ) (f : List ℕ)
    → is_ok (read_as fields (response_in f index)) ≡ true → IsTaken f
read_as_taken fields index f h = response_taken index f (read_as_ok fields (response_in f index) h)

-- what a reader of registers tests
pub record IsTakenRegister (f : List ℕ) : Type 0 where
  pub first : slice_index f 0 ≡ 0x3f
  pub ended : (slice_index f 16 % 2 == 1) ≡ true
  pub sound : is_sound_register (slice_range f 1 17) ≡ true

register_by : {P X : Type 0} (a b : Bool) (x : X) → is_ok (cond a (cond b (Ok x) (Err Check)) (Err FixedBits)) ≡ true
    → (a ≡ true → b ≡ true → P) → P
register_by true true x h f = f refl refl
register_by true false x h f = absurd cc
register_by false b x h f = absurd cc

pub register_taken : (f : List ℕ) → is_ok (register_in f) ≡ true → IsTakenRegister f
register_taken f h =
    register_by ((slice_index f 0 == 0x3f) && (slice_index f 16 % 2 == 1)) (is_sound_register (slice_range f 1 17))
    (slice_range f 1 17) h
    (λ fixed sound.
    let both = and_true (slice_index f 0 == 0x3f) (slice_index f 16 % 2 == 1) fixed in
    record { first = eqb-true (slice_index f 0) 0x3f both.0; ended = both.1; sound = sound })

remainder_of_sound_register : (f : List ℕ) → length f ≡ 17 → is_sound_register (slice_range f 1 17) ≡ true
    → remainder (take 127 (drop 8 (bits_of f))) ≡ 0
unfolding is_sound_register
remainder_of_sound_register [] size h = absurd (omega arith)
remainder_of_sound_register (b ∷ bs) size h =
    let all : take 16 bs ≡ bs = take_all 16 bs (omega arith) in
    ap (λ r. remainder (take 127 (bits_of r))) (sym all) ∙ eqb-true _ 0 h

-- the first eight bits are those of the first byte
first_bits : (i : ℕ) (f g : List ℕ) → i < 8 → 0 < length f → 0 < length g → slice_index g 0 ≡ slice_index f 0
    → bit_of i (bits_of g) ≡ bit_of i (bits_of f)
first_bits i [] g h in_f in_g same = absurd (omega arith)
first_bits i f [] h in_f in_g same = absurd (omega arith)
first_bits i (a ∷ f) (b ∷ g) h in_f in_g same =
    bit_before i (byte_bits b) (bits_of g) h ∙ ap (λ x. bit_of i (byte_bits x)) same
    ∙ sym (bit_before i (byte_bits a) (bits_of f) h)

pub long_flips : (f g : List ℕ) → length f ≡ 17 → length g ≡ 17 → Flips (bits_of f) (bits_of g) → IsTakenRegister f
    → IsTakenRegister g → ⊥
long_flips f g size size_g flips sent heard =
    let count : length (bits_of f) ≡ 136 = omega (arith, length-bits_of f) in
    flips_show 8 127 (bits_of f) (bits_of g) (omega arith) (omega arith)
    (λ i inside outside. elim outside [
      | inl low ↦ first_bits i f g low (omega arith) (omega arith) (heard.first ∙ sym sent.first)
      | inr high ↦ same_low_bit 16 i f g (omega arith) (omega arith) (omega arith) sent.ended heard.ended
    ])
    (remainder_of_sound_register f size sent.sound) (remainder_of_sound_register g size_g heard.sound) flips

pub long_law : (takes hears : List ℕ → Bool) → ((f : List ℕ) → takes f ≡ true → IsTakenRegister f)
    → ((f : List ℕ) → hears f ≡ true → IsTakenRegister f)
    → RefusesFlips 17 takes hears
long_law takes hears sends receives sent heard size size_heard flips taken =
    refused (hears heard) (λ again. long_flips sent heard size size_heard flips (sends sent taken)
    (receives heard again))

-- R3, which no check protects.

ocr_by : (a b : Bool) (x : ℕ) → is_ok (cond (a && b) (Ok x) (Err FixedBits)) ≡ true → (a ≡ true) × (b ≡ true)
ocr_by true true x h = (refl, refl)
ocr_by true false x h = absurd cc
ocr_by false b x h = absurd cc

-- the bytes are those of the OCR's frame
same_frame : (a b c d e l ocr : ℕ) → a < 256 → b < 256 → c < 256 → d < 256 → e < 256 → l < 256
    → field 47 40 (number (a ∷ b ∷ c ∷ d ∷ e ∷ l ∷ [])) ≡ 0x3f → field 7 0 (number (a ∷ b ∷ c ∷ d ∷ e ∷ l ∷ [])) ≡ 0xff
    → argument_in (a ∷ b ∷ c ∷ d ∷ e ∷ l ∷ []) ≡ ocr → (a ∷ b ∷ c ∷ d ∷ e ∷ l ∷ []) ≡ ocr_frame ocr
same_frame a b c d e l ocr ha hb hc hd he hl first last argument =
    let ia : a ≡ 0x3f = omega arith in
    let il : l ≡ 0xff = omega arith in
    let ib : b ≡ ocr / 2 ^ 24 = omega arith in
    let ic : c ≡ ocr / 2 ^ 16 % 256 = omega arith in
    let id : d ≡ ocr / 2 ^ 8 % 256 = omega arith in
    let ie : e ≡ ocr % 256 = omega arith in
    rw (ia, ib, ic, id, ie, il) refl

pub ocr_flips : (ocr : ℕ) (g : List ℕ) → length g ≡ 6 → AreBytes g → Flips (bits_of (ocr_frame ocr)) (bits_of g)
    → argument_in g ≡ ocr → is_ok (ocr_in g) ≡ false
ocr_flips ocr (a ∷ b ∷ c ∷ d ∷ e ∷ l ∷ []) size bytes flips argument =
    let g : List ℕ = a ∷ b ∷ c ∷ d ∷ e ∷ l ∷ [] in
    refused (is_ok (ocr_in g)) (λ taken.
    let fixed = ocr_by (field 47 40 (number g) == 0x3f) (field 7 0 (number g) == 0xff) (argument_in g) taken in
    let same : g ≡ ocr_frame ocr = same_frame a b c d e l ocr bytes.0 bytes.1.0 bytes.1.1.0 bytes.1.1.1.0
    bytes.1.1.1.1.0 bytes.1.1.1.1.1.0
    (eqb-true (field 47 40 (number g)) 0x3f fixed.0) (eqb-true (field 7 0 (number g)) 0xff fixed.1) argument in
    flips_differ (bits_of g) (subst (λ f. Flips (bits_of f) (bits_of g)) (sym same) flips))
ocr_flips ocr [] size bytes flips argument = absurd (omega arith)
ocr_flips ocr (a ∷ []) size bytes flips argument = absurd (omega arith)
ocr_flips ocr (a ∷ b ∷ []) size bytes flips argument = absurd (omega arith)
ocr_flips ocr (a ∷ b ∷ c ∷ []) size bytes flips argument = absurd (omega arith)
ocr_flips ocr (a ∷ b ∷ c ∷ d ∷ []) size bytes flips argument = absurd (omega arith)
ocr_flips ocr (a ∷ b ∷ c ∷ d ∷ e ∷ []) size bytes flips argument = absurd (omega arith)
ocr_flips ocr (a ∷ b ∷ c ∷ d ∷ e ∷ l ∷ x ∷ xs) size bytes flips argument = absurd (omega arith)
