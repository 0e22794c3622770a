-- Relation (docs/AUDIT.md, "What to read").
-- Frames in which one bit or two changed on the way.
use Rattle.std.specs.Prelude.{◌≡◌, ℕ, zero, suc, ◌<◌, List, [], ◌∷◌, length, Bool, true, false, not, is_ok, is_some}
use Rattle.mmc_frame.specs.Check.{bits_of}
use Rattle.mmc_frame.specs.Frame.{argument_in, command_in, response_in}
use Rattle.mmc_frame.specs.RegisterFrame.{ocr_frame, ocr_in, register_in}
use Rattle.mmc_frame.specs.ResponseFields.{r6_in, r7_in}

-- the bits, of which the one at this position (0 is sent first) is flipped
abbrev pub flip_at : ℕ → List Bool → List Bool
flip_at position [] = []
flip_at zero (bit ∷ bits) = not bit ∷ bits
flip_at (suc position) (bit ∷ bits) = bit ∷ flip_at position bits

-- ys is xs with one bit flipped, or two
pub data Flips (xs ys : List Bool) : Type 0 where
  one : (p : ℕ) → p < length xs → ys ≡ flip_at p xs → Flips xs ys
  two : (p q : ℕ) → p < q → q < length xs → ys ≡ flip_at q (flip_at p xs) → Flips xs ys

-- each is below 256
abbrev pub AreBytes : List ℕ → Type 0
AreBytes [] = Unit {0}
AreBytes (b ∷ bs) = (b < 256) × AreBytes bs

-- Of all frames of this many bytes: what `takes` takes, `hears` refuses once one bit or two are flipped.
abbrev pub RefusesFlips : ℕ → (List ℕ → Bool) → (List ℕ → Bool) → Type 0
RefusesFlips size takes hears =
    (sent heard : List ℕ) → length sent ≡ size → length heard ≡ size → Flips (bits_of sent) (bits_of heard)
    → takes sent ≡ true → hears heard ≡ false

-- the readers as tests
abbrev pub is_command : List ℕ → Bool
is_command frame = is_some (command_in frame)

abbrev pub is_response_to : ℕ → List ℕ → Bool
is_response_to index frame = is_ok (response_in frame index)

abbrev pub is_r6 : List ℕ → Bool
is_r6 frame = is_ok (r6_in frame)

abbrev pub is_r7 : List ℕ → Bool
is_r7 frame = is_ok (r7_in frame)

abbrev pub is_r2 : List ℕ → Bool
is_r2 frame = is_ok (register_in frame)

-- What is left of an R3 once one bit or two of it are flipped, none of them of the OCR, is refused.
abbrev pub RefusesFlipsBesideOcr : Type 0
RefusesFlipsBesideOcr =
    (ocr : ℕ) (heard : List ℕ) → length heard ≡ 6 → AreBytes heard
    → Flips (bits_of (ocr_frame ocr)) (bits_of heard) → argument_in heard ≡ ocr → is_ok (ocr_in heard) ≡ false
