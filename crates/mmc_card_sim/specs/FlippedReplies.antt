-- How a reply is heard of which bits are flipped.
use Rattle.std.specs.Prelude.{◌&&◌, ◌==◌, ◌||◌, ◌≡◌, Bool, List, None, Option, Some, false}
use Rattle.std.specs.Prelude.{length, nat_lt, not, ℕ}
use Rattle.mmc_frame.specs.Check.{bits_of}
use Rattle.mmc_frame.specs.Flips.{AreBytes, flip_at}
use Rattle.mmc_card.specs.CardAnswer.{CardAnswer, Checked, R2, R3, Silent}
use Rattle.mmc_card.specs.Faults.{Spells}
use Rattle.mmc_card.specs.declared.exchange.Reply.{Reply}
use Rattle.mmc_card.specs.declared.exchange.Reply.TheVariants as Came
use Rattle.mmc_card_sim.specs.declared.fault.Flips.{Flips}

-- one position in a frame of so many bits, or two
abbrev pub is_flip_of : ℕ → Option ℕ → ℕ → Bool
is_flip_of first None bits = nat_lt first bits
is_flip_of first (Some second) bits = nat_lt first bits && (nat_lt second bits && not (first == second))

abbrev pub is_flip : Flips → ℕ → Bool
is_flip flips bits = is_flip_of flips.first flips.second bits

-- the position isn't one of the OCR's in an R3, which are 8 to 39
abbrev pub is_beside_ocr : ℕ → Bool
is_beside_ocr position = nat_lt position 8 || nat_lt 39 position

abbrev pub are_beside_ocr : ℕ → Option ℕ → Bool
are_beside_ocr first None = is_beside_ocr first
are_beside_ocr first (Some second) = is_beside_ocr first && is_beside_ocr second

-- these bits of an answer can be flipped; of an R3 never those of the OCR
abbrev pub can_flip : Flips → CardAnswer → Bool
can_flip flips Silent = false
can_flip flips (Checked index argument) = is_flip flips 48
can_flip flips (R3 ocr) = is_flip flips 48 && are_beside_ocr flips.first flips.second
can_flip flips (R2 register) = is_flip flips 136

-- the bits at these positions, in order of sending, are flipped
abbrev pub flip_second : Option ℕ → List Bool → List Bool
flip_second None bits = bits
flip_second (Some second) bits = flip_at second bits

abbrev pub flip_both : Flips → List Bool → List Bool
flip_both flips bits = flip_second flips.second (flip_at flips.first bits)

-- the frame is bytes, six or seventeen
abbrev pub HasBytes : Reply → Type 0
HasBytes Came.Silent = Unit {0}
HasBytes (Came.Short frame) = (length frame ≡ 6) × AreBytes frame
HasBytes (Came.Long frame) = (length frame ≡ 17) × AreBytes frame

-- the reply is a frame of this answer with just these bits flipped
abbrev pub AreFlippedIn : Flips → Reply → Reply → Type 0
AreFlippedIn flips (Came.Short sent) (Came.Short heard) = bits_of heard ≡ flip_both flips (bits_of sent)
AreFlippedIn flips (Came.Long sent) (Came.Long heard) = bits_of heard ≡ flip_both flips (bits_of sent)
AreFlippedIn flips _ _ = ⊥

pub record IsHeardFlipped (flips : Flips) (answer : CardAnswer) (reply : Reply) : Type 0 where
  pub sent : Reply
  pub spells : Spells answer sent
  pub sent_bytes : HasBytes sent
  pub flipped : AreFlippedIn flips sent reply
  pub bytes : HasBytes reply
