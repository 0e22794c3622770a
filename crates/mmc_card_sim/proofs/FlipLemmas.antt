-- Flipping bits of frames: what a mask does to a byte, and that a reply with flipped bits is refused.
use Rattle.std.proofs.Common.{◌%◌, ◌*◌, ◌++◌, ◌+◌, ◌/◌, ◌<◌, ◌^◌, ◌∙◌, ◌∷◌, ◌≡◌, ◌≤◌, ◌⊎◌, Bool, List, None, Option}
use Rattle.std.proofs.Common.{Some, [], ap, arith, bit_xor, drop, false, inl, inr, length, not, refl, subst, suc, sym}
use Rattle.std.proofs.Common.{take, true, zero, ℕ}
use Rattle.std.specs.Int.{bit_at}
use Rattle.std.specs.Prelude.{◌==◌, if◌then◌else◌, nat_lt, slice_index, slice_set}
use Rattle.std.proofs.lemmas.Bool.{and_parts, both_ways, cases_order, eq-eqb, ltb-true, not-true, or_cases}
use Rattle.std.proofs.lemmas.Bool.Decides.{nat_tests}
use Rattle.std.proofs.lemmas.Nat.Bits.{bit_at-lt, bit_at_lowest, bit_at_xor}
use Rattle.mmc_frame.specs.Check.{bits_of, byte_bits}
use Rattle.mmc_frame.specs.Flips.{AreBytes, Flips, flip_at, one, two}
use Rattle.mmc_frame.specs.Frame.{argument_in}
use Rattle.mmc_frame.specs.RegisterFrame.{ocr_frame, register_frame}
use Rattle.mmc_frame.proofs.Bytes.{length-bits_of}
use Rattle.mmc_card.specs.CardAnswer.{CardAnswer, Checked, R2, R3, Silent}
use Rattle.mmc_card.specs.Faults.{IsRefused}
use Rattle.mmc_frame.specs.Flips.{RefusesFlips, RefusesFlipsBesideOcr, is_r2, is_response_to}
use Rattle.mmc_frame.specs.RegisterFrame.{RegistersComeBack}
use Rattle.mmc_frame.specs.Frame.{response_in}
use Rattle.mmc_bus.proofs.Readers.{IsAnswerTo}
use Rattle.mmc_card.specs.declared.command.Command.{Command}
use Rattle.std.specs.Prelude.{Ok, is_ok}
use Rattle.mmc_card.specs.declared.exchange.Reply.{Reply}
use Rattle.mmc_card.specs.declared.exchange.Reply.TheVariants as Came
use Rattle.mmc_card_sim.specs.FlippedReplies.{AreFlippedIn, HasBytes, IsHeardFlipped, are_beside_ocr, can_flip, flip_both}
use Rattle.mmc_card_sim.specs.FlippedReplies.{flip_second, is_beside_ocr, is_flip, is_flip_of}
use Rattle.mmc_card_sim.specs.declared.fault.Flips as Positions

-- a frame of this many bytes, of which one bit or two are flipped
abbrev AreFlipped : ℕ → List ℕ → List ℕ → Type 0
AreFlipped size frame heard =
    (length frame ≡ size) × (length heard ≡ size) × AreBytes heard × Flips (bits_of frame) (bits_of heard)

-- The reply is this answer with one bit or two flipped; of an R3 never those of the OCR.
abbrev IsFlipped : CardAnswer → Reply → Type 0
IsFlipped Silent reply = ⊥
IsFlipped (Checked index argument) reply =
    (frame : List ℕ) × (heard : List ℕ) × (response_in frame index ≡ Ok argument) × AreFlipped 6 frame heard
    × (reply ≡ Came.Short heard)
IsFlipped (R3 ocr) reply =
    (heard : List ℕ) × AreFlipped 6 (ocr_frame ocr) heard × (argument_in heard ≡ ocr) × (reply ≡ Came.Short heard)
IsFlipped (R2 bytes) reply =
    (heard : List ℕ) × AreFlipped 17 (register_frame bytes) heard × (reply ≡ Came.Long heard)

-- a bit, flipped where the mask's is set
abbrev pub masked : Bool → Bool → Bool
masked true bit = not bit
masked false bit = bit

-- the same, bit by bit
abbrev pub each_masked : List Bool → List Bool → List Bool
each_masked (m ∷ mask) (bit ∷ bits) = masked m bit ∷ each_masked mask bits
each_masked _ bits = bits

sum_masked : (a m : ℕ) → a < 2 → m < 2 → ((a + m) % 2 == 1) ≡ masked (m == 1) (a == 1)
sum_masked zero zero h k = refl
sum_masked zero (suc zero) h k = refl
sum_masked (suc zero) zero h k = refl
sum_masked (suc zero) (suc zero) h k = refl
sum_masked zero (suc (suc m)) h k = absurd (omega arith)
sum_masked (suc zero) (suc (suc m)) h k = absurd (omega arith)
sum_masked (suc (suc a)) m h k = absurd (omega arith)

bit_masked : (b mask i : ℕ) → (bit_at (bit_xor b mask) i == 1) ≡ masked (bit_at mask i == 1) (bit_at b i == 1)
bit_masked b mask i =
    ap (λ n. n == 1) (bit_at_xor b mask i) ∙ sum_masked (bit_at b i) (bit_at mask i) (bit_at-lt b i) (bit_at-lt mask i)

-- the n lowest bits, the highest first
abbrev pub low_bits : ℕ → ℕ → List Bool
low_bits zero b = []
low_bits (suc n) b = (bit_at b n == 1) ∷ low_bits n b

low_bits_masked : (n b mask : ℕ) → low_bits n (bit_xor b mask) ≡ each_masked (low_bits n mask) (low_bits n b)
low_bits_masked zero b mask = refl
low_bits_masked (suc n) b mask = cc (bit_masked b mask n, low_bits_masked n b mask)

byte_is : (b : ℕ) → byte_bits b ≡ low_bits 8 b
byte_is b = rw (← bit_at_lowest b)

byte_masked : (b mask : ℕ) → byte_bits (bit_xor b mask) ≡ each_masked (byte_bits mask) (byte_bits b)
byte_masked b mask =
    byte_is (bit_xor b mask) ∙ low_bits_masked 8 b mask
    ∙ sym (ap (λ bits. each_masked bits (low_bits 8 b)) (byte_is mask))
    ∙ sym (ap (each_masked (byte_bits mask)) (byte_is b))

-- the bit j of a byte, from the highest, is flipped by the mask with that bit alone
bits_flipped : (j b : ℕ) (rest : List Bool) → j < 8
    → byte_bits (bit_xor b (128 / 2 ^ j)) ++ rest ≡ flip_at j (byte_bits b ++ rest)
bits_flipped zero b rest h = ap (λ bits. bits ++ rest) (byte_masked b 128)
bits_flipped (suc zero) b rest h = ap (λ bits. bits ++ rest) (byte_masked b 64)
bits_flipped (suc (suc zero)) b rest h = ap (λ bits. bits ++ rest) (byte_masked b 32)
bits_flipped (suc (suc (suc zero))) b rest h = ap (λ bits. bits ++ rest) (byte_masked b 16)
bits_flipped (suc (suc (suc (suc zero)))) b rest h = ap (λ bits. bits ++ rest) (byte_masked b 8)
bits_flipped (suc (suc (suc (suc (suc zero))))) b rest h = ap (λ bits. bits ++ rest) (byte_masked b 4)
bits_flipped (suc (suc (suc (suc (suc (suc zero)))))) b rest h = ap (λ bits. bits ++ rest) (byte_masked b 2)
bits_flipped (suc (suc (suc (suc (suc (suc (suc zero))))))) b rest h = ap (λ bits. bits ++ rest) (byte_masked b 1)
bits_flipped (suc (suc (suc (suc (suc (suc (suc (suc j)))))))) b rest h = absurd (omega arith)

-- so it is in the byte i of a frame
pub frame_flipped : (i j : ℕ) (frame : List ℕ) → i < length frame → j < 8
    → bits_of (slice_set frame i (bit_xor (slice_index frame i) (128 / 2 ^ j))) ≡ flip_at (8 * i + j) (bits_of frame)
frame_flipped i j [] h k = absurd (omega arith)
frame_flipped zero j (b ∷ frame) h k =
    bits_flipped j b (bits_of frame) k ∙ ap (λ p. flip_at p (byte_bits b ++ bits_of frame)) (omega arith)
frame_flipped (suc i) j (b ∷ frame) h k =
    let at : 8 * suc i + j ≡ suc (suc (suc (suc (suc (suc (suc (suc (8 * i + j)))))))) = omega arith in
    ap (λ bits. byte_bits b ++ bits) (frame_flipped i j frame (omega arith) k)
    ∙ ap (λ p. flip_at p (byte_bits b ++ bits_of frame)) (sym at)

-- Flipped bits as the card relation speaks of them.

flip_at_swapped : (p q : ℕ) (bits : List Bool) → flip_at p (flip_at q bits) ≡ flip_at q (flip_at p bits)
flip_at_swapped p q [] = refl
flip_at_swapped zero zero (bit ∷ bits) = refl
flip_at_swapped zero (suc q) (bit ∷ bits) = refl
flip_at_swapped (suc p) zero (bit ∷ bits) = refl
flip_at_swapped (suc p) (suc q) (bit ∷ bits) = ap (λ rest. bit ∷ rest) (flip_at_swapped p q bits)

flips_of : (first : ℕ) (second : Option ℕ) (xs ys : List Bool) → is_flip_of first second (length xs) ≡ true
    → ys ≡ flip_second second (flip_at first xs) → Flips xs ys
flips_of first None xs ys fits is = one first (ltb-true first (length xs) fits) is
flips_of first (Some second) xs ys fits is =
    let parts = and_parts (nat_lt first (length xs)) _ fits in
    let others = and_parts (nat_lt second (length xs)) _ parts.1 in
    elim (cases_order first second) [
      | inl same ↦ absurd (both_ways (first == second) (not-true _ others.1) (eq-eqb first second same))
      | inr (inl before) ↦ two first second before (ltb-true second (length xs) others.0) is
      | inr (inr after) ↦
          two second first after (ltb-true first (length xs) parts.0) (is ∙ flip_at_swapped second first xs)
    ]

-- The OCR of an R3.

same_before : (n p : ℕ) (bits : List Bool) → n ≤ p → take n (flip_at p bits) ≡ take n bits
same_before zero p bits h = refl
same_before (suc n) p [] h = refl
same_before (suc n) zero (bit ∷ bits) h = absurd (omega arith)
same_before (suc n) (suc p) (bit ∷ bits) h = ap (λ rest. bit ∷ rest) (same_before n p bits (omega arith))

-- a flipped bit beside the n bits after the first m leaves those
same_between : (m n p : ℕ) (bits : List Bool) → (p < m) ⊎ (m + n ≤ p)
    → take n (drop m (flip_at p bits)) ≡ take n (drop m bits)
same_between m n p [] h = refl
same_between zero n p (bit ∷ bits) h =
    same_before n p (bit ∷ bits) (elim h [ inl low ↦ absurd (omega arith) | inr high ↦ omega arith ])
same_between (suc m) n zero (bit ∷ bits) h = refl
same_between (suc m) n (suc p) (bit ∷ bits) h =
    same_between m n p bits (elim h [ inl low ↦ inl (omega arith) | inr high ↦ inr (omega arith) ])

ocr_same : (p : ℕ) (bits : List Bool) → is_beside_ocr p ≡ true
    → take 32 (drop 8 (flip_at p bits)) ≡ take 32 (drop 8 bits)
ocr_same p bits h =
    same_between 8 32 p bits (elim (or_cases (nat_lt p 8) (nat_lt 39 p) h) [
      | inl low ↦ inl (ltb-true p 8 low)
      | inr high ↦ inr (omega (arith, ltb-true 39 p high))
    ])

both_same : (first : ℕ) (second : Option ℕ) (bits : List Bool) → are_beside_ocr first second ≡ true
    → take 32 (drop 8 (flip_second second (flip_at first bits))) ≡ take 32 (drop 8 bits)
both_same first None bits h = ocr_same first bits h
both_same first (Some second) bits h =
    let parts = and_parts (is_beside_ocr first) (is_beside_ocr second) h in
    ocr_same second (flip_at first bits) parts.1 ∙ ocr_same first bits parts.0

-- the number n, with these bits after its own
abbrev pub number_after : ℕ → List Bool → ℕ
number_after n [] = n
number_after n (bit ∷ bits) = number_after (2 * n + (if bit then 1 else 0)) bits

bit_value : (n : ℕ) → (if n % 2 == 1 then 1 else 0) ≡ n % 2
bit_value n = grind (arith, nat_tests)

byte_after : (n b : ℕ) (rest : List Bool) → b < 256
    → number_after n (byte_bits b ++ rest) ≡ number_after (256 * n + b) rest
byte_after n b rest h =
    ap (λ m. number_after m rest)
    (omega (
      arith,
      bit_value (b / 128),
      bit_value (b / 64),
      bit_value (b / 32),
      bit_value (b / 16),
      bit_value (b / 8),
      bit_value (b / 4),
      bit_value (b / 2),
      bit_value b,
    ))

argument_is : (frame : List ℕ) → length frame ≡ 6 → AreBytes frame
    → number_after 0 (take 32 (drop 8 (bits_of frame))) ≡ argument_in frame
argument_is (a ∷ b ∷ c ∷ d ∷ e ∷ l ∷ []) size bytes =
    byte_after 0 b (bits_of (c ∷ d ∷ e ∷ [])) bytes.1.0
    ∙ byte_after (256 * 0 + b) c (bits_of (d ∷ e ∷ [])) bytes.1.1.0
    ∙ byte_after (256 * (256 * 0 + b) + c) d (bits_of (e ∷ [])) bytes.1.1.1.0
    ∙ byte_after (256 * (256 * (256 * 0 + b) + c) + d) e [] bytes.1.1.1.1.0
    ∙ omega (arith, bytes.1.0, bytes.1.1.0, bytes.1.1.1.0, bytes.1.1.1.1.0, bytes.1.1.1.1.1.0)
argument_is [] size bytes = absurd (omega arith)
argument_is (a ∷ []) size bytes = absurd (omega arith)
argument_is (a ∷ b ∷ []) size bytes = absurd (omega arith)
argument_is (a ∷ b ∷ c ∷ []) size bytes = absurd (omega arith)
argument_is (a ∷ b ∷ c ∷ d ∷ []) size bytes = absurd (omega arith)
argument_is (a ∷ b ∷ c ∷ d ∷ e ∷ []) size bytes = absurd (omega arith)
argument_is (a ∷ b ∷ c ∷ d ∷ e ∷ l ∷ x ∷ xs) size bytes = absurd (omega arith)

ocr_argument : (ocr : ℕ) → AreBytes (ocr_frame ocr) → argument_in (ocr_frame ocr) ≡ ocr
ocr_argument ocr bytes = omega (arith, bytes.1.0)

ocr_kept : (flips : Positions.Flips) (ocr : ℕ) (heard : List ℕ) → are_beside_ocr flips.first flips.second ≡ true
    → AreBytes (ocr_frame ocr) → length heard ≡ 6 → AreBytes heard
    → bits_of heard ≡ flip_both flips (bits_of (ocr_frame ocr)) → argument_in heard ≡ ocr
ocr_kept flips ocr heard beside sent size bytes flipped =
    sym (argument_is heard size bytes)
    ∙ ap (λ bits. number_after 0 (take 32 (drop 8 bits))) flipped
    ∙ ap (number_after 0) (both_same flips.first flips.second (bits_of (ocr_frame ocr)) beside)
    ∙ argument_is (ocr_frame ocr) refl sent
    ∙ ocr_argument ocr sent

-- A reply with flipped bits.

are_flipped : (size : ℕ) (flips : Positions.Flips) (frame heard : List ℕ) → is_flip flips (8 * size) ≡ true
    → length frame ≡ size → length heard ≡ size → AreBytes heard → bits_of heard ≡ flip_both flips (bits_of frame)
    → AreFlipped size frame heard
are_flipped size flips frame heard fits sent_size heard_size bytes flipped =
    let count : length (bits_of frame) ≡ 8 * size = omega (arith, length-bits_of frame) in
    let inside : is_flip flips (length (bits_of frame)) ≡ true = rw count fits in
    (sent_size, heard_size, bytes, flips_of flips.first flips.second (bits_of frame) (bits_of heard) inside flipped)

-- only 48 bits are heard of 48 bits that are sent
short_heard : (flips : Positions.Flips) (frame : List ℕ) (reply : Reply) → HasBytes (Came.Short frame)
    → AreFlippedIn flips (Came.Short frame) reply → HasBytes reply → is_flip flips 48 ≡ true
    → (heard : List ℕ) × AreFlipped 6 frame heard × (bits_of heard ≡ flip_both flips (bits_of frame))
    × (reply ≡ Came.Short heard)
short_heard flips frame Came.Silent sent flipped bytes fits = absurd flipped
short_heard flips frame (Came.Short heard) sent flipped bytes fits =
    (heard, are_flipped 6 flips frame heard fits sent.0 bytes.0 bytes.1 flipped, flipped, refl)
short_heard flips frame (Came.Long heard) sent flipped bytes fits = absurd flipped

long_heard : (flips : Positions.Flips) (frame : List ℕ) (reply : Reply) → HasBytes (Came.Long frame)
    → AreFlippedIn flips (Came.Long frame) reply → HasBytes reply → is_flip flips 136 ≡ true
    → (heard : List ℕ) × AreFlipped 17 frame heard × (reply ≡ Came.Long heard)
long_heard flips frame Came.Silent sent flipped bytes fits = absurd flipped
long_heard flips frame (Came.Short heard) sent flipped bytes fits = absurd flipped
long_heard flips frame (Came.Long heard) sent flipped bytes fits =
    (heard, are_flipped 17 flips frame heard fits sent.0 bytes.0 bytes.1 flipped, refl)

-- a reply of which these bits are flipped
is_flipped : (flips : Positions.Flips) (answer : CardAnswer) (reply : Reply) → can_flip flips answer ≡ true
    → IsHeardFlipped flips answer reply → IsFlipped answer reply
is_flipped flips Silent reply fits h = cc
is_flipped flips (Checked index argument) reply fits h =
    let heard = short_heard flips h.spells.0 reply (subst HasBytes h.spells.1 h.sent_bytes)
    (subst (λ sent. AreFlippedIn flips sent reply) h.spells.1 h.flipped) h.bytes fits in
    (h.spells.0, heard.0, h.spells.2, heard.1, heard.3)
is_flipped flips (R3 ocr) reply fits h =
    let parts = and_parts (is_flip flips 48) (are_beside_ocr flips.first flips.second) fits in
    let sent_bytes : HasBytes (Came.Short (ocr_frame ocr)) = subst HasBytes h.spells h.sent_bytes in
    let heard = short_heard flips (ocr_frame ocr) reply sent_bytes
    (subst (λ sent. AreFlippedIn flips sent reply) h.spells h.flipped) h.bytes parts.0 in
    (heard.0, heard.1, ocr_kept flips ocr heard.0 parts.1 sent_bytes.1 heard.1.1 heard.1.2 heard.2, heard.3)
is_flipped flips (R2 register) reply fits h =
    long_heard flips (register_frame register) reply (subst HasBytes h.spells h.sent_bytes)
    (subst (λ sent. AreFlippedIn flips sent reply) h.spells h.flipped) h.bytes fits

-- the laws of the readers of frames
pub record FlipLaws : Type 0 where
  pub response : (index other : ℕ) → RefusesFlips 6 (is_response_to index) (is_response_to other)
  pub ocr : RefusesFlipsBesideOcr
  pub register : RefusesFlips 17 is_r2 is_r2
  pub back : RegistersComeBack

refuses : FlipLaws → (sent : ℕ × ℕ) (command : Command) (answer : CardAnswer) (reply : Reply) → IsAnswerTo command answer
    → IsFlipped answer reply → IsRefused (Some sent) answer reply
refuses laws sent command Silent reply fits f = absurd f
refuses laws sent command (Checked index argument) reply fits f =
    subst (IsRefused (Some sent) (Checked index argument)) (sym f.4)
    (laws.response index sent.0 f.0 f.1 f.3.0 f.3.1 f.3.3 (ap is_ok f.2))
refuses laws sent command (R3 ocr) reply fits f =
    subst (IsRefused (Some sent) (R3 ocr)) (sym f.3) (laws.ocr ocr f.0 f.1.1 f.1.2 f.1.3 f.2)
refuses laws sent command (R2 bytes) reply fits f =
    subst (IsRefused (Some sent) (R2 bytes)) (sym f.2)
    (laws.register (register_frame bytes) f.0 f.1.0 f.1.1 f.1.3 (ap is_ok (laws.back bytes fits.size fits.check fits.end_bit)))

-- a reply with flipped bits is one that no reader takes
pub flipped_is_refused : FlipLaws → (sent : ℕ × ℕ) (command : Command) (flips : Positions.Flips) (answer : CardAnswer)
    (reply : Reply) → IsAnswerTo command answer → can_flip flips answer ≡ true → IsHeardFlipped flips answer reply
    → IsRefused (Some sent) answer reply
flipped_is_refused laws sent command flips answer reply fits can heard =
    refuses laws sent command answer reply fits (is_flipped flips answer reply can heard)
