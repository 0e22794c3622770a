-- Digits of which there are as many as a register or a frame may have write its bytes.
use Rattle.std.proofs.Common.{◌≡◌, ◌+◌, ◌*◌, ◌%◌, ℕ, zero, suc, List, [], ◌∷◌, ◌++◌, length, Bool, true, false}
use Rattle.std.proofs.Common.{refl, sym, ap, ◌∙◌, arith, length-append}
use Rattle.std.specs.Prelude.{Err, None, Ok, Some, cond, count_by, filter, replicate}
use Rattle.std.specs.List.{AllPass}
use Rattle.std.proofs.lemmas.List.{length-replicate}
use Rattle.std.proofs.lemmas.List.Sums.{length-filter}
use Rattle.hex.specs.Hex.{decode_of, is_hex_digit}
use Rattle.hex.proofs.HexLemmas.{decode_of-digits, decode_of-ok}
use Rattle.card_decode.specs.Registers.{register_len}
use Rattle.card_decode.specs.Digits.{bytes_if, digits_in, stray_in, unless, without_prefix}
use Rattle.card_decode.specs.Reading.{frame_may_have, frame_reading_of, may_have, reading_of, register_digits, register_if}
use Rattle.card_decode.specs.Reading.{register_of, sized_frame, sized_register, zeros_left_out}
use Rattle.card_decode.specs.declared.fault.HexFault.{HexFault}
use Rattle.card_decode.specs.declared.fault.HexFault.TheVariants.{FrameLength, Length}
use Rattle.card_decode.specs.declared.register.Register.{Register}

-- a stray character comes first
pub reads_stray : (register : Register) (text : List ℕ) (fault : HexFault) → Some fault ≡ stray_in text
    → reading_of register text ≡ Err fault
unfolding reading_of
reads_stray register text fault stray =
    ap (λ s. unless s (sized_register register (register_digits register text))) (sym stray)

-- with no stray character, the digits are judged
reads_digits : (register : Register) (text : List ℕ) → None ≡ stray_in text
    → reading_of register text ≡ sized_register register (register_digits register text)
unfolding reading_of
reads_digits register text stray =
    ap (λ s. unless s (sized_register register (register_digits register text))) (sym stray)

-- how many digits there are with the leading zeros that are left out
pub digits_count : (register : Register) (text digits : List ℕ) (zeros count : ℕ) → digits ≡ without_prefix text
    → zeros ≡ zeros_left_out register text → count ≡ count_by is_hex_digit digits
    → length (register_digits register text) ≡ zeros + count
digits_count register text digits zeros count same left counted =
    length-append (replicate (zeros_left_out register text) 48) (digits_in text)
    ∙ ap (λ n. n + length (digits_in text)) (length-replicate (zeros_left_out register text) 48 ∙ sym left)
    ∙ ap (λ n. zeros + n)
    (length-filter is_hex_digit (without_prefix text) ∙ ap (count_by is_hex_digit) (sym same) ∙ sym counted)

-- the digits that are decoded
pub digits_are : (register : Register) (text digits : List ℕ) (zeros : ℕ) → digits ≡ without_prefix text
    → zeros ≡ zeros_left_out register text
    → register_digits register text ≡ replicate zeros 48 ++ filter is_hex_digit digits
digits_are register text digits zeros same left =
    ap (λ n. replicate n 48 ++ digits_in text) (sym left)
    ∙ ap (λ d. replicate zeros 48 ++ filter is_hex_digit d) (sym same)

pub reads_length : (register : Register) (text : List ℕ) (count : ℕ) → None ≡ stray_in text
    → length (register_digits register text) ≡ count → may_have register count ≡ false
    → reading_of register text ≡ Err (Length count (2 * register_len register))
reads_length register text count stray many other =
    let digits = register_digits register text in
    reads_digits register text stray
    ∙ ap (λ n. cond (may_have register n) (register_if (bytes_if (decode_of digits))) (Err (Length n (2 * register_len register)))) many
    ∙ ap (λ t. cond t (register_if (bytes_if (decode_of digits))) (Err (Length count (2 * register_len register)))) other

-- digits that are enough write the bytes that say the register
pub reads_bytes : (register : Register) (text bytes : List ℕ) → None ≡ stray_in text
    → may_have register (length (register_digits register text)) ≡ true
    → decode_of (register_digits register text) ≡ Ok bytes → reading_of register text ≡ register_of bytes
reads_bytes register text bytes stray enough decoded =
    let digits = register_digits register text in
    reads_digits register text stray
    ∙ ap (λ t. cond t (register_if (bytes_if (decode_of digits))) (Err (Length (length digits) (2 * register_len register)))) enough
    ∙ ap (λ r. register_if (bytes_if r)) decoded

-- and there are half as many bytes as digits
pub bytes_count : (digits bytes : List ℕ) → decode_of digits ≡ Ok bytes → 2 * length bytes ≡ length digits
bytes_count digits bytes decoded =
    let parts = decode_of-ok digits bytes decoded in
    omega (arith, parts.2)

-- a stray character comes first of a frame too
pub frame_reads_stray : (text : List ℕ) (fault : HexFault) → Some fault ≡ stray_in text
    → frame_reading_of text ≡ Err fault
unfolding frame_reading_of
frame_reads_stray text fault stray = ap (λ s. unless s (sized_frame (digits_in text))) (sym stray)

frame_reads_digits : (text digits : List ℕ) → digits ≡ without_prefix text → None ≡ stray_in text
    → frame_reading_of text ≡ sized_frame (filter is_hex_digit digits)
unfolding frame_reading_of
frame_reads_digits text digits same stray =
    ap (λ s. unless s (sized_frame (digits_in text))) (sym stray)
    ∙ ap (λ d. sized_frame (filter is_hex_digit d)) (sym same)

pub frame_reads_length : (text digits : List ℕ) (count : ℕ) → digits ≡ without_prefix text → None ≡ stray_in text
    → count ≡ count_by is_hex_digit digits → frame_may_have count ≡ false
    → frame_reading_of text ≡ Err (FrameLength count)
frame_reads_length text digits count same stray counted other =
    let found = filter is_hex_digit digits in
    frame_reads_digits text digits same stray
    ∙ ap (λ n. cond (frame_may_have n) (bytes_if (decode_of found)) (Err (FrameLength n)))
    (length-filter is_hex_digit digits ∙ sym counted)
    ∙ ap (λ t. cond t (bytes_if (decode_of found)) (Err (FrameLength count))) other

pub frame_reads_bytes : (text digits bytes : List ℕ) → digits ≡ without_prefix text → None ≡ stray_in text
    → frame_may_have (count_by is_hex_digit digits) ≡ true → decode_of (filter is_hex_digit digits) ≡ Ok bytes
    → frame_reading_of text ≡ Ok bytes
frame_reads_bytes text digits bytes same stray enough decoded =
    let found = filter is_hex_digit digits in
    frame_reads_digits text digits same stray
    ∙ ap (λ n. cond (frame_may_have n) (bytes_if (decode_of found)) (Err (FrameLength n))) (length-filter is_hex_digit digits)
    ∙ ap (λ t. cond t (bytes_if (decode_of found)) (Err (FrameLength (count_by is_hex_digit digits)))) enough
    ∙ ap bytes_if decoded

pass_more : (b : ℕ) (bs : List ℕ) → is_hex_digit b ≡ true → AllPass is_hex_digit bs → AllPass is_hex_digit (b ∷ bs)
pass_more b bs pass h zero d lt = pass
pass_more b bs pass h (suc k) d lt = h k d (omega arith)

pass_kept : (t : Bool) (b : ℕ) (bs : List ℕ) → is_hex_digit b ≡ t → AllPass is_hex_digit bs
    → AllPass is_hex_digit (cond t (b ∷ bs) bs)
pass_kept true b bs pass h = pass_more b bs pass h
pass_kept false b bs pass h = h

all_digits : (bs : List ℕ) → AllPass is_hex_digit (filter is_hex_digit bs)
all_digits [] = λ k d lt. absurd (omega arith)
all_digits (b ∷ bs) = pass_kept (is_hex_digit b) b (filter is_hex_digit bs) refl (all_digits bs)

-- the digits of a frame write bytes
pub frame_decodes : (digits : List ℕ) → frame_may_have (count_by is_hex_digit digits) ≡ true
    → (bytes : List ℕ) × (decode_of (filter is_hex_digit digits) ≡ Ok bytes)
frame_decodes digits enough =
    let many = length-filter is_hex_digit digits in
    let even : length (filter is_hex_digit digits) % 2 ≡ 0 = grind (arith, many) in
    decode_of-digits (filter is_hex_digit digits) even (all_digits digits)
