-- The test of a check, over any number of bytes: 5 of a frame, 15 of a register.
use Rattle.std.proofs.Common.{◌≡◌, ℕ, ◌+◌, ◌*◌, ◌/◌, ◌%◌, ◌<◌, List, [], ◌∷◌, ◌++◌, length, take, Bool, true, refl, sym}
use Rattle.std.proofs.Common.{◌∙◌, ap, arith, append_assoc, length-append, length-take-le, cond, Ok, Err, false}
use Rattle.std.specs.Prelude.{nat_eq, slice_index, slice_set, ◌==◌}
use Rattle.std.proofs.lemmas.List.{get_or_at, take_more, take_all, take_at, set-get_or}
use Rattle.std.proofs.lemmas.Bool.{eq-eqb, eqb-true}
use Rattle.mmc_frame.specs.Check.{remainder, bits_of}
use Rattle.mmc_frame.specs.Frame.{is_sound}
use Rattle.mmc_frame.specs.RegisterFrame.{is_sound_register, has_end_bit, register_in, register_frame}
use Rattle.mmc_frame.specs.declared.fault.FrameFault.TheVariants.{FixedBits, Check}
use Rattle.mmc_frame.proofs.Bytes.{zeros, seven, sound_is, same_test, bits_pushed, length-bits_of}

-- all bytes but the last, and the last
pub last_apart : (n : ℕ) (bytes : List ℕ) → length bytes ≡ n + 1 → bytes ≡ take n bytes ++ slice_index bytes n ∷ []
last_apart n bytes size =
    sym (take_all (n + 1) bytes (omega arith)) ∙ take_more bytes n 0 (omega arith)

-- all bits but the last
all_but_last : (n : ℕ) (xs : List ℕ) (l : ℕ) → length xs ≡ n → take (8 * n + 7) (bits_of (xs ++ l ∷ []))
    ≡ bits_of xs ++ seven l
all_but_last n xs l size =
    let whole : bits_of (xs ++ l ∷ []) ≡ (bits_of xs ++ seven l) ++ (l % 2 == 1) ∷ [] =
    bits_pushed xs l ∙ sym (append_assoc (bits_of xs) (seven l) ((l % 2 == 1) ∷ [])) in
    let count : length (bits_of xs ++ seven l) ≡ 8 * n + 7 =
    omega (arith, length-append (bits_of xs) (seven l), length-bits_of xs) in
    ap (take (8 * n + 7)) whole ∙ take_at (bits_of xs ++ seven l) ((l % 2 == 1) ∷ []) _ count

-- the check of all bytes but the last is compared with the last byte's upper seven bits
pub sound_test : (n : ℕ) (bytes : List ℕ) → length bytes ≡ n + 1 → slice_index bytes n < 256
    → nat_eq (remainder (bits_of (take n bytes) ++ zeros)) (slice_index bytes n / 2)
    ≡ nat_eq (remainder (take (8 * n + 7) (bits_of bytes))) 0
sound_test n bytes size fits =
    let xs = take n bytes in
    let l = slice_index bytes n in
    let count : length xs ≡ n = length-take-le n bytes (omega arith) in
    let covered : take (8 * n + 7) (bits_of bytes) ≡ bits_of xs ++ seven l =
    ap (λ bs. take (8 * n + 7) (bits_of bs)) (last_apart n bytes size) ∙ all_but_last n xs l count in
    same_test (remainder (bits_of xs ++ zeros)) (l / 2)
    ∙ ap (λ x. nat_eq x 0) (sym (sound_is (bits_of xs) l fits))
    ∙ ap (λ bs. nat_eq (remainder bs) 0) (sym covered)

pub frame_test : (f : List ℕ) → length f ≡ 6 → slice_index f 5 < 256
    → nat_eq (remainder (bits_of (take 5 f) ++ zeros)) (slice_index f 5 / 2) ≡ is_sound f
unfolding is_sound
frame_test f size fits = sound_test 5 f size fits

pub register_test : (r : List ℕ) → length r ≡ 16 → slice_index r 15 < 256
    → nat_eq (remainder (bits_of (take 15 r) ++ zeros)) (slice_index r 15 / 2) ≡ is_sound_register r
unfolding is_sound_register
register_test r size fits = sound_test 15 r size fits

-- bytes with their check after them are sound
with_check_sound : (n : ℕ) (xs : List ℕ) (check : ℕ) → length xs ≡ n → check < 128
    → check ≡ remainder (bits_of xs ++ zeros)
    → (remainder (take (8 * n + 7) (bits_of (xs ++ (check * 2 + 1) ∷ []))) == 0) ≡ true
with_check_sound n xs check size small is =
    let bytes = xs ++ (check * 2 + 1) ∷ [] in
    let whole : length bytes ≡ n + 1 = omega (arith, size, length-append xs ((check * 2 + 1) ∷ [])) in
    let first : take n bytes ≡ xs = take_at xs ((check * 2 + 1) ∷ []) n size in
    let last : slice_index bytes n ≡ check * 2 + 1 = get_or_at xs (check * 2 + 1) [] 0 n size in
    sym (sound_test n bytes whole (omega (arith, last)))
    ∙ eq-eqb _ _ (ap (λ ys. remainder (bits_of ys ++ zeros)) first ∙ (sym is ∙ omega (arith, last)))

-- a frame that is made of a first byte, an argument and their check is sound
pub made_sound : (a b c d e check : ℕ) → check < 128 → check ≡ remainder (bits_of (a ∷ b ∷ c ∷ d ∷ e ∷ []) ++ zeros)
    → is_sound (a ∷ b ∷ c ∷ d ∷ e ∷ (check * 2 + 1) ∷ []) ≡ true
unfolding is_sound
made_sound a b c d e check small is = with_check_sound 5 (a ∷ b ∷ c ∷ d ∷ e ∷ []) check refl small is

-- a register with its check after it is sound
pub register_with_check : (bytes : List ℕ) (check : ℕ) → length bytes ≡ 15 → check < 128
    → check ≡ remainder (bits_of bytes ++ zeros) → is_sound_register (bytes ++ (check * 2 + 1) ∷ []) ≡ true
unfolding is_sound_register
register_with_check bytes check size small is = with_check_sound 15 bytes check size small is

ok_where : (end sound : Bool) (x y : List ℕ) → end ≡ true → sound ≡ true → x ≡ y
    → cond end (cond sound (Ok x) (Err Check)) (Err FixedBits) ≡ Ok y
ok_where true true x y h k e = ap Ok e
ok_where true false x y h k e = cc
ok_where false sound x y h k e = cc

-- a sound register comes back from its R2
pub register_comes_back : (r : List ℕ) → length r ≡ 16 → is_sound_register r ≡ true → has_end_bit r ≡ true
    → register_in (register_frame r) ≡ Ok r
register_comes_back r size sound odd =
    let low : slice_index r 15 % 2 ≡ 1 = eqb-true _ 1 odd in
    let same : slice_index r 15 / 2 * 2 + 1 ≡ slice_index r 15 = omega arith in
    let kept : slice_set r 15 (slice_index r 15 / 2 * 2 + 1) ≡ r = ap (slice_set r 15) same ∙ set-get_or r 15 0 in
    let all : take 16 r ≡ r = take_all 16 r (omega arith) in
    ap (λ x. register_in (0x3f ∷ x)) kept
    ∙ ok_where (slice_index r 15 % 2 == 1) (is_sound_register (take 16 r)) (take 16 r) r odd
    (ap is_sound_register all ∙ sound) all
