-- The sizes that cards have are the numbers that registers can say.
use Rattle.std.proofs.Common.{◌≡◌, ℕ, ◌+◌, ◌-◌, ◌*◌, ◌/◌, ◌^◌, ◌<◌, ◌≤◌, List, true, false, cond, inl, inr}
use Rattle.std.proofs.Common.{◌&&◌, sym, refl, ap, ◌∙◌, arith}
use Rattle.std.specs.Prelude.{◌==◌, nat_lt}
use Rattle.std.proofs.Math.Nat.{mul-div_cancel}
use Rattle.std.proofs.lemmas.Bool.{and_parts, cases_lt, eq-eqb, leb-true, ltb-false, ltb-true, ne_eqb}
use Rattle.std.proofs.lemmas.Nat.{pow-add}
use Rattle.mmc_frame.specs.Flips.{AreBytes}
use Rattle.mmc_frame.specs.declared.kind.Kind.{Kind}
use Rattle.mmc_frame.specs.declared.kind.Kind.TheVariants as Is
use Rattle.mmc_regs.specs.Csd.{bytes_by_blocks, csd_of, has_block_length, sectors_of}
use Rattle.mmc_regs.specs.CsdFields.{c_size, c_size_mult, c_size_v2, read_bl_len}
use Rattle.mmc_regs.specs.Ocr.{access_mode, card_capacity_status}
use Rattle.mmc_ext_csd.specs.ExtCsd.{sec_count}
use Rattle.mmc_card.specs.Made.{Made, csd_number_of, has_sector_addresses, is_mmc, is_sd, or_none, user_sectors}
use Rattle.mmc_card.specs.Profile.{IsByteAddressed, IsHighCapacity, IsSectorAddressed, IsStandardCapacity}
use Rattle.mmc_card_sim.specs.CardSpec.{HasOwnWidths}
use Rattle.mmc_card_sim.specs.Registers.{ext_csd_of, made_of}
use Rattle.mmc_card_rows.specs.declared.registers.KindRegisters.{KindRegisters}
use Rattle.mmc_card_rows.specs.declared.registers.KindRegisters.TheVariants as Has
use Rattle.card_maker.specs.NewRegisters.{csd_by_blocks, csd_v2, sd_classes}
use Rattle.card_maker.specs.Sizes.{HasSize, IsByteCount, IsCount, IsSizeFault, SaysCount}
use Rattle.card_maker.specs.declared.csd.TheConstants.{MMC_FIXED, V1_FIXED, V2_FIXED}
use Rattle.card_maker.specs.declared.fault.MakeFault.{MakeFault}
use Rattle.card_maker.specs.declared.fault.MakeFault.TheVariants.{NotASize, TooLarge, TooSmall}
use Rattle.card_maker.specs.declared.wanted.Wanted.{Wanted}
use Rattle.card_maker.proofs.CountLemmas.{byte_count_most, mul_regroup}
use Rattle.card_maker.proofs.MmcLemmas.{bytes_card, sectors_card}
use Rattle.card_maker.proofs.SdLemmas.{cond_no, cond_yes, v1_card, v1_taken, v2_card, v2_taken}
use Rattle.card_maker.proofs.TextLemmas.{bytes_below}

-- ---- registers for a number

-- (c + 1) 2^x 2^y bytes, where x + y is e + 9
times_512 : (c e x y : ℕ) → x + y ≡ e + 9 → c * 2 ^ x * 2 ^ y ≡ c * 2 ^ e * 512
times_512 c e x y sum =
    sym (mul_regroup c (2 ^ x) (2 ^ y)) ∙ ap (λ (p : ℕ). c * p) (sym (pow-add 2 x y) ∙ ap (λ (k : ℕ). 2 ^ k) sum ∙ pow-add 2 e 9)
    ∙ mul_regroup c (2 ^ e) 512

record Blocks (n : ℕ) : Type 0 where
  read : ℕ
  size : ℕ
  mult : ℕ
  say : SaysCount read size mult n

swap_512 : (m : ℕ) → m * 512 ≡ 512 * m
swap_512 m = omega arith

blocks_for : (n e count read : ℕ) → 2 ≤ e → e ≤ 10 → 1 ≤ count → count ≤ 4096 → n ≡ count * 2 ^ e → 9 ≤ read → read ≤ 10
    → e ≤ read → read ≤ e + 7 → Blocks n
blocks_for n e count read low high some few whole a b c d = record {
  read = read;
  size = count - 1;
  mult = e + 7 - read;
  say = record {
    least_block = a;
    most_block = omega arith;
    fits = omega arith;
    mult_fits = omega arith;
    whole = times_512 (count - 1 + 1) e (e + 7 - read + 2) read (omega arith)
        ∙ ap (λ (k : ℕ). k * 2 ^ e * 512) (omega arith) ∙ ap (λ (m : ℕ). m * 512) (sym whole) ∙ swap_512 n;
  };
}

some_blocks : (n : ℕ) → IsByteCount n → Blocks n
some_blocks n h = elim (cases_lt h.exponent 10) [
  | inl less ↦ blocks_for n h.exponent h.count 9 h.least h.most h.some h.few h.whole (omega arith) (omega arith) (omega arith) (omega (arith, h.least))
  | inr ten ↦ blocks_for n h.exponent h.count 10 h.least h.most h.some h.few h.whole (omega arith) (omega arith) h.most (omega arith)
]

-- a card of which nothing else is wanted
abbrev bare : Kind → ℕ → Wanted
bare kind sectors =
    record {
      kind = kind;
      sectors = sectors;
      four_lines = false;
      high_speed = false;
      cmd23 = false;
      boot = 0;
      gp = 0;
      read_only = false;
    }

pub size_from_count : (kind : Kind) (n : ℕ) → IsCount kind n → HasSize kind n
size_from_count Is.Sd n (inl h) =
    let b = some_blocks n h in
    let number = csd_by_blocks V1_FIXED (sd_classes false) b.read b.size b.mult false in
    (_, v1_card (bare Is.Sd n) n b.read b.size b.mult 0 number b.say (byte_count_most n h) refl)
size_from_count Is.Sd n (inr h) =
    (_, v2_card (bare Is.Sd n) n 0 (csd_v2 V2_FIXED (sd_classes false) (n / 1024 - 1) false) h.0 h.1 h.2 refl)
size_from_count Is.Mmc n (inl h) =
    let b = some_blocks n h in
    let number = csd_by_blocks MMC_FIXED 0x0f5 b.read b.size b.mult false in
    (_, bytes_card n b.read b.size b.mult 0 number 0 0 0 false false b.say (byte_count_most n h) (omega arith) refl)
size_from_count Is.Mmc n (inr h) = (_, sectors_card n 0 0 0 0 false h.0 h.1 (omega arith))

-- ---- the number in registers

sd_user : (made : Made) → made.kind ≡ Is.Sd → user_sectors made ≡ or_none sectors_of (csd_of Is.Sd (csd_number_of made))
sd_user made e =
    ap (λ k. cond (is_mmc k && cond (is_sd k) (card_capacity_status made.ocr == 1) (access_mode made.ocr == 2))
    (sec_count made.ext_csd) (or_none sectors_of (csd_of k (csd_number_of made)))) e

mmc_user : (made : Made) → made.kind ≡ Is.Mmc
    → user_sectors made
    ≡ cond (access_mode made.ocr == 2) (sec_count made.ext_csd) (or_none sectors_of (csd_of Is.Mmc (csd_number_of made)))
mmc_user made e =
    ap (λ k. cond (is_mmc k && cond (is_sd k) (card_capacity_status made.ocr == 1) (access_mode made.ocr == 2))
    (sec_count made.ext_csd) (or_none sectors_of (csd_of k (csd_number_of made)))) e

sd_addresses : (made : Made) → made.kind ≡ Is.Sd → has_sector_addresses made ≡ (card_capacity_status made.ocr == 1)
sd_addresses made e = ap (λ k. cond (is_sd k) (card_capacity_status made.ocr == 1) (access_mode made.ocr == 2)) e

mmc_addresses : (made : Made) → made.kind ≡ Is.Mmc → has_sector_addresses made ≡ (access_mode made.ocr == 2)
mmc_addresses made e = ap (λ k. cond (is_sd k) (card_capacity_status made.ocr == 1) (access_mode made.ocr == 2)) e

other_mode : (mode want : ℕ) → (mode ≡ want → ⊥) → (mode == want) ≡ false
other_mode mode want ne = ne_eqb mode want ne

byte_count_in : (count e n : ℕ) → 2 ≤ e → e ≤ 11 → 1 ≤ count → count ≤ 4096 → n ≡ count * 2 ^ e → n ≤ 4194304 → IsByteCount n
byte_count_in count e n low high some few whole small = elim (cases_lt e 11) [
  | inl less ↦ record { exponent = e; count = count; least = low; most = omega arith; some = some; few = few; whole = whole }
  | inr eleven ↦
      let e_is : e ≡ 11 = omega arith in
      let power : 2 ^ e ≡ 2048 = ap (λ (k : ℕ). 2 ^ k) e_is in
      let exact : n ≡ count * 2048 = whole ∙ ap (λ (p : ℕ). count * p) power in
      record {
        exponent = 10;
        count = count * 2;
        least = omega arith;
        most = omega arith;
        some = omega arith;
        few = omega arith;
        whole = omega arith;
      }
]

count_in_blocks : (size mult read n : ℕ) → size < 4096 → mult < 8 → has_block_length read ≡ true
    → (size + 1) * 2 ^ (mult + 2) * 2 ^ read / 512 ≡ n → n ≤ 4194304 → IsByteCount n
count_in_blocks size mult read n a b length is small =
    let bounds = and_parts _ _ length in
    let low : 9 ≤ read = leb-true 9 read bounds.0 in
    let high : read ≤ 11 = leb-true read 11 bounds.1 in
    let e = mult + 2 + read - 9 in
    let whole : n ≡ (size + 1) * 2 ^ e =
    sym is ∙ ap (λ (m : ℕ). m / 512) (times_512 (size + 1) e (mult + 2) read (omega arith))
    ∙ mul-div_cancel ((size + 1) * 2 ^ e) (omega arith) in
    byte_count_in (size + 1) e n (omega arith) (omega arith) (omega arith) (omega arith) whole small

standard_count : (made : Made) (n : ℕ) → made.kind ≡ Is.Sd → has_sector_addresses made ≡ nat_lt 4194304 n
    → user_sectors made ≡ n → IsStandardCapacity made → IsByteCount n
standard_count made n is addresses size h =
    let csd = csd_number_of made in
    let byte : (card_capacity_status made.ocr == 1) ≡ false =
    other_mode (card_capacity_status made.ocr) 1 (λ one. absurd (omega (arith, h.ccs, one))) in
    let small : n ≤ 4194304 = ltb-false 4194304 n (sym addresses ∙ sd_addresses made is ∙ byte) in
    let whole : bytes_by_blocks csd / 512 ≡ n =
    sym (sd_user made is ∙ ap (or_none sectors_of) (v1_taken csd h.version h.read_length h.write_length)) ∙ size in
    count_in_blocks (c_size csd) (c_size_mult csd) (read_bl_len csd) n (omega arith) (omega arith) h.read_length whole small

high_count : (made : Made) (n : ℕ) → made.kind ≡ Is.Sd → has_sector_addresses made ≡ nat_lt 4194304 n
    → user_sectors made ≡ n → IsHighCapacity made → IsCount Is.Sd n
high_count made n is addresses size h =
    let csd = csd_number_of made in
    let sector : (card_capacity_status made.ocr == 1) ≡ true = eq-eqb (card_capacity_status made.ocr) 1 h.ccs in
    let large : 4194304 < n = ltb-true 4194304 n (sym addresses ∙ sd_addresses made is ∙ sector) in
    let whole : (c_size_v2 csd + 1) * 1024 ≡ n =
    sym (sd_user made is ∙ ap (or_none sectors_of) (v2_taken csd h.version)) ∙ size in
    let fits : c_size_v2 csd < 4194304 = omega arith in
    inr (large, omega (arith, whole), omega (arith, whole, fits))

byte_device_count : (made : Made) (n : ℕ) → made.kind ≡ Is.Mmc → has_sector_addresses made ≡ nat_lt 4194304 n
    → user_sectors made ≡ n → IsByteAddressed made → IsByteCount n
byte_device_count made n is addresses size h =
    let csd = csd_number_of made in
    let byte : (access_mode made.ocr == 2) ≡ false =
    other_mode (access_mode made.ocr) 2 (λ two. absurd (omega (arith, h.mode, two))) in
    let small : n ≤ 4194304 = ltb-false 4194304 n (sym addresses ∙ mmc_addresses made is ∙ byte) in
    let whole : bytes_by_blocks csd / 512 ≡ n = sym (mmc_user made is ∙ cond_no _ _ _ byte) ∙ size in
    count_in_blocks (c_size csd) (c_size_mult csd) (read_bl_len csd) n (omega arith) (omega arith) h.read_length whole small

four_bytes : (block : List ℕ) → AreBytes block → sec_count block < 2 ^ 32
four_bytes block bytes =
    let below = bytes_below block bytes in
    omega (arith, below 212, below 213, below 214, below 215)

sector_device_count : (made : Made) (n : ℕ) → made.kind ≡ Is.Mmc → AreBytes made.ext_csd
    → has_sector_addresses made ≡ nat_lt 4194304 n → user_sectors made ≡ n → IsSectorAddressed made → IsCount Is.Mmc n
sector_device_count made n is bytes addresses size h =
    let sector : (access_mode made.ocr == 2) ≡ true = eq-eqb (access_mode made.ocr) 2 h.mode in
    let large : 4194304 < n = ltb-true 4194304 n (sym addresses ∙ mmc_addresses made is ∙ sector) in
    let whole : sec_count made.ext_csd ≡ n = sym (mmc_user made is ∙ cond_yes _ _ _ sector) ∙ size in
    inr (large, omega (arith, whole, four_bytes made.ext_csd bytes))

ext_are_bytes : (kind : KindRegisters) → HasOwnWidths kind → AreBytes (ext_csd_of kind)
ext_are_bytes (Has.Sd sd) widths = tt
ext_are_bytes (Has.Mmc mmc) widths = widths.1

pub count_from_size : (kind : Kind) (n : ℕ) → HasSize kind n → IsCount kind n
count_from_size Is.Sd n h =
    let made = made_of h.0 in
    let card = h.1 in
    elim (card.in_profile.sd card.kind_is).capacity [
      | inl standard ↦ inl (standard_count made n card.kind_is card.addresses card.size standard)
      | inr high ↦ high_count made n card.kind_is card.addresses card.size high
    ]
count_from_size Is.Mmc n h =
    let made = made_of h.0 in
    let card = h.1 in
    elim (card.in_profile.mmc card.kind_is).addresses [
      | inl byte ↦ inl (byte_device_count made n card.kind_is card.addresses card.size byte)
      | inr sector ↦ sector_device_count made n card.kind_is (ext_are_bytes h.0.kind card.widths.own) card.addresses card.size sector
    ]

-- what a fault says of the numbers it says of the sizes
pub size_fault : (kind : Kind) (n : ℕ) (fault : MakeFault) → IsSizeFault (IsCount kind) n fault
    → IsSizeFault (HasSize kind) n fault
size_fault kind n (TooSmall sectors least) h =
    (record { size = size_from_count kind least h.0.size; bound = λ m s. h.0.bound m (count_from_size kind m s) }, h.1, h.2)
size_fault kind n (TooLarge sectors most) h =
    (record { size = size_from_count kind most h.0.size; bound = λ m s. h.0.bound m (count_from_size kind m s) }, h.1, h.2)
size_fault kind n (NotASize sectors below above) h = (
  record {
    lower = size_from_count kind below h.0.lower;
    upper = size_from_count kind above h.0.upper;
    apart = λ m s. h.0.apart m (count_from_size kind m s);
  },
  h.1,
  h.2,
  h.3,
)
size_fault kind n fault h = absurd h
