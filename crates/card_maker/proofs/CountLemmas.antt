-- Which numbers of sectors registers can say.
use Rattle.std.proofs.Common.{◌≡◌, ◌⊎◌, ℕ, zero, suc, ◌+◌, ◌-◌, ◌*◌, ◌/◌, ◌%◌, ◌^◌, ◌<◌, ◌≤◌, inl, inr, sym, refl, ap, ◌∙◌, subst, arith}
use Rattle.std.specs.Prelude.{Err, IfErr, Ok, OnOk, Result}
use Rattle.std.proofs.Math.Nat.{div-mul-le_self, mul-div_cancel, mul-le-mul, mul-le-mul_right, mod-eq-sub-div-mul}
use Rattle.std.proofs.Math.Pow.{pow_mono}
use Rattle.std.proofs.lemmas.Bool.{cases_eq, cases_lt}
use Rattle.std.proofs.lemmas.Nat.{pow-add, pow_pos}
use Rattle.mmc_frame.specs.declared.kind.Kind.{Kind}
use Rattle.mmc_frame.specs.declared.kind.Kind.TheVariants.{Mmc, Sd}
use Rattle.card_maker.specs.Sizes.{AreNext, IsByteCount, IsCount, IsLeast, IsMost, IsSectorCount, IsSizeFault, NamesMultiples}
use Rattle.card_maker.specs.Sizes.{SaysCount}
use Rattle.card_maker.specs.declared.fault.MakeFault.{MakeFault}
use Rattle.card_maker.specs.declared.fault.MakeFault.TheVariants.{NotASize}

pub mul_regroup : (a b c : ℕ) → a * (b * c) ≡ a * b * c
mul_regroup a b c = grind arith

-- a number with byte addresses that isn't small is a multiple of 2^e
multiple : (e k c m : ℕ) → m ≡ c * 2 ^ k → c ≤ 4096 → 2 ≤ k → (2 < e → 4096 * 2 ^ (e - 1) < m) → (a : ℕ) × (m ≡ a * 2 ^ e)
multiple e k c m is few low large = elim (cases_lt k e) [
  | inl less ↦
      let power : 2 ^ k ≤ 2 ^ (e - 1) = pow_mono {i = k} {j = e - 1} (omega arith) in
      let most : c * 2 ^ k ≤ 4096 * 2 ^ (e - 1) = mul-le-mul few power in
      let more : 4096 * 2 ^ (e - 1) < m = large (omega arith) in
      absurd (omega (arith, is, most, more))
  | inr not_less ↦
      let split : k ≡ k - e + e = omega arith in
      (c * 2 ^ (k - e), is ∙ ap (λ (j : ℕ). c * 2 ^ j) split ∙ ap (λ (p : ℕ). c * p) (pow-add 2 (k - e) e) ∙ mul_regroup c (2 ^ (k - e)) (2 ^ e))
]

-- a multiple of p is at most the one below n, or at least the one above it
beside : (a b p r n m : ℕ) → m ≡ a * p → n ≡ b * p + r → (m ≤ n - r) ⊎ (n - r + p ≤ m)
beside a b p r n m is whole = elim (cases_lt b a) [
  | inl more ↦
      let step : suc b * p ≤ a * p = mul-le-mul_right p (omega arith) in
      let one : suc b * p ≡ b * p + p = grind arith in
      inr (omega arith)
  | inr fewer ↦
      let step : a * p ≤ b * p = mul-le-mul_right p (omega arith) in
      inl (omega arith)
]

-- n by its multiple of p
divided : (n p : ℕ) → n ≡ n / p * p + n % p
divided n p = let r = mod-eq-sub-div-mul n p in let low = div-mul-le_self n p in omega arith

pub few_times : (c d p : ℕ) → 0 < p → c * p ≤ d * p → c ≤ d
few_times c d p some h = elim (cases_lt d c) [
  | inl more ↦
      let step : suc d * p ≤ c * p = mul-le-mul_right p (omega arith) in
      let one : suc d * p ≡ d * p + p = grind arith in
      absurd (omega arith)
  | inr fewer ↦ omega arith
]

one_at_least : (c p n : ℕ) → n ≡ c * p → 1 ≤ n → 1 ≤ c
one_at_least zero p n whole some = absurd (omega arith)
one_at_least (suc c) p n whole some = omega arith

pub is_byte_count : (n e : ℕ) → 2 ≤ e → e ≤ 10 → 1 ≤ n → n ≤ 4096 * 2 ^ e → n % 2 ^ e ≡ 0 → IsByteCount n
is_byte_count n e low high some most none =
    let whole : n ≡ n / 2 ^ e * 2 ^ e + n % 2 ^ e = divided n (2 ^ e) in
    let exact : n ≡ n / 2 ^ e * 2 ^ e = omega arith in
    record {
      exponent = e;
      count = n / 2 ^ e;
      least = low;
      most = high;
      some = one_at_least (n / 2 ^ e) (2 ^ e) n exact some;
      few = few_times (n / 2 ^ e) 4096 (2 ^ e) (pow_pos e) (omega arith);
      whole = exact;
    }

-- at most 2 GiB
pub byte_count_most : (n : ℕ) → IsByteCount n → n ≤ 4194304
byte_count_most n h =
    let power : 2 ^ h.exponent ≤ 2 ^ 10 = pow_mono {i = h.exponent} {j = 10} h.most in
    let most : h.count * 2 ^ h.exponent ≤ 4096 * 2 ^ 10 = mul-le-mul h.few power in
    omega (arith, h.whole, most)

byte_count_least : (n : ℕ) → IsByteCount n → 4 ≤ n
byte_count_least n h =
    let power : 2 ^ 2 ≤ 2 ^ h.exponent = pow_mono {i = 2} {j = h.exponent} h.least in
    let least : 1 * 2 ^ 2 ≤ h.count * 2 ^ h.exponent = mul-le-mul h.some power in
    omega (arith, h.whole, least)

pub count_least : (kind : Kind) (n : ℕ) → IsCount kind n → 4 ≤ n
count_least kind n (inl h) = byte_count_least n h
count_least Sd n (inr h) = omega (arith, h.0)
count_least Mmc n (inr h) = omega (arith, h.0)

pub least_count : (kind : Kind) → IsLeast (IsCount kind) 4
least_count kind = record {
  size = inl (is_byte_count 4 2 (omega arith) (omega arith) (omega arith) (omega arith) refl);
  bound = count_least kind;
}

some_times : (b p r n : ℕ) → n ≡ b * p + r → r < p → p ≤ n → 1 ≤ b
some_times zero p r n whole low some = absurd (omega arith)
some_times (suc b) p r n whole low some = omega arith

fewer_times : (b p r n : ℕ) → n ≡ b * p + r → 0 < r → n ≤ 4096 * p → b < 4096
fewer_times b p r n whole odd most = elim (cases_lt b 4096) [
  | inl fewer ↦ fewer
  | inr more ↦
      let step : 4096 * p ≤ b * p = mul-le-mul_right p more in
      absurd (omega arith)
]

power_fits : (n e : ℕ) → 2 ≤ e → (2 < e → 4096 * 2 ^ (e - 1) < n) → 4 ≤ n → 2 ^ e ≤ n
power_fits n e low large least = elim (cases_lt 2 e) [
  | inl more ↦
      let twice : 2 ^ e ≡ 2 * 2 ^ (e - 1) = ap (λ (k : ℕ). 2 ^ k) (omega arith) ∙ pow-add 2 1 (e - 1) in
      let n_large : 4096 * 2 ^ (e - 1) < n = large more in
      omega (arith, twice, n_large)
  | inr same ↦
      let e_is : e ≡ 2 = omega arith in
      let four : 2 ^ e ≡ 4 = ap (λ (k : ℕ). 2 ^ k) e_is in
      omega (arith, four)
]

one_more : (b p : ℕ) → suc b * p ≡ b * p + p
one_more b p = grind arith

byte_beside : (e n r b : ℕ) → 2 ≤ e → (2 < e → 4096 * 2 ^ (e - 1) < n) → n ≡ b * 2 ^ e + r → r < 2 ^ e → (m : ℕ)
    → IsByteCount m → (m ≤ n - r) ⊎ (n - r + 2 ^ e ≤ m)
byte_beside e n r b low large whole over m h = elim (cases_lt (4096 * 2 ^ (e - 1)) m) [
  | inl more ↦
      let times = multiple e h.exponent h.count m h.whole h.few h.least (λ _. more) in
      beside times.0 b (2 ^ e) r n m times.1 whole
  | inr fewer ↦ elim (cases_lt 2 e) [
    | inl above_two ↦
        let twice : 2 ^ e ≡ 2 * 2 ^ (e - 1) = ap (λ (k : ℕ). 2 ^ k) (omega arith) ∙ pow-add 2 1 (e - 1) in
        let half : 4096 * 2 ^ (e - 1) ≡ 2048 * 2 ^ e = omega (arith, twice) in
        let n_large : 4096 * 2 ^ (e - 1) < n = large above_two in
        elim (beside 2048 b (2 ^ e) r n (4096 * 2 ^ (e - 1)) half whole) [
          | inl below ↦ inl (omega arith)
          | inr above ↦ absurd (omega arith)
        ]
    | inr two ↦
        let times = multiple e h.exponent h.count m h.whole h.few h.least (λ above_two. absurd (omega arith)) in
        beside times.0 b (2 ^ e) r n m times.1 whole
  ]
]

sector_above : (kind : Kind) (m : ℕ) → IsSectorCount kind m → 4194304 < m
sector_above Sd m h = h.0
sector_above Mmc m h = h.0

-- the next sizes at most 2 GiB
pub next_by_bytes : (kind : Kind) (n e : ℕ) → 2 ≤ e → e ≤ 10 → (2 < e → 4096 * 2 ^ (e - 1) < n) → n ≤ 4096 * 2 ^ e → 4 ≤ n
    → 0 < n % 2 ^ e → AreNext (IsCount kind) (n - n % 2 ^ e) (n - n % 2 ^ e + 2 ^ e)
next_by_bytes kind n e low high large most least odd =
    let whole : n ≡ n / 2 ^ e * 2 ^ e + n % 2 ^ e = divided n (2 ^ e) in
    let some = pow_pos e in
    let over : n % 2 ^ e < 2 ^ e = omega arith in
    let few : n / 2 ^ e < 4096 = fewer_times (n / 2 ^ e) (2 ^ e) (n % 2 ^ e) n whole odd most in
    let below : n - n % 2 ^ e ≡ n / 2 ^ e * 2 ^ e = omega arith in
    let above : n - n % 2 ^ e + 2 ^ e ≡ suc (n / 2 ^ e) * 2 ^ e = omega (arith, one_more (n / 2 ^ e) (2 ^ e)) in
    let power : 2 ^ e ≤ 2 ^ 10 = pow_mono {i = e} {j = 10} high in
    let times : suc (n / 2 ^ e) ≤ 4096 = omega arith in
    let above_most : suc (n / 2 ^ e) * 2 ^ e ≤ 4096 * 2 ^ 10 = mul-le-mul times power in
    record {
      lower = inl (record {
        exponent = e;
        count = n / 2 ^ e;
        least = low;
        most = high;
        some = some_times (n / 2 ^ e) (2 ^ e) (n % 2 ^ e) n whole over (power_fits n e low large least);
        few = omega arith;
        whole = below;
      });
      upper = inl (record {
        exponent = e;
        count = suc (n / 2 ^ e);
        least = low;
        most = high;
        some = omega arith;
        few = omega arith;
        whole = above;
      });
      apart = λ m h. elim h [
        | inl byte ↦ byte_beside e n (n % 2 ^ e) (n / 2 ^ e) low large whole over m byte
        | inr sector ↦
            let larger = sector_above kind m sector in
            inr (omega (arith, larger, above, above_most))
      ];
    }

-- of SD cards above 2 GiB
pub next_by_sectors : (n : ℕ) → 4194304 < n → n ≤ 2 ^ 32 → 0 < n % 1024
    → AreNext (IsCount Sd) (n - n % 1024) (n - n % 1024 + 1024)
next_by_sectors n large most odd = record {
  lower = elim (cases_eq (n - n % 1024) 4194304) [
    | inl same ↦ inl (is_byte_count (n - n % 1024) 10 (omega arith) (omega arith) (omega arith) (omega arith) (omega arith))
    | inr other ↦ inr (omega arith, omega arith, omega arith)
  ];
  upper = inr (omega arith, omega arith, omega arith);
  apart = λ m h. elim h [
    | inl byte ↦ let few = byte_count_most m byte in inl (omega arith)
    | inr sector ↦ elim (cases_lt m (n - n % 1024 + 1024)) [
      | inl less ↦ let unit = sector.1 in inl (omega arith)
      | inr more ↦ inr more
    ]
  ];
}

pub sd_most : IsMost (IsCount Sd) (2 ^ 32)
sd_most = record {
  size = inr (omega arith, refl, omega arith);
  bound = λ m h. elim h [
    | inl byte ↦ let few = byte_count_most m byte in omega arith
    | inr sector ↦ sector.2
  ];
}

pub mmc_most : IsMost (IsCount Mmc) (2 ^ 32 - 1)
mmc_most = record {
  size = inr (omega arith, omega arith);
  bound = λ m h. elim h [
    | inl byte ↦ let few = byte_count_most m byte in omega arith
    | inr sector ↦ let fits = sector.1 in omega arith
  ];
}

-- ---- what a fault says

pub multiples_next : (kind : Kind) (n p : ℕ) (fault : MakeFault) → 0 < p
    → (0 < n % p → AreNext (IsCount kind) (n - n % p) (n - n % p + p)) → NamesMultiples n p fault
    → IsSizeFault (IsCount kind) n fault
multiples_next kind n p (NotASize sectors below above) some next h =
    let over : n % p < p = omega arith in
    let low : n % p ≤ n = omega arith in
    let odd = h.0 in (
      subst (λ b. AreNext (IsCount kind) b above) (sym h.1)
          (subst (λ a. AreNext (IsCount kind) (n - n % p) a) (sym h.2) (next odd)),
      omega (arith, h.1),
      omega (arith, h.2),
      h.3,
    )
multiples_next kind n p fault some next h = absurd h

pub on_ok : {T E P Q : Type 0} (r : Result T E) → OnOk r P → (P → Q) → OnOk r Q
on_ok (Ok x) p f = f p
on_ok (Err e) p f = tt

pub if_err : {T E : Type 0} {P Q : E → Type 0} (r : Result T E) → IfErr r P → ((e : E) → P e → Q e) → IfErr r Q
if_err (Ok x) p f = tt
if_err (Err e) p f = f e p

-- ---- the fields of a CSD

exact_times : (n e : ℕ) → IsByteCount n → 2 ≤ e → (2 < e → 4096 * 2 ^ (e - 1) < n) → n ≡ n / 2 ^ e * 2 ^ e
exact_times n e h low large =
    let times = multiple e h.exponent h.count n h.whole h.few h.least large in
    let quotient : n / 2 ^ e ≡ times.0 = ap (λ (m : ℕ). m / 2 ^ e) times.1 ∙ mul-div_cancel times.0 (pow_pos e) in
    times.1 ∙ ap (λ (a : ℕ). a * 2 ^ e) (sym quotient)

pub some_blocks : (n e p : ℕ) → p ≡ 2 ^ e → IsByteCount n → 2 ≤ e → (2 < e → 4096 * 2 ^ (e - 1) < n) → 1 ≤ n / p
some_blocks n e p is h low large =
    let exact = exact_times n e h low large in
    let least = byte_count_least n h in
    subst (λ (q : ℕ). 1 ≤ n / q) (sym is) (one_at_least (n / 2 ^ e) (2 ^ e) n exact (omega arith))

pub few_blocks : (n e p : ℕ) → p ≡ 2 ^ e → IsByteCount n → 2 ≤ e → n ≤ 4096 * 2 ^ e → (2 < e → 4096 * 2 ^ (e - 1) < n)
    → n / p ≤ 4096
few_blocks n e p is h low most large =
    let exact = exact_times n e h low large in
    subst (λ (q : ℕ). n / q ≤ 4096) (sym is) (few_times (n / 2 ^ e) 4096 (2 ^ e) (pow_pos e) (omega arith))

mul_swap : (c p : ℕ) → c * (p * 512) ≡ 512 * (c * p)
mul_swap c p = grind arith

pub says_count : (n e p length : ℕ) → p ≡ 2 ^ e → IsByteCount n → 2 ≤ e → n ≤ 4096 * 2 ^ e
    → (2 < e → 4096 * 2 ^ (e - 1) < n) → 9 ≤ length → length ≤ 10 → e ≤ length → length ≤ e + 7
    → SaysCount length (n / p - 1) (e + 7 - length) n
says_count n e p length is h low most large least_length most_length enough within =
    let exact : n ≡ n / p * p = subst (λ (q : ℕ). n ≡ n / q * q) (sym is) (exact_times n e h low large) in
    let some = some_blocks n e p is h low large in
    let few = few_blocks n e p is h low most large in
    let count : n / p - 1 + 1 ≡ n / p = omega arith in
    let powers : 2 ^ (e + 7 - length + 2) * 2 ^ length ≡ p * 512 =
    sym (pow-add 2 (e + 7 - length + 2) length) ∙ ap (λ (k : ℕ). 2 ^ k) (omega arith) ∙ pow-add 2 e 9
    ∙ ap (λ (q : ℕ). q * 512) (sym is) in
    record {
      least_block = least_length;
      most_block = omega arith;
      fits = omega arith;
      mult_fits = omega arith;
      whole = ap (λ (c : ℕ). c * 2 ^ (e + 7 - length + 2) * 2 ^ length) count
          ∙ sym (mul_regroup (n / p) (2 ^ (e + 7 - length + 2)) (2 ^ length)) ∙ ap (λ (q : ℕ). n / p * q) powers
          ∙ mul_swap (n / p) p ∙ ap (λ (m : ℕ). 512 * m) (sym exact);
    }
