-- What a status says of its card.
use Rattle.std.proofs.Common.{◌*◌, ◌+◌, ◌<◌, ◌∙◌, ◌≡◌, ◌≤◌, ◌^◌, Bool, ap, arith, bit_or, false, refl, sym, true}
use Rattle.std.proofs.Common.{ℕ}
use Rattle.std.specs.Prelude.{◌%◌, ◌-◌, ◌&&◌, ◌/◌, ◌==◌, if◌then◌else◌, not}
use Rattle.std.specs.Int.{bit_at}
use Rattle.std.specs.Int.RustNames.{bit_and}
use Rattle.std.proofs.lemmas.Nat.{and_block, and_le_r, and_or_apart, or_disjoint}
use Rattle.std.proofs.lemmas.Nat.Bits.{and_pow, bit_at_and, bit_at_or, bit_at-zero, same_from_bits}
use Rattle.mmc_frame.specs.Field.{field}
use Rattle.mmc_frame.specs.Status.{IsAtWork, IsClean, error_bits, own_status, state_number}
use Rattle.mmc_frame.specs.declared.card_state.State.{State}
use Rattle.mmc_frame.specs.declared.card_state.State.TheVariants.{Data, Dis, Ident, Idle, Prg, Rcv, Ready, Stby, Tran}
use Rattle.mmc_frame.specs.declared.kind.Kind.{Kind}
use Rattle.mmc_frame.specs.declared.kind.Kind.TheVariants.{Mmc, Sd}
use Rattle.mmc_card.proofs.Cards.{among_more, in_state}
use Rattle.mmc_card.proofs.Conditions.{along, by_cond}
use Rattle.mmc_card.specs.CardAnswer.{Choice, bit, status}
use Rattle.mmc_card.specs.Card.{AreAmong, Card, IsCard}
use Rattle.mmc_card.specs.ErrorBits.{card_is_locked, command_error_bits, error_bits as held_bits, out_of_range}
use Rattle.mmc_card.specs.Judged.{errors_and_state}
use Rattle.mmc_card.specs.RowsIdentify.{at_work, leads_to_tran}
use Rattle.mmc_card.specs.CardLaws.{HasNoError, HasNoErrorOfItsOwn, IsInOrder, Tells}

-- Bits.

pub bit_among : (a m i : ℕ) → AreAmong a m → bit_at a i ≤ bit_at m i
bit_among a m i h = omega (arith, bit_at_or a m i, ap (λ n. bit_at n i) h)

among_then : (a b c : ℕ) → AreAmong a b → AreAmong b c → AreAmong a c
among_then a b c h k =
    same_from_bits _ _ (λ i. omega (arith, bit_at_or a c i, bit_among a b i h, bit_among b c i k))

and_among : (a m : ℕ) → AreAmong a m → bit_and a m ≡ a
and_among a m h =
    same_from_bits _ _ (λ i. omega (arith, bit_at_and a m i, bit_among a m i h))

among_apart : (a b m n : ℕ) → AreAmong a m → AreAmong b n → bit_and m n ≡ 0 → bit_and a b ≡ 0
among_apart a b m n h k apart =
    same_from_bits _ _
    (λ i. omega (
      arith,
      bit_at_and a b i,
      bit_at_and m n i,
      bit_among a m i h,
      bit_among b n i k,
      ap (λ x. bit_at x i) apart,
      bit_at-zero i,
    ))

-- The mask of errors from bit 13 on, in units of bit 13: both kinds of error bits, and not CARD_IS_LOCKED.

abbrev high_mask : ℕ
high_mask = command_error_bits + held_bits

locked_among : (b : Bool) → AreAmong (card_is_locked * bit b) card_is_locked
locked_among true = refl
locked_among false = refl

masked_held : (c e : ℕ) (locked : Bool) → AreAmong c command_error_bits → AreAmong e held_bits
    → bit_and (c + e + card_is_locked * bit locked) high_mask ≡ c + e
masked_held c e locked h k =
    let held = bit_or c e in
    let other = card_is_locked * bit locked in
    let among : AreAmong held high_mask =
    among_more c e high_mask (among_then c command_error_bits high_mask h refl)
    (among_then e held_bits high_mask k refl) in
    let sum : held ≡ c + e = or_disjoint c e (among_apart c e command_error_bits held_bits h k refl) in
    let whole : bit_or held other ≡ held + other =
    or_disjoint held other (among_apart held other high_mask card_is_locked among (locked_among locked) refl) in
    ap (λ n. bit_and n high_mask) (ap (λ n. n + other) (sym sum) ∙ sym whole)
    ∙ and_or_apart high_mask held other
    (among_apart other high_mask card_is_locked high_mask (locked_among locked) refl refl)
    ∙ and_among held high_mask among ∙ sum

-- The error bits of a status.

bit_below : (b : Bool) → bit b < 2
bit_below true = omega arith
bit_below false = omega arith

state_below : (s : State) → state_number s < 9
state_below Idle = omega arith
state_below Ready = omega arith
state_below Ident = omega arith
state_below Stby = omega arith
state_below Tran = omega arith
state_below Data = omega arith
state_below Rcv = omega arith
state_below Prg = omega arith
state_below Dis = omega arith

-- a number by its bits above 12 and those below
masked_parts : (x low m : ℕ) → low < 2 ^ 13 → m < 2 ^ 13
    → bit_and (2 ^ 13 * x + low) (high_mask * 2 ^ 13 + m) ≡ bit_and x high_mask * 2 ^ 13 + bit_and low m
masked_parts x low m h k =
    let e : 2 ^ 13 * x + low ≡ x * 2 ^ 13 + low = omega arith in
    ap (λ n. bit_and n (high_mask * 2 ^ 13 + m)) e ∙ and_block 13 x high_mask low m h k

-- the status below bit 13
abbrev low_status : Bool → Card → ℕ
low_status app card =
    2 ^ 9 * state_number card.state + 2 ^ 8 * bit (not card.is_busy) + 2 ^ 7 * bit card.switch_error + 2 ^ 5 * bit app

low_below : (app : Bool) (c : Card) → low_status app c < 2 ^ 13
low_below app c =
    omega (arith, state_below c.state, bit_below (not c.is_busy), bit_below c.switch_error, bit_below app)

low_switch : (app : Bool) (c : Card) → bit_at (low_status app c) 7 ≡ bit c.switch_error
low_switch app c =
    omega (arith, state_below c.state, bit_below (not c.is_busy), bit_below c.switch_error, bit_below app)

abbrev high_status : Card → ℕ
high_status card = card.command_errors + card.errors + card_is_locked * bit card.made.is_locked

status_parts : (app : Bool) (c : Card) → status app c ≡ 2 ^ 13 * high_status c + low_status app c
status_parts app c = omega arith

-- the bits that a card holds are those that it may hold
abbrev HoldsErrors : Card → Type 0
HoldsErrors c = AreAmong c.command_errors command_error_bits × AreAmong c.errors held_bits

masked : (app : Bool) (c : Card) (m : ℕ) → HoldsErrors c → m < 2 ^ 13
    → bit_and (status app c) (high_mask * 2 ^ 13 + m)
    ≡ (c.command_errors + c.errors) * 2 ^ 13 + bit_and (low_status app c) m
masked app c m k small =
    ap (λ n. bit_and n (high_mask * 2 ^ 13 + m)) (status_parts app c)
    ∙ masked_parts (high_status c) (low_status app c) m (low_below app c) small
    ∙ ap (λ n. n * 2 ^ 13 + bit_and (low_status app c) m)
    (masked_held c.command_errors c.errors c.made.is_locked k.0 k.1)

sd_errors : (app : Bool) (c : Card) → HoldsErrors c → error_bits Sd (status app c) ≡ (c.command_errors + c.errors) * 2 ^ 13
sd_errors app c k = omega (arith, masked app c 0 k (omega arith), and_le_r (low_status app c) 0)

mmc_errors : (app : Bool) (c : Card) → HoldsErrors c
    → error_bits Mmc (status app c) ≡ (c.command_errors + c.errors) * 2 ^ 13 + bit c.switch_error * 2 ^ 7
mmc_errors app c k =
    omega (arith, masked app c 128 k (omega arith), and_pow (low_status app c) 7, low_switch app c)

no_bit : (b : Bool) → bit b ≡ 0 → b ≡ false
no_bit true h = absurd (omega (arith, h))
no_bit false h = refl

-- SWITCH_ERROR is among the errors of eMMC, whatever else a status shows
pub no_switch_error : (app : Bool) (c : Card) → error_bits Mmc (own_status (status app c)) ≡ 0 → c.switch_error ≡ false
no_switch_error app c none =
    let high = high_status c - 2 ^ 9 * (high_status c / 2 ^ 9 % 4) in
    let is : own_status (status app c) ≡ 2 ^ 13 * high + low_status app c = omega (arith, low_below app c) in
    let parts = ap (λ n. bit_and n (high_mask * 2 ^ 13 + 128)) is
    ∙ masked_parts high (low_status app c) 128 (low_below app c) (omega arith) in
    no_bit c.switch_error (omega (arith, parts, and_pow (low_status app c) 7, low_switch app c, none))

one_bit : (b : Bool) → bit (not b) ≡ 1 → b ≡ false
one_bit true h = absurd (omega (arith, h))
one_bit false h = refl

errors_shown : (kind : Kind) (app : Bool) (card : Card) → HoldsErrors card
    → Tells kind card (error_bits kind (status app card) ≡ 0) (HasNoError kind card)
errors_shown Sd app c k =
    let e = sd_errors app c k in (
      λ h. record { command_errors = omega (arith, e, h); errors = omega (arith, e, h); switch_error = λ other made. cc },
      λ same h. (let command_errors = h.command_errors in let errors = h.errors in omega (arith, e, command_errors, errors)),
    )
errors_shown Mmc app c k =
    let e = mmc_errors app c k in (
      λ h. record {
        command_errors = omega (arith, e, h);
        errors = omega (arith, e, h);
        switch_error = λ judged made. no_bit c.switch_error (omega (arith, e, h));
      },
      λ same h.
          (let command_errors = h.command_errors in
          let errors = h.errors in
          let none = ap bit (h.switch_error refl same) in
          omega (arith, e, command_errors, errors, none)),
    )

pub status_errors : (kind : Kind) (app : Bool) (card : Card) → IsCard card
    → Tells kind card (error_bits kind (status app card) ≡ 0) (HasNoError kind card)
status_errors kind app c k = errors_shown kind app c (k.command_errors, k.errors)

-- of a card that holds OUT_OF_RANGE and no other error
pub status_at_end : (kind : Kind) (app : Bool) (card : Card) → IsCard card → card.made.kind ≡ kind
    → HasNoError kind (record card { errors = 0 }) → card.errors ≡ out_of_range → error_bits kind (status app card) ≡ 2 ^ 31
status_at_end Sd app c k same none end =
    let command_errors = none.command_errors in omega (arith, sd_errors app c (k.command_errors, k.errors), command_errors, end)
status_at_end Mmc app c k same none end =
    let command_errors = none.command_errors in
    omega (arith, mmc_errors app c (k.command_errors, k.errors), command_errors, end, ap bit (none.switch_error refl same))

-- The fields of a status.

pub status_state : (app : Bool) (c : Card) → field 12 9 (status app c) ≡ state_number c.state
status_state app c =
    omega (arith, state_below c.state, bit_below (not c.is_busy), bit_below c.switch_error, bit_below app)

status_ready : (app : Bool) (c : Card) → field 8 8 (status app c) ≡ bit (not c.is_busy)
status_ready app c =
    omega (arith, state_below c.state, bit_below (not c.is_busy), bit_below c.switch_error, bit_below app)

-- APP_CMD isn't judged
status_above : (w : ℕ) (app : Bool) (c : Card) → bit_and (status app c) (w * 2 ^ 7 + 0) ≡ bit_and (status false c) (w * 2 ^ 7 + 0)
status_above w app c =
    let same : status app c
    ≡ (2 ^ 6 * high_status c + 4 * state_number c.state + 2 * bit (not c.is_busy) + bit c.switch_error) * 2 ^ 7
    + 2 ^ 5 * bit app = omega arith in
    let none : status false c
    ≡ (2 ^ 6 * high_status c + 4 * state_number c.state + 2 * bit (not c.is_busy) + bit c.switch_error) * 2 ^ 7
    + 0 = omega arith in
    let q = 2 ^ 6 * high_status c + 4 * state_number c.state + 2 * bit (not c.is_busy) + bit c.switch_error in
    let some = ap (λ n. bit_and n (w * 2 ^ 7 + 0)) same
    ∙ and_block 7 q w (2 ^ 5 * bit app) 0 (omega (arith, bit_below app)) (omega arith) in
    let zero = ap (λ n. bit_and n (w * 2 ^ 7 + 0)) none ∙ and_block 7 q w 0 0 (omega arith) (omega arith) in
    omega (arith, some, zero, and_le_r (2 ^ 5 * bit app) 0, and_le_r 0 0)

pub status_app : (kind : Kind) (app : Bool) (c : Card)
    → bit_and (status app c) (errors_and_state kind) ≡ bit_and (status false c) (errors_and_state kind)
status_app Sd app c = status_above (errors_and_state Sd / 2 ^ 7) app c
status_app Mmc app c = status_above (errors_and_state Mmc / 2 ^ 7) app c

-- What a status says of its card alone.

abbrev without_errors : Card → Card
without_errors card = record card { command_errors = 0 }

-- of bits 23 and 22 those of the command before stand alone there
apart_at : (n : ℕ) → AreAmong n held_bits → n / 2 ^ 9 % 4 ≡ 0
apart_at n among =
    let ninth = bit_among n held_bits 9 among in
    let tenth = bit_among n held_bits 10 among in
    omega (arith, ninth, tenth)

command_at : (n : ℕ) → AreAmong n command_error_bits → n ≡ 2 ^ 9 * (n / 2 ^ 9 % 4)
command_at n among =
    let split : n ≡ n / 2 ^ 9 * 2 ^ 9 + n % 2 ^ 9 = omega arith in
    let block = and_block 9 (n / 2 ^ 9) 3 (n % 2 ^ 9) 0 (omega arith) (omega arith) in
    let whole = ap (λ x. bit_and x command_error_bits) split in
    omega (arith, and_among n command_error_bits among, whole, block, and_le_r (n % 2 ^ 9) 0, and_le_r (n / 2 ^ 9) 3)

own_parts : (app : Bool) (c : Card) → HoldsErrors c → own_status (status app c) ≡ status app (without_errors c)
own_parts app c k =
    let held = apart_at c.errors k.1 in
    let earlier = command_at c.command_errors k.0 in
    let low = low_below app c in
    omega (arith, held, earlier, low, bit_below c.made.is_locked)

own_errors : (kind : Kind) (app : Bool) (c : Card) → HoldsErrors c
    → Tells kind c (error_bits kind (own_status (status app c)) ≡ 0) (HasNoErrorOfItsOwn kind c)
own_errors kind app c k =
    let own = own_parts app c k in
    let errors = errors_shown kind app (without_errors c) (refl, k.1) in (
      λ h. (let none = errors.0 (ap (error_bits kind) (sym own) ∙ h) in
          record { errors = none.errors; switch_error = none.switch_error }),
      λ same h. ap (error_bits kind) own
          ∙ errors.1 same (record { command_errors = refl; errors = h.errors; switch_error = h.switch_error }),
    )

pub own_status_errors : (kind : Kind) (app : Bool) (card : Card) → IsCard card
    → Tells kind card (error_bits kind (own_status (status app card)) ≡ 0) (HasNoErrorOfItsOwn kind card)
own_status_errors kind app c k = own_errors kind app c (k.command_errors, k.errors)

pub clean_status : (kind : Kind) (app : Bool) (card : Card) → IsCard card
    → Tells kind card (IsClean kind (own_status (status app card))) (IsInOrder kind card)
clean_status kind app c k =
    let holds : HoldsErrors c = (k.command_errors, k.errors) in
    let own = own_parts app c holds in
    let errors = own_errors kind app c holds in
    let state = ap (field 12 9) own ∙ status_state app (without_errors c) in
    let ready = ap (field 8 8) own ∙ status_ready app (without_errors c) in (
      λ h. record {
        no_error = errors.0 h.no_error;
        tran = in_state c.state Tran (ap (λ n. n == 4) (sym state ∙ h.in_tran));
        rests = one_bit c.is_busy (sym ready ∙ h.ready_for_data);
      },
      λ same h. record {
        no_error = errors.1 same h.no_error;
        in_tran = state ∙ ap state_number h.tran;
        ready_for_data = ready ∙ ap (λ b. bit (not b)) h.rests;
      },
    )

-- The status of a card that lags behind its programming.

works_by : (shows : State) (ready : Bool) → let s = if leads_to_tran shows then shows else Tran in
    (state_number Stby ≤ state_number s) × (state_number s ≤ state_number Prg)
    × (state_number s ≡ state_number Tran → bit (not (not (leads_to_tran shows && ready))) ≡ 0)
works_by Stby ready = (omega arith, omega arith, λ tran. cc)
works_by Data ready = (omega arith, omega arith, λ tran. cc)
works_by Rcv ready = (omega arith, omega arith, λ tran. cc)
works_by Prg ready = (omega arith, omega arith, λ tran. cc)
works_by Idle ready = (omega arith, omega arith, λ tran. refl)
works_by Ready ready = (omega arith, omega arith, λ tran. refl)
works_by Ident ready = (omega arith, omega arith, λ tran. refl)
works_by Tran ready = (omega arith, omega arith, λ tran. refl)
works_by Dis ready = (omega arith, omega arith, λ tran. refl)

-- it shows no other errors than the card's
seen_errors : (choice : Choice) (c : Card) → AreAmong c.errors held_bits → AreAmong (at_work choice c).errors held_bits
seen_errors choice c among = by_cond (λ n. AreAmong n held_bits) choice.tells_late (λ _. refl) (λ _. among)

pub lagging_status : (kind : Kind) (choice : Choice) (card : Card) → IsCard card
    → Tells kind card (IsAtWork kind (own_status (status false (at_work choice card))))
    (HasNoErrorOfItsOwn kind (at_work choice card))
lagging_status kind choice c k =
    let seen = at_work choice c in
    let holds : HoldsErrors seen = (k.command_errors, seen_errors choice c k.errors) in
    let own = own_parts false seen holds in
    let errors = own_errors kind false seen holds in
    let state = ap (field 12 9) own ∙ status_state false (without_errors seen) in
    let ready = ap (field 8 8) own ∙ status_ready false (without_errors seen) in
    let works = works_by choice.shows choice.shows_ready in (
      λ h. errors.0 h.no_error,
      λ same h. record {
        no_error = errors.1 same h;
        from_stby = along (λ n. state_number Stby ≤ n) state works.0;
        to_prg = along (λ n. n ≤ state_number Prg) state works.1;
        unready = λ tran. ready ∙ works.2 (sym state ∙ tran);
      },
    )

pub lagging_is_not_clean : (kind : Kind) (choice : Choice) (card : Card) → IsCard card
    → IsClean kind (own_status (status false (at_work choice card))) → ⊥
lagging_is_not_clean kind choice c k h =
    let seen = at_work choice c in
    let own = own_parts false seen (k.command_errors, seen_errors choice c k.errors) in
    let tran = sym (ap (field 12 9) own ∙ status_state false (without_errors seen)) ∙ h.in_tran in
    let ready = sym (ap (field 8 8) own ∙ status_ready false (without_errors seen)) ∙ h.ready_for_data in
    cc ((works_by choice.shows choice.shows_ready).2 tran, ready)
