-- What a response says of a card, by the bits that are judged.
use Rattle.std.proofs.Common.{ℕ, ◌*◌, ◌+◌, ◌<◌, ◌^◌, ◌∙◌, ◌≡◌, ◌≤◌, ap, arith, false, inl, refl, subst, sym}
use Rattle.std.specs.Prelude.{◌%◌, ◌-◌, ◌/◌}
use Rattle.std.specs.Int.{bit_at}
use Rattle.std.specs.Int.RustNames.{bit_and}
use Rattle.std.proofs.lemmas.Nat.{and_block, and_le_r, and_mask}
use Rattle.std.proofs.lemmas.Nat.Bits.{bit_at-lt, bit_at_and, same_from_bits}
use Rattle.mmc_frame.specs.Field.{field}
use Rattle.mmc_frame.specs.Status.{IsAtWork, IsClean, error_bits, error_mask, own_status, state_number}
use Rattle.mmc_frame.specs.declared.card_state.State.TheVariants.{Prg, Stby, Tran}
use Rattle.mmc_frame.specs.declared.kind.Kind.{Kind}
use Rattle.mmc_frame.specs.declared.kind.Kind.TheVariants.{Mmc, Sd}
use Rattle.mmc_card.proofs.StatusLemmas.{bit_among, clean_status, lagging_is_not_clean, lagging_status, own_status_errors}
use Rattle.mmc_card.proofs.StatusLemmas.{status_at_end, status_errors, status_state}
use Rattle.mmc_card.specs.Card.{AreAmong, Card, IsCard}
use Rattle.mmc_card.specs.CardAnswer.{CardAnswer, Checked, Choice, R2, R3, Silent, status}
use Rattle.mmc_card.specs.Faults.{Replies, Spells}
use Rattle.mmc_card.specs.declared.exchange.Reply.{Reply}
use Rattle.mmc_card.specs.CardLaws.{HasNoError, HasNoErrorOfItsOwn, IsInOrder, Tells}
use Rattle.mmc_card.specs.ErrorBits.{out_of_range}
use Rattle.mmc_card.specs.Judged.{Agree, IsReadyInTran, IsSaid, Shows, ShowsItself, errors_and_lock, errors_and_state}
use Rattle.mmc_card.specs.RowsIdentify.{at_work}

-- two that agree in these bits agree in some of them
pub agree_in : (some bits a b : ℕ) → AreAmong some bits → Agree bits a b → Agree some a b
agree_in some bits a b among same =
    same_from_bits _ _
    (λ i. omega (
      arith,
      bit_at_and a some i,
      bit_at_and b some i,
      bit_at_and a bits i,
      bit_at_and b bits i,
      bit_among some bits i among,
      ap (λ n. bit_at n i) same,
      bit_at-lt a i,
      bit_at-lt b i,
      bit_at-lt some i,
      bit_at-lt bits i,
    ))

-- A card may send its answer as it is.

pub said_as_is : (kind : Kind) (answer : CardAnswer) → IsSaid kind answer answer
said_as_is kind Silent = refl
said_as_is kind (Checked index argument) = (argument, refl, refl, λ _ _. refl)
said_as_is kind (R3 ocr) = (ocr, refl, inl refl)
said_as_is kind (R2 bytes) = refl

pub replies_as_is : (card : Card) (answer : CardAnswer) (reply : Reply) → Spells answer reply → Replies card answer reply
replies_as_is card answer reply spells = (answer, said_as_is card.made.kind answer, spells)

-- The fields of what is judged.

-- a number by its bits from some bit on and those below
abbrev Splits : ℕ → ℕ → Type 0
Splits low n = (n ≡ n / 2 ^ low * 2 ^ low + n % 2 ^ low) × (n % 2 ^ low < 2 ^ low) × (0 < 2 ^ low)

-- so many bits, from some bit on
field_masked : (low count n : ℕ) → Splits low n
    → bit_and n ((2 ^ count - 1) * 2 ^ low + 0) ≡ n / 2 ^ low % 2 ^ count * 2 ^ low
field_masked low count n splits =
    let block = and_block low (n / 2 ^ low) (2 ^ count - 1) (n % 2 ^ low) 0 splits.1 splits.2 in
    let none : bit_and (n % 2 ^ low) 0 ≡ 0 = omega (arith, and_le_r (n % 2 ^ low) 0) in
    let kept = ap (λ x. x * 2 ^ low + bit_and (n % 2 ^ low) 0) (and_mask (n / 2 ^ low) count) in
    ap (λ x. bit_and x ((2 ^ count - 1) * 2 ^ low + 0)) splits.0 ∙ block ∙ kept ∙ omega (arith, none)

same_field : (low count a b : ℕ) → Splits low a → Splits low b → Agree ((2 ^ count - 1) * 2 ^ low + 0) a b
    → a / 2 ^ low % 2 ^ count * 2 ^ low ≡ b / 2 ^ low % 2 ^ count * 2 ^ low
same_field low count a b x y same = sym (field_masked low count a x) ∙ same ∙ field_masked low count b y

-- CURRENT_STATE
state_among : (made : Kind) → AreAmong 0x1e00 (errors_and_state made)
state_among Sd = refl
state_among Mmc = refl

same_state : (made : Kind) (a b : ℕ) → Agree (errors_and_state made) a b → field 12 9 a ≡ field 12 9 b
same_state made a b same =
    let both = same_field 9 4 a b (omega arith, omega arith, omega arith) (omega arith, omega arith, omega arith)
    (agree_in 0x1e00 (errors_and_state made) a b (state_among made) same) in
    omega (arith, both)

-- CARD_IS_LOCKED
lock_among : (made : Kind) → AreAmong (2 ^ 25) (errors_and_lock made)
lock_among Sd = refl
lock_among Mmc = refl

pub same_lock : (made : Kind) (a b : ℕ) → Agree (errors_and_lock made) a b → field 25 25 a ≡ field 25 25 b
same_lock made a b same =
    let both = same_field 25 1 a b (omega arith, omega arith, omega arith) (omega arith, omega arith, omega arith)
    (agree_in (2 ^ 25) (errors_and_lock made) a b (lock_among made) same) in
    omega (arith, both)

-- an RCA
pub same_rca : (a b : ℕ) → Agree 0xffff0000 a b → field 31 16 a ≡ field 31 16 b
same_rca a b same =
    let both = same_field 16 16 a b (omega arith, omega arith, omega arith) (omega arith, omega arith, omega arith) same in
    omega (arith, both)

-- voltage and pattern
pub same_pattern : (a b : ℕ) → Agree 0xfff a b → field 11 0 a ≡ field 11 0 b
same_pattern a b same =
    let both = same_field 0 12 a b (omega arith, omega arith, omega arith) (omega arith, omega arith, omega arith) same in
    omega (arith, both)

-- Errors.

-- the errors of this kind are judged in the status of a card that is made so
abbrev Fits : Kind → Kind → Type 0
Fits kind made = AreAmong (error_mask kind) (errors_and_lock made)

sd_fits : (made : Kind) → Fits Sd made
sd_fits Sd = refl
sd_fits Mmc = refl

own_fits : (made : Kind) → Fits made made
own_fits Sd = refl
own_fits Mmc = refl

pub same_errors : (kind made : Kind) → Fits kind made → (a b : ℕ) → Agree (errors_and_lock made) a b
    → error_bits kind a ≡ error_bits kind b
same_errors kind made fits a b same = agree_in (error_mask kind) (errors_and_lock made) a b fits same

-- the errors of an SD card are among those of eMMC
fewer : (n : ℕ) → error_bits Mmc n ≡ 0 → error_bits Sd n ≡ 0
fewer n none = agree_in (error_mask Sd) (error_mask Mmc) n 0 refl none

clean_fewer : (n : ℕ) → IsClean Mmc n → IsClean Sd n
clean_fewer n clean =
    record { no_error = fewer n clean.no_error; in_tran = clean.in_tran; ready_for_data = clean.ready_for_data }

at_work_fewer : (n : ℕ) → IsAtWork Mmc n → IsAtWork Sd n
at_work_fewer n works =
    record {
      no_error = fewer n works.no_error;
      from_stby = works.from_stby;
      to_prg = works.to_prg;
      unready = works.unready;
    }

-- What an SD card holds is none of the errors of eMMC, where it is none of its own.

sd_none_of_its_own : (card : Card) → card.made.kind ≡ Sd → HasNoErrorOfItsOwn Sd card → HasNoErrorOfItsOwn Mmc card
sd_none_of_its_own card is none = record { errors = none.errors; switch_error = λ judged made. cc (is, made) }

sd_none : (card : Card) → card.made.kind ≡ Sd → HasNoError Sd card → HasNoError Mmc card
sd_none card is none =
    record { command_errors = none.command_errors; errors = none.errors; switch_error = λ judged made. cc (is, made) }

sd_in_order : (card : Card) → card.made.kind ≡ Sd → IsInOrder Sd card → IsInOrder Mmc card
sd_in_order card is order =
    record { no_error = sd_none_of_its_own card is order.no_error; tran = order.tran; rests = order.rests }

-- a law for each kind whose errors are judged of a card is one for both kinds
tells_by : (kind made : Kind) (card : Card) → card.made.kind ≡ made → (Told Is : Kind → Type 0)
    → ((by : Kind) → Fits by made → Tells by card (Told by) (Is by))
    → (Told Mmc → Told Sd) → (card.made.kind ≡ Sd → Is Sd → Is Mmc) → Tells kind card (Told kind) (Is kind)
tells_by Sd made card is Told Is law less more = law Sd (sd_fits made)
tells_by Mmc Mmc card is Told Is law less more = law Mmc refl
tells_by Mmc Sd card is Told Is law less more =
    (λ told. more is ((law Sd refl).0 (less told)), λ same holds. cc (is, same))

-- a number by its bits above 23, those two, and those below
masked_around : (high two low m o : ℕ) → two < 4 → low < 2 ^ 22 → o < 2 ^ 22
    → bit_and ((high * 4 + two) * 2 ^ 22 + low) ((m * 4 + 3) * 2 ^ 22 + o)
    ≡ (bit_and high m * 4 + two) * 2 ^ 22 + bit_and low o
masked_around high two low m o few small part =
    let two_bits = and_block 2 high m two 3 few (omega arith) in
    let kept : bit_and two 3 ≡ two = and_mask two 2 ∙ omega (arith, few) in
    and_block 22 (high * 4 + two) (m * 4 + 3) low o small part
    ∙ ap (λ x. x * 2 ^ 22 + bit_and low o) (two_bits ∙ ap (λ x. bit_and high m * 4 + x) kept)

-- what is judged of a status of its own is what is judged of the status, on its own
own_masked_by : (m o n : ℕ) → o < 2 ^ 22
    → bit_and (own_status n) ((m * 4 + 3) * 2 ^ 22 + o) ≡ own_status (bit_and n ((m * 4 + 3) * 2 ^ 22 + o))
own_masked_by m o n small =
    let high = n / 2 ^ 24 in
    let two = n / 2 ^ 22 % 4 in
    let low = n % 2 ^ 22 in
    let mask = (m * 4 + 3) * 2 ^ 22 + o in
    let is : n ≡ (high * 4 + two) * 2 ^ 22 + low = omega arith in
    let own : own_status n ≡ (high * 4 + 0) * 2 ^ 22 + low = omega arith in
    let whole = ap (λ x. bit_and x mask) is ∙ masked_around high two low m o (omega arith) (omega arith) small in
    let rest = ap (λ x. bit_and x mask) own ∙ masked_around high 0 low m o (omega arith) (omega arith) small in
    let part : bit_and low o < 2 ^ 22 = omega (arith, and_le_r low o, small) in
    let few : two < 4 = omega arith in
    rest ∙ omega (arith, part, few) ∙ ap own_status (sym whole)

own_masked : (made : Kind) (n : ℕ)
    → bit_and (own_status n) (errors_and_lock made) ≡ own_status (bit_and n (errors_and_lock made))
own_masked Sd n = own_masked_by (errors_and_lock Sd / 2 ^ 24) (errors_and_lock Sd % 2 ^ 22) n (omega arith)
own_masked Mmc n = own_masked_by (errors_and_lock Mmc / 2 ^ 24) (errors_and_lock Mmc % 2 ^ 22) n (omega arith)

pub agree_own : (made : Kind) (a b : ℕ) → Agree (errors_and_lock made) a b
    → Agree (errors_and_lock made) (own_status a) (own_status b)
agree_own made a b same = own_masked made a ∙ ap own_status same ∙ sym (own_masked made b)

less_among : (made : Kind) → AreAmong (errors_and_lock made) (errors_and_state made)
less_among Sd = refl
less_among Mmc = refl

pub less : (made : Kind) (a b : ℕ) → Agree (errors_and_state made) a b → Agree (errors_and_lock made) a b
less made a b same = agree_in (errors_and_lock made) (errors_and_state made) a b (less_among made) same

-- what is told of a status, and the status
abbrev pub Says : Kind → ℕ → ℕ → Type 0
Says made told status = Agree (errors_and_state made) told status × IsReadyInTran told status

same_own : (kind made : Kind) → Fits kind made → (told status : ℕ) → Says made told status
    → error_bits kind (own_status told) ≡ error_bits kind (own_status status)
same_own kind made fits told status says =
    same_errors kind made fits (own_status told) (own_status status) (agree_own made told status (less made told status says.0))

-- what both say of the state is the same, and in tran of being ready
work_of_own : (n : ℕ) → (field 12 9 (own_status n) ≡ field 12 9 n) × (field 8 8 (own_status n) ≡ field 8 8 n)
work_of_own n = (omega arith, omega arith)

same_own_work : (made : Kind) (told status : ℕ) → Says made told status
    → (field 12 9 (own_status told) ≡ field 12 9 (own_status status))
    × (field 12 9 (own_status status) ≡ state_number Tran → field 8 8 (own_status told) ≡ field 8 8 (own_status status))
same_own_work made told status says =
    let x = work_of_own told in
    let y = work_of_own status in (
      x.0 ∙ same_state made told status says.0 ∙ sym y.0,
      λ tran. x.1 ∙ says.1 (sym y.0 ∙ tran) ∙ sym y.1,
    )

clean_as : (kind made : Kind) → Fits kind made → (told status : ℕ) → Says made told status
    → (IsClean kind (own_status told) → IsClean kind (own_status status))
    × (IsClean kind (own_status status) → IsClean kind (own_status told))
clean_as kind made fits told status says =
    let work = same_own_work made told status says in
    let errors = same_own kind made fits told status says in (
      λ clean. (let tran = sym work.0 ∙ clean.in_tran in
          record {
            no_error = sym errors ∙ clean.no_error;
            in_tran = tran;
            ready_for_data = sym (work.1 tran) ∙ clean.ready_for_data;
          }),
      λ clean. record {
        no_error = errors ∙ clean.no_error;
        in_tran = work.0 ∙ clean.in_tran;
        ready_for_data = work.1 clean.in_tran ∙ clean.ready_for_data;
      },
    )

at_work_as : (kind made : Kind) → Fits kind made → (told status : ℕ) → Says made told status
    → (IsAtWork kind (own_status told) → IsAtWork kind (own_status status))
    × (IsAtWork kind (own_status status) → IsAtWork kind (own_status told))
at_work_as kind made fits told status says =
    let work = same_own_work made told status says in
    let errors = same_own kind made fits told status says in (
      λ works. record {
        no_error = sym errors ∙ works.no_error;
        from_stby = subst (λ n. state_number Stby ≤ n) work.0 works.from_stby;
        to_prg = subst (λ n. n ≤ state_number Prg) work.0 works.to_prg;
        unready = λ tran. sym (work.1 tran) ∙ works.unready (work.0 ∙ tran);
      },
      λ works. record {
        no_error = errors ∙ works.no_error;
        from_stby = subst (λ n. state_number Stby ≤ n) (sym work.0) works.from_stby;
        to_prg = subst (λ n. n ≤ state_number Prg) (sym work.0) works.to_prg;
        unready = λ tran. (let status_tran = sym work.0 ∙ tran in work.1 status_tran ∙ works.unready status_tran);
      },
    )

-- What is told of a card.

pub told_state : (told : ℕ) (card : Card) → ShowsItself card told → field 12 9 told ≡ state_number card.state
told_state told card shows = same_state card.made.kind told _ shows.0 ∙ status_state false card

pub told_errors : (kind : Kind) (told : ℕ) (card : Card) → IsCard card → Shows card told
    → Tells kind card (error_bits kind told ≡ 0) (HasNoError kind card)
told_errors kind told card k shows =
    tells_by kind card.made.kind card refl (λ by. error_bits by told ≡ 0) (λ by. HasNoError by card)
    (λ by fits. (let same = same_errors by card.made.kind fits told _ shows in
    let law = status_errors by false card k in
    (λ none. law.0 (sym same ∙ none), λ of_kind none. same ∙ law.1 of_kind none)))
    (fewer told) (sd_none card)

-- and of what an R1 of any command says
pub told_none : (kind : Kind) (told : ℕ) (card : Card) → IsCard card → Shows card told → error_bits kind (own_status told) ≡ 0
    → card.errors ≡ 0
told_none kind told card k shows none =
    let made = card.made.kind in
    let law : Tells kind card (error_bits kind (own_status told) ≡ 0) (HasNoErrorOfItsOwn kind card) =
    tells_by kind made card refl (λ by. error_bits by (own_status told) ≡ 0) (λ by. HasNoErrorOfItsOwn by card)
    (λ by fits. (let same = same_errors by made fits (own_status told) _ (agree_own made told _ shows) in
    let law = own_status_errors by false card k in
    (λ none. law.0 (sym same ∙ none), λ of_kind none. same ∙ law.1 of_kind none)))
    (fewer (own_status told)) (sd_none_of_its_own card) in
    (law.0 none).errors

pub told_own : (kind : Kind) (told : ℕ) (card : Card) → IsCard card → ShowsItself card told
    → Tells kind card (error_bits kind (own_status told) ≡ 0) (HasNoErrorOfItsOwn kind card)
told_own kind told card k shows =
    tells_by kind card.made.kind card refl (λ by. error_bits by (own_status told) ≡ 0) (λ by. HasNoErrorOfItsOwn by card)
    (λ by fits. (let same = same_own by card.made.kind fits told _ shows in
    let law = own_status_errors by false card k in
    (λ none. law.0 (sym same ∙ none), λ of_kind none. same ∙ law.1 of_kind none)))
    (fewer (own_status told)) (sd_none_of_its_own card)

pub told_clean : (kind : Kind) (told : ℕ) (card : Card) → IsCard card → ShowsItself card told
    → Tells kind card (IsClean kind (own_status told)) (IsInOrder kind card)
told_clean kind told card k shows =
    let made = card.made.kind in
    tells_by kind made card refl (λ by. IsClean by (own_status told)) (λ by. IsInOrder by card)
    (λ by fits. (let law = clean_status by false card k in (
      λ clean. law.0 ((clean_as by made fits told _ shows).0 clean),
      λ of_kind order. (clean_as by made fits told _ shows).1 (law.1 of_kind order),
    )))
    (clean_fewer (own_status told)) (sd_in_order card)

pub told_at_end : (kind : Kind) (told : ℕ) (card : Card) → IsCard card → card.made.kind ≡ kind → Shows card told
    → HasNoError kind (record card { errors = 0 }) → card.errors ≡ out_of_range → error_bits kind told ≡ 2 ^ 31
told_at_end kind told card k of_kind shows none end =
    subst (λ by. error_bits by told ≡ 2 ^ 31) of_kind
    (same_errors card.made.kind card.made.kind (own_fits card.made.kind) told _ shows
    ∙ status_at_end card.made.kind false card k refl (subst (λ by. HasNoError by (record card { errors = 0 })) (sym of_kind) none)
    end)

pub told_at_work : (kind : Kind) (choice : Choice) (told : ℕ) (card : Card) → IsCard card
    → ShowsItself (at_work choice card) told
    → Tells kind card (IsAtWork kind (own_status told)) (HasNoErrorOfItsOwn kind (at_work choice card))
told_at_work kind choice told card k shows =
    let made = card.made.kind in
    let seen = at_work choice card in
    tells_by kind made card refl (λ by. IsAtWork by (own_status told)) (λ by. HasNoErrorOfItsOwn by seen)
    (λ by fits. (let law = lagging_status by choice card k in (
      λ works. law.0 ((at_work_as by made fits told _ shows).0 works),
      λ of_kind none. (at_work_as by made fits told _ shows).1 (law.1 of_kind none),
    )))
    (at_work_fewer (own_status told)) (sd_none_of_its_own seen)

sd_unclean : (choice : Choice) (told : ℕ) (card : Card) → IsCard card → ShowsItself (at_work choice card) told
    → IsClean Sd (own_status told) → ⊥
sd_unclean choice told card k shows clean =
    lagging_is_not_clean Sd choice card k ((clean_as Sd card.made.kind (sd_fits card.made.kind) told _ shows).0 clean)

pub told_unclean : (kind : Kind) (choice : Choice) (told : ℕ) (card : Card) → IsCard card
    → ShowsItself (at_work choice card) told → IsClean kind (own_status told) → ⊥
told_unclean Sd choice told card k shows clean = sd_unclean choice told card k shows clean
told_unclean Mmc choice told card k shows clean = sd_unclean choice told card k shows (clean_fewer (own_status told) clean)

pub told_lock : (told : ℕ) (card : Card) → Shows card told → field 25 25 told ≡ field 25 25 (status false card)
told_lock told card shows = same_lock card.made.kind told _ shows
