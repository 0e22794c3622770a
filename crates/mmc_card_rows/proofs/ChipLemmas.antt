-- What a chip keeps true of its fields, and why a transfer doesn't begin.
use Rattle.std.proofs.Common.{◌%◌, ◌*◌, ◌+◌, ◌/◌, ◌==◌, ◌^◌, ◌∙◌, ◌≡◌, ◌≤◌, Bool, List, ap, arith, bit_or, false, refl}
use Rattle.std.proofs.Common.{subst, sym, true, ℕ}
use Rattle.std.proofs.lemmas.Bool.Decides.{nat_tests}
use Rattle.std.specs.Prelude.{if◌then◌else◌, nat_le}
use Rattle.mmc_frame.proofs.Bytes.{and_true}
use Rattle.mmc_card.proofs.Cards.{among_wider}
use Rattle.mmc_card.specs.Faults.{AreOfExecution}
use Rattle.std.specs.Int.{bit_at}
use Rattle.std.specs.Int.Bits.{or_add_and}
use Rattle.std.specs.Int.RustNames.{bit_and}
use Rattle.std.proofs.lemmas.Bool.{eqb-true, ne_eqb}
use Rattle.std.proofs.lemmas.Nat.{and_block, and_le_r, le_or_l, or_block, shr-shr, shr_split}
use Rattle.std.proofs.lemmas.Nat.Bits.{bit_at_or, same_from_bits}
use Rattle.mmc_card.specs.Card.{AreAmong, Card}
use Rattle.mmc_card.specs.CardAnswer.{CardAnswer, Checked, bit, raised, shown, status}
use Rattle.mmc_card.specs.ErrorBits.{address_error, block_len_error, command_error_bits, error_bits}
use Rattle.mmc_card.specs.ErrorBits.{execution_error_bits, out_of_range, wp_violation}
use Rattle.mmc_card.specs.Rows.{hindered}
use Rattle.mmc_card.specs.RowsTransfer.{transferred}
use Rattle.mmc_card.specs.Sectors.{Change, Sector}
use Rattle.mmc_card_rows.specs.Chip.{Answers, card_of}
use Rattle.mmc_card_rows.specs.FaultErrors.{are_of_execution}
use Rattle.mmc_card_rows.specs.declared.answer.Answer.{Answer}
use Rattle.mmc_card_rows.specs.declared.chip.Chip.{Chip}

-- Error bits, as a status has them and as a card has them, in units of bit 13.

bit_at_held : (bits i : ℕ) → bit_at (bits / 2 ^ 13) i ≡ bit_at bits (13 + i)
bit_at_held bits i = ap (λ n. n % 2) (shr-shr bits 13 i)

pub or_held : (a b : ℕ) → bit_or a b / 2 ^ 13 ≡ bit_or (a / 2 ^ 13) (b / 2 ^ 13)
or_held a b =
    same_from_bits _ _ (λ i. omega (
      arith,
      bit_at_held (bit_or a b) i,
      bit_at_held a i,
      bit_at_held b i,
      bit_at_or a b (13 + i),
      bit_at_or (a / 2 ^ 13) (b / 2 ^ 13) i,
    ))

-- error bits of execution, in a status and in a card
pub execution_is_error : (bits : ℕ) → are_of_execution bits ≡ true → AreAmong bits (2 ^ 13 * error_bits)
execution_is_error bits h =
    among_wider bits (2 ^ 13 * execution_error_bits) (2 ^ 13 * error_bits)
    (eqb-true _ _ (and_true (bit_or bits (2 ^ 13 * execution_error_bits) == 2 ^ 13 * execution_error_bits) _ h).0) refl

pub execution_held : (bits : ℕ) → are_of_execution bits ≡ true → AreOfExecution (bits / 2 ^ 13)
execution_held bits h =
    let parts = and_true (bit_or bits (2 ^ 13 * execution_error_bits) == 2 ^ 13 * execution_error_bits)
    (nat_le (2 ^ 13) bits) h in
    let among : AreAmong bits (2 ^ 13 * execution_error_bits) = eqb-true _ _ parts.0 in
    let some : 2 ^ 13 ≤ bits = grind (arith, nat_tests, parts.1) in (
      sym (or_held bits (2 ^ 13 * execution_error_bits)) ∙ ap (λ n. n / 2 ^ 13) among,
      λ none. omega (arith, some, none),
    )

-- those that a command finds, in units of bit 13
pub found_few : (found : ℕ) → AreAmong found execution_error_bits → found ≤ execution_error_bits
found_few found among = omega (arith, le_or_l found execution_error_bits, among)

pub found_known : (found : ℕ) → AreAmong found execution_error_bits → AreAmong (2 ^ 13 * found) (2 ^ 13 * error_bits)
found_known found among =
    let wider = among_wider found execution_error_bits error_bits among refl in
    let block = or_block 13 found error_bits 0 0 (omega arith) (omega arith) in
    subst (λ n. bit_or n (2 ^ 13 * error_bits) ≡ 2 ^ 13 * error_bits) (omega arith) (block ∙ ap (λ n. n * 2 ^ 13 + 0) wider)

-- among bits from bit 13 on there is none below
whole : (bits all : ℕ) → AreAmong bits (all * 2 ^ 13 + 0) → bits ≡ 2 ^ 13 * (bits / 2 ^ 13)
whole bits all among =
    let shared = ap (λ n. bit_and n (all * 2 ^ 13 + 0)) (shr_split bits 13) in
    omega (
      arith,
      or_add_and bits (all * 2 ^ 13 + 0),
      among,
      shared,
      and_block 13 (bits / 2 ^ 13) all (bits % 2 ^ 13) 0 (omega arith) (omega arith),
      and_le_r (bits % 2 ^ 13) 0,
    )

pub command_errors_whole : (bits : ℕ) → AreAmong bits (2 ^ 13 * command_error_bits) → bits ≡ 2 ^ 13 * (bits / 2 ^ 13)
command_errors_whole bits among = whole bits command_error_bits among

pub errors_whole : (bits : ℕ) → AreAmong bits (2 ^ 13 * error_bits) → bits ≡ 2 ^ 13 * (bits / 2 ^ 13)
errors_whole bits among = whole bits error_bits among

pub command_errors_few : (bits : ℕ) → AreAmong bits (2 ^ 13 * command_error_bits) → bits ≤ 2 ^ 13 * command_error_bits
command_errors_few bits among = omega (arith, le_or_l bits (2 ^ 13 * command_error_bits), among)

pub errors_few : (bits : ℕ) → AreAmong bits (2 ^ 13 * error_bits) → bits ≤ 2 ^ 13 * error_bits
errors_few bits among = omega (arith, le_or_l bits (2 ^ 13 * error_bits), among)

-- what may keep a transfer from beginning are error bits
pub transfer_errors_known : (beyond misaligned other protected : Bool) → AreAmong
    (2 ^ 13 * out_of_range * bit beyond + 2 ^ 13 * address_error * bit misaligned
    + 2 ^ 13 * block_len_error * bit other + 2 ^ 13 * wp_violation * bit protected)
    (2 ^ 13 * error_bits)
transfer_errors_known true true true true = refl
transfer_errors_known true true true false = refl
transfer_errors_known true true false true = refl
transfer_errors_known true true false false = refl
transfer_errors_known true false true true = refl
transfer_errors_known true false true false = refl
transfer_errors_known true false false true = refl
transfer_errors_known true false false false = refl
transfer_errors_known false true true true = refl
transfer_errors_known false true true false = refl
transfer_errors_known false true false true = refl
transfer_errors_known false true false false = refl
transfer_errors_known false false true true = refl
transfer_errors_known false false true false = refl
transfer_errors_known false false false true = refl
transfer_errors_known false false false false = refl

-- a chip has an error where the card has one
some_held : (bits errors : ℕ) → bits ≡ 2 ^ 13 * errors → (bits == 0) ≡ false → (errors == 0) ≡ false
some_held bits errors held some =
    ne_eqb errors 0 (λ none. cc (some, ap (λ n. n == 0) (held ∙ ap (λ n. 2 ^ 13 * n) none)))

-- with errors no transfer begins, and the response shows them
pub refused_transfer : (index bits errors : ℕ) (card after : Card) (now new : Chip) (answer : Answer)
    → bits ≡ 2 ^ 13 * errors → (bits == 0) ≡ false → card_of now ≡ raised (bits / 2 ^ 13) card
    → Answers (shown (card_of now), Checked index (status false (card_of now))) new answer
    → Answers (transferred index errors card after) new answer
refused_transfer index bits errors card after now new answer held some raises did =
    let choose : Bool → Card × CardAnswer =
    λ b. if b then (after, Checked index (status false card))
    else (shown card, Checked index (status false (raised errors card))) in
    let is : card_of now ≡ raised errors card = raises ∙ ap (λ n. raised n card) (omega (arith, held)) in
    rw (ap choose (some_held bits errors held some))
    (did.0 ∙ ap shown is, did.1 ∙ ap (λ (c : Card). Checked index (status false c)) is, did.2)

-- a command that finds nothing is carried out, and one that finds an error is not
pub carried_out : (found bits index : ℕ) (card : Card) (step : Card × CardAnswer) (new : Chip) (answer : Answer) → found ≡ bits
    → found ≡ 0 → Answers step new answer → Answers (if bits == 0 then step else hindered bits card index) new answer
carried_out found bits index card step new answer is none did =
    subst (λ (n : ℕ). Answers (if n == 0 then step else hindered n card index) new answer) is (rw none did)

pub hindered_by : (found bits index : ℕ) (card : Card) (step : Card × CardAnswer) (new : Chip) (answer : Answer) → found ≡ bits
    → (found ≡ 0 → ⊥) → Answers (hindered found card index) new answer
    → Answers (if bits == 0 then step else hindered bits card index) new answer
hindered_by found bits index card step new answer is some did =
    subst (λ (n : ℕ). Answers (if n == 0 then step else hindered n card index) new answer) is (rw (ne_eqb found 0 some) did)

-- a change of a partition is unfinished
pub with_change : (card : Card) (parts : List (List Sector)) (start : ℕ) (values : List Sector) (change : Change)
    → parts ≡ card.sectors → start ≡ change.start → values ≡ change.values
    → record card { sectors = parts; start = start; values = values }
    ≡ record card { start = change.start; values = change.values }
with_change card parts start values change same is_start are_values = rw (same, is_start, are_values) refl
