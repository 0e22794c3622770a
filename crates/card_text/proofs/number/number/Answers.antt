use Rattle.std.proofs.Common.{ap, ◌∙◌, arith, refl, sym}
use Rattle.std.proofs.lemmas.Bool.{eqb-false, eqb-true}
use Rattle.std.proofs.lemmas.List.{take_all}
use Rattle.std.specs.Str.Parse.{digits_value}
use Rattle.card_text.proofs.NumberLemmas.{digit_more, digits_more, no_digit, no_digits, read_whole, too_large}
use Rattle.card_text.proofs.number.number.Goals as goal

pub returns-then-is_empty : goal.returns-then-is_empty
returns-then-is_empty c =
    no_digits c.args.digits.now (eqb-true _ _ (sym c.is_empty.ensures ∙ c.if-is_empty.true))

pub loop-digit-init : goal.loop-digit-init
loop-digit-init c = record { digits = λ i lt. absurd (omega (arith, lt)); small = omega arith; number_is = refl }

pub returns-then-not-is_ascii_digit : goal.returns-then-not-is_ascii_digit
returns-then-not-is_ascii_digit c =
    no_digit c.args.digits.now c.loop-digit.digit-index c.loop-digit-test.true c.if-not-is_ascii_digit.ensures.cases

pub returns-in_err-checked_mul : goal.returns-in_err-checked_mul
returns-in_err-checked_mul c =
    let so_far = c.loop-digit.invariant in
    let more = digit_more c.args.digits.now c.loop-digit.digit-index c.loop-digit.number c.loop-digit-test.true
    c.if-not-is_ascii_digit.ensures.cases so_far.number_is in
    rw c.from_residual.ensures
    (too_large c.args.digits.now c.loop-digit.digit-index _ more (λ small. c.in_err-checked_mul.ensures (omega (arith, small))))

pub returns-in_err-number : goal.returns-in_err-number
returns-in_err-number c =
    let so_far = c.loop-digit.invariant in
    let more = digit_more c.args.digits.now c.loop-digit.digit-index c.loop-digit.number c.loop-digit-test.true
    c.if-not-is_ascii_digit.ensures.cases so_far.number_is in
    rw c.from_residual-in_err-number.ensures
    (too_large c.args.digits.now c.loop-digit.digit-index _ more
    (λ small. c.in_err-number.ensures (omega (arith, small, c.in_ok-checked_mul.ensures))))

pub loop-digit-preserved : goal.loop-digit-preserved
loop-digit-preserved c =
    let so_far = c.loop-digit.invariant in
    let ds = c.args.digits.now in
    let i = c.loop-digit.digit-index in
    let digit = c.if-not-is_ascii_digit.ensures.cases in
    let more = digit_more ds i c.loop-digit.number c.loop-digit-test.true digit so_far.number_is in
    record {
      digits = digits_more ds i so_far.digits digit;
      small = omega (arith, c.in_ok-number.ensures);
      number_is = omega (arith, c.in_ok-number.ensures, c.in_ok-checked_mul.ensures, more);
    }

pub returns : goal.returns
returns c =
    let so_far = c.loop-digit.invariant in
    let ds = c.args.digits.now in
    let whole = take_all c.loop-digit.digit-index ds c.loop-digit-test.false in
    let some = eqb-false _ _ (sym c.is_empty.ensures ∙ c.if-is_empty.false) in
    read_whole ds c.loop-digit.number some (λ i lt. so_far.digits i (omega (arith, lt, c.loop-digit-test.false))) so_far.small
    (so_far.number_is ∙ ap (digits_value 10) whole)
