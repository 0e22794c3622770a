use Rattle.std.proofs.Common.{◌≡◌, ◌⊎◌, ◌+◌, ◌*◌, length, true, false, ap, sym, ◌∙◌, subst, inr, Ok, Err}
use Rattle.std.specs.Prelude.{IfErr, IfOk, count_by}
use Rattle.std.proofs.lemmas.List.Sums.{length-filter}
use Rattle.hex.specs.Hex.{decode_of, is_hex_digit}
use Rattle.card_decode.specs.Digits.{without_prefix}
use Rattle.card_decode.specs.Reading.{may_have, register_digits}
use Rattle.card_decode.specs.declared.fault.HexFault.TheVariants.{Length, NoMemory}
use Rattle.card_decode.proofs.ReadLemmas.{bytes_count, digits_are, digits_count, reads_bytes, reads_length, reads_stray}
use Rattle.card_decode.proofs.read.read_register.Goals as goal

pub returns-in-Some-clause-err : goal.returns-in-Some-clause-err
returns-in-Some-clause-err c = inr (reads_stray c.args.register c.args.text.now c.in-Some.fault c.in-Some.ensures)

pub zeros_left_out-zeros-requires : goal.zeros_left_out-zeros-requires
zeros_left_out-zeros-requires c =
    c.digit_count-count.ensures ∙ ap (count_by is_hex_digit) c.without_prefix-digits.ensures
    ∙ sym (length-filter is_hex_digit (without_prefix c.args.text.now))

pub returns-then-not-may_have-clause-err : goal.returns-then-not-may_have-clause-err
returns-then-not-may_have-clause-err c =
    let found = c.zeros_left_out-zeros.result + c.digit_count-count.result in
    let few : may_have c.args.register found ≡ false = sym c.may_have.ensures ∙ c.if-not-may_have.true in
    let many = digits_count c.args.register c.args.text.now c.without_prefix-digits.result.now _ _
    c.without_prefix-digits.ensures c.zeros_left_out-zeros.ensures.zeros c.digit_count-count.ensures in
    inr (reads_length c.args.register c.args.text.now found c.in-None.ensures many few
    ∙ ap (λ n. Err (Length found (2 * n))) (sym c.size-expected.ensures))

pub register_of-requires : goal.register_of-requires
register_of-requires c =
    let found = c.zeros_left_out-zeros.result + c.digit_count-count.result in
    let enough : may_have c.args.register found ≡ true = sym c.may_have.ensures ∙ c.if-not-may_have.false in
    let many = digits_count c.args.register c.args.text.now c.without_prefix-digits.result.now _ _
    c.without_prefix-digits.ensures c.zeros_left_out-zeros.ensures.zeros c.digit_count-count.ensures in
    let decoded = ap decode_of (digits_are c.args.register c.args.text.now c.without_prefix-digits.result.now _
    c.without_prefix-digits.ensures c.zeros_left_out-zeros.ensures.zeros) ∙ c.in_ok-bytes.ensures.ok in
    ap (may_have c.args.register) (bytes_count _ c.in_ok-bytes.bytes.items decoded ∙ many) ∙ enough

pub returns-clause-read : goal.returns-clause-read
returns-clause-read c =
    let found = c.zeros_left_out-zeros.result + c.digit_count-count.result in
    let enough : may_have c.args.register found ≡ true = sym c.may_have.ensures ∙ c.if-not-may_have.false in
    let many = digits_count c.args.register c.args.text.now c.without_prefix-digits.result.now _ _
    c.without_prefix-digits.ensures c.zeros_left_out-zeros.ensures.zeros c.digit_count-count.ensures in
    let decoded = ap decode_of (digits_are c.args.register c.args.text.now c.without_prefix-digits.result.now _
    c.without_prefix-digits.ensures c.zeros_left_out-zeros.ensures.zeros) ∙ c.in_ok-bytes.ensures.ok in
    let read = reads_bytes c.args.register c.args.text.now c.in_ok-bytes.bytes.items c.in-None.ensures
    (ap (may_have c.args.register) many ∙ enough) decoded in
    subst (λ r. IfOk c.register_of.result (λ bytes. r ≡ Ok bytes.items)) (sym read) c.register_of.ensures.ok

pub returns-clause-err : goal.returns-clause-err
returns-clause-err c =
    let found = c.zeros_left_out-zeros.result + c.digit_count-count.result in
    let enough : may_have c.args.register found ≡ true = sym c.may_have.ensures ∙ c.if-not-may_have.false in
    let many = digits_count c.args.register c.args.text.now c.without_prefix-digits.result.now _ _
    c.without_prefix-digits.ensures c.zeros_left_out-zeros.ensures.zeros c.digit_count-count.ensures in
    let decoded = ap decode_of (digits_are c.args.register c.args.text.now c.without_prefix-digits.result.now _
    c.without_prefix-digits.ensures c.zeros_left_out-zeros.ensures.zeros) ∙ c.in_ok-bytes.ensures.ok in
    let read = reads_bytes c.args.register c.args.text.now c.in_ok-bytes.bytes.items c.in-None.ensures
    (ap (may_have c.args.register) many ∙ enough) decoded in
    subst (λ r. IfErr c.register_of.result (λ fault. (fault ≡ NoMemory) ⊎ (r ≡ Err fault))) (sym read)
    c.register_of.ensures.err

pub returns-then-not-may_have-clause-counted : goal.returns-then-not-may_have-clause-counted
returns-then-not-may_have-clause-counted c =
    λ clean few.
    let many = digits_count c.args.register c.args.text.now c.without_prefix-digits.result.now _ _
    c.without_prefix-digits.ensures c.zeros_left_out-zeros.ensures.zeros c.digit_count-count.ensures in
    ap (λ n. Err (Length n (2 * c.size-expected.result))) (sym many)
    ∙ ap (λ n. Err (Length (length (register_digits c.args.register c.args.text.now)) (2 * n))) c.size-expected.ensures

pub returns-in_err-bytes-clause-counted : goal.returns-in_err-bytes-clause-counted
returns-in_err-bytes-clause-counted c =
    λ clean few.
    let enough = sym c.may_have.ensures ∙ c.if-not-may_have.false in
    let many = digits_count c.args.register c.args.text.now c.without_prefix-digits.result.now _ _
    c.without_prefix-digits.ensures c.zeros_left_out-zeros.ensures.zeros c.digit_count-count.ensures in
    let bad : false ≡ true = sym few ∙ ap (may_have c.args.register) many ∙ enough in
    cc

pub returns-clause-counted : goal.returns-clause-counted
returns-clause-counted c =
    λ clean few.
    let enough = sym c.may_have.ensures ∙ c.if-not-may_have.false in
    let many = digits_count c.args.register c.args.text.now c.without_prefix-digits.result.now _ _
    c.without_prefix-digits.ensures c.zeros_left_out-zeros.ensures.zeros c.digit_count-count.ensures in
    let bad : false ≡ true = sym few ∙ ap (may_have c.args.register) many ∙ enough in
    cc
