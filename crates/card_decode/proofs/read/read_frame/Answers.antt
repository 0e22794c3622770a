use Rattle.std.proofs.Common.{◌≡◌, ◌*◌, length, true, false, ap, sym, ◌∙◌, inr, Ok, Err}
use Rattle.std.specs.Prelude.{count_by, filter}
use Rattle.std.proofs.lemmas.List.Sums.{length-filter}
use Rattle.hex.specs.Hex.{decode_of, is_hex_digit}
use Rattle.card_decode.specs.Reading.{frame_may_have}
use Rattle.card_decode.specs.declared.fault.HexFault.TheVariants.{FrameLength}
use Rattle.card_decode.proofs.ReadLemmas.{bytes_count, frame_decodes, frame_reads_bytes, frame_reads_length, frame_reads_stray}
use Rattle.card_decode.proofs.read.read_frame.Goals as goal

pub returns-in-Some-clause-refused : goal.returns-in-Some-clause-refused
returns-in-Some-clause-refused c =
    λ fault h.
    let read = frame_reads_stray c.args.text.now c.in-Some.fault c.in-Some.ensures in
    let same : c.in-Some.fault ≡ fault = cc (read, h) in
    ap (λ f. Err f) same

pub returns-in-Some-clause-err : goal.returns-in-Some-clause-err
returns-in-Some-clause-err c = inr (frame_reads_stray c.args.text.now c.in-Some.fault c.in-Some.ensures)

pub returns-then-not-frame_may_have-clause-refused : goal.returns-then-not-frame_may_have-clause-refused
returns-then-not-frame_may_have-clause-refused c =
    λ fault h.
    let few : frame_may_have c.digit_count-found.result ≡ false =
    sym c.frame_may_have.ensures ∙ c.if-not-frame_may_have.true in
    let read = frame_reads_length c.args.text.now c.without_prefix-digits.result.now c.digit_count-found.result
    c.without_prefix-digits.ensures c.in-None.ensures c.digit_count-found.ensures few in
    let same : FrameLength c.digit_count-found.result ≡ fault = cc (read, h) in
    ap (λ f. Err f) same

pub returns-then-not-frame_may_have-clause-err : goal.returns-then-not-frame_may_have-clause-err
returns-then-not-frame_may_have-clause-err c =
    let few : frame_may_have c.digit_count-found.result ≡ false =
    sym c.frame_may_have.ensures ∙ c.if-not-frame_may_have.true in
    inr (frame_reads_length c.args.text.now c.without_prefix-digits.result.now c.digit_count-found.result
    c.without_prefix-digits.ensures c.in-None.ensures c.digit_count-found.ensures few)

pub returns-in_err-bytes-clause-refused : goal.returns-in_err-bytes-clause-refused
returns-in_err-bytes-clause-refused c =
    λ fault h.
    let enough : frame_may_have (count_by is_hex_digit c.without_prefix-digits.result.now) ≡ true =
    ap frame_may_have (sym c.digit_count-found.ensures) ∙ sym c.frame_may_have.ensures
    ∙ c.if-not-frame_may_have.false in
    let fine = frame_decodes c.without_prefix-digits.result.now enough in
    let read = frame_reads_bytes c.args.text.now c.without_prefix-digits.result.now fine.0
    c.without_prefix-digits.ensures c.in-None.ensures enough fine.1 in
    let bad : Ok fine.0 ≡ Err fault = sym read ∙ h in
    cc

pub frame_of-requires : goal.frame_of-requires
frame_of-requires c =
    let digits = c.without_prefix-digits.result.now in
    let decoded : decode_of (filter is_hex_digit digits) ≡ Ok c.in_ok-bytes.bytes.items = c.in_ok-bytes.ensures.ok in
    ap (λ b. frame_may_have (2 * length b)) c.as_slice.ensures.value
    ∙ ap frame_may_have (bytes_count _ c.in_ok-bytes.bytes.items decoded ∙ length-filter is_hex_digit digits
    ∙ sym c.digit_count-found.ensures) ∙ sym c.frame_may_have.ensures ∙ c.if-not-frame_may_have.false

pub returns-clause-read : goal.returns-clause-read
returns-clause-read c =
    let enough : frame_may_have (count_by is_hex_digit c.without_prefix-digits.result.now) ≡ true =
    ap frame_may_have (sym c.digit_count-found.ensures) ∙ sym c.frame_may_have.ensures
    ∙ c.if-not-frame_may_have.false in
    frame_reads_bytes c.args.text.now c.without_prefix-digits.result.now c.in_ok-bytes.bytes.items
    c.without_prefix-digits.ensures c.in-None.ensures enough c.in_ok-bytes.ensures.ok
    ∙ ap (λ b. Ok b) (sym (c.frame_of.ensures ∙ c.as_slice.ensures.value))

pub returns-clause-refused : goal.returns-clause-refused
returns-clause-refused c =
    λ fault h.
    let enough : frame_may_have (count_by is_hex_digit c.without_prefix-digits.result.now) ≡ true =
    ap frame_may_have (sym c.digit_count-found.ensures) ∙ sym c.frame_may_have.ensures
    ∙ c.if-not-frame_may_have.false in
    let read = frame_reads_bytes c.args.text.now c.without_prefix-digits.result.now c.in_ok-bytes.bytes.items
    c.without_prefix-digits.ensures c.in-None.ensures enough c.in_ok-bytes.ensures.ok in
    let bad : Ok c.in_ok-bytes.bytes.items ≡ Err fault = sym read ∙ h in
    cc
