use Rattle.std.proofs.Common.{◌+◌, ◌-◌, ◌++◌, sym, ◌∙◌, subst}
use Rattle.std.specs.Prelude.{codes}
use Rattle.mmc_frame.specs.Field.{field}
use Rattle.text_out.specs.Writing.{Writes}
use Rattle.text_out.proofs.WritingLemmas.{front_before, writes_after, writes_failed}
use Rattle.card_decode.specs.Registers.{number_of}
use Rattle.card_decode.specs.Words.{digits_text}
use Rattle.card_decode.proofs.FieldLemmas.{value_hexadecimal}
use Rattle.card_decode.proofs.line.put_value.Goals as goal

pub returns-in_err-put : goal.returns-in_err-put
returns-in_err-put g c =
    let v = field c.args.high c.args.low (number_of c.args.register c.args.bytes.now) in
    let width = c.args.high + 1 - c.args.low in
    subst (Writes (g.W.Write.contents c.args.out.now) (g.W.Write.contents c.put.new.out) c.from_residual.result)
    (sym (value_hexadecimal width c.args.meaning v (sym c.is_hexadecimal.ensures ∙ c.if-is_hexadecimal.true)))
    (writes_failed _ _ c.from_residual.result (codes "0x" ++ digits_text width v) c.from_residual.ensures.0
    (front_before _ _ (codes "0x") (digits_text width v) c.in_err-put.ensures))

pub returns-in_ok-put : goal.returns-in_ok-put
returns-in_ok-put g c =
    let v = field c.args.high c.args.low (number_of c.args.register c.args.bytes.now) in
    let width = c.args.high + 1 - c.args.low in
    subst (Writes (g.W.Write.contents c.args.out.now) (g.W.Write.contents c.put_digits.new.out) c.put_digits.result)
    (sym (value_hexadecimal width c.args.meaning v (sym c.is_hexadecimal.ensures ∙ c.if-is_hexadecimal.true)))
    (writes_after _ _ _ c.put_digits.result (codes "0x") (digits_text width v) c.in_ok-put.ensures c.put_digits.ensures)
