use Rattle.std.proofs.Common.{sym, ◌∙◌, subst}
use Rattle.std.specs.Io.KnownBytes.{Appends}
use Rattle.text_out.specs.Writing.{Writes}
use Rattle.text_out.proofs.WritingLemmas.{appends_none, front_after, front_before, writes_after, writes_failed}
use Rattle.card_decode.specs.Registers.{number_of}
use Rattle.card_decode.specs.Words.{label_text}
use Rattle.card_decode.proofs.FieldLemmas.{text_none, text_some}
use Rattle.card_decode.proofs.line.put_field.Goals as goal

pub returns-then-is_silent : goal.returns-then-is_silent
returns-then-is_silent g c =
    let out = g.W.Write.contents c.args.out.now in
    let none = text_none c.args.register (number_of c.args.register c.args.bytes.now) c.args.field.now
    c.span-high.result.0 c.span-high.result.1 c.span-high.ensures.high c.span-high.ensures.low
    (sym c.is_silent.ensures ∙ c.if-is_silent.true) in
    subst (Appends out out) (sym none) (appends_none out)

pub returns-in_err-put_label : goal.returns-in_err-put_label
returns-in_err-put_label g c =
    let some = text_some c.args.register (number_of c.args.register c.args.bytes.now) c.args.field.now
    c.span-high.result.0 c.span-high.result.1 c.span-high.ensures.high c.span-high.ensures.low
    (sym c.is_silent.ensures ∙ c.if-is_silent.false) in
    subst (Writes (g.W.Write.contents c.args.out.now) (g.W.Write.contents c.put_label.new.out) c.from_residual.result)
    (sym some)
    (writes_failed _ _ c.from_residual.result _ c.from_residual.ensures.0
    (front_before _ _ (label_text c.args.field.now) _ c.in_err-put_label.ensures))

pub returns-in_err-put_value : goal.returns-in_err-put_value
returns-in_err-put_value g c =
    let some = text_some c.args.register (number_of c.args.register c.args.bytes.now) c.args.field.now
    c.span-high.result.0 c.span-high.result.1 c.span-high.ensures.high c.span-high.ensures.low
    (sym c.is_silent.ensures ∙ c.if-is_silent.false) in
    subst (Writes (g.W.Write.contents c.args.out.now) (g.W.Write.contents c.put_value.new.out)
    c.from_residual-in_err-put_value.result) (sym some)
    (writes_failed _ _ c.from_residual-in_err-put_value.result _ c.from_residual-in_err-put_value.ensures.0
    (front_after _ _ _ (label_text c.args.field.now) _ c.in_ok-put_label.ensures
    (front_before _ _ _ _ c.in_err-put_value.ensures)))

pub returns : goal.returns
returns g c =
    let some = text_some c.args.register (number_of c.args.register c.args.bytes.now) c.args.field.now
    c.span-high.result.0 c.span-high.result.1 c.span-high.ensures.high c.span-high.ensures.low
    (sym c.is_silent.ensures ∙ c.if-is_silent.false) in
    subst (Writes (g.W.Write.contents c.args.out.now) (g.W.Write.contents c.put_meaning.new.out) c.put_meaning.result)
    (sym some)
    (writes_after _ _ _ c.put_meaning.result (label_text c.args.field.now) _ c.in_ok-put_label.ensures
    (writes_after _ _ _ c.put_meaning.result _ _ c.in_ok-put_value.ensures c.put_meaning.ensures))
