use Rattle.std.proofs.Common.{subst}
use Rattle.text_out.proofs.WritingLemmas.{front_before, writes_after, writes_failed}
use Rattle.text_out.specs.Writing.{Writes}
use Rattle.card_check.specs.Unopened.{field_text, why_text}
use Rattle.card_check.proofs.unopened_text.put_sentence.Goals as goal

pub returns-in_err-put_field : goal.returns-in_err-put_field
returns-in_err-put_field g c =
    let old = g.W.Write.contents c.args.out.now in
    let new = g.W.Write.contents c.put_field.new.out in
    writes_failed old new c.from_residual.result _ c.from_residual.ensures.0
    (front_before old new (field_text c.args.why) (why_text c.args.why) c.in_err-put_field.ensures)

pub returns : goal.returns
returns g c =
    let old = g.W.Write.contents c.args.out.now in
    let mid = g.W.Write.contents c.put_field.new.out in
    let new = g.W.Write.contents c.put.new.out in
    writes_after old mid new c.put.result (field_text c.args.why) (why_text c.args.why) c.in_ok-put_field.ensures
    (subst (Writes mid new c.put.result) c.why_text.ensures c.put.ensures)
