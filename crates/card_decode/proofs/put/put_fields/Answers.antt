use Rattle.std.proofs.Common.{◌+◌, ◌++◌, drop, get_or, sym, ap, ◌∙◌, append_assoc, append-nil, subst}
use Rattle.std.specs.Io.KnownBytes.{Appends}
use Rattle.text_out.proofs.WritingLemmas.{appends_more, writes_broken}
use Rattle.card_decode.specs.Registers.{number_of}
use Rattle.card_decode.specs.Words.{field_text, fields_text}
use Rattle.card_decode.proofs.FieldLemmas.{no_field, fields_at, fields_end, fits_at}
use Rattle.card_decode.proofs.put.put_fields.Goals as goal

pub put_field-requires : goal.put_field-requires
put_field-requires g c = record {
  sized = c.requires.sized;
  fitting = fits_at c.args.register c.args.fields.now c.loop-field.field-index no_field c.loop-field-test.true
      c.requires.fitting;
}

pub returns-in_err-put_field : goal.returns-in_err-put_field
returns-in_err-put_field g c =
    let inv = c.loop-field.invariant in
    let i = c.loop-field.field-index in
    let n = number_of c.args.register c.args.bytes.now in
    writes_broken _ _ _ _ inv.0 _ (fields_text c.args.register n (drop (i + 1) c.args.fields.now)) _
    c.from_residual.ensures.0
    (inv.1 ∙ ap (λ t. inv.0 ++ t) (fields_at c.args.register n c.args.fields.now i no_field c.loop-field-test.true))
    inv.2 c.in_err-put_field.ensures

pub loop-field-preserved : goal.loop-field-preserved
loop-field-preserved g c =
    let inv = c.loop-field.invariant in
    let i = c.loop-field.field-index in
    let n = number_of c.args.register c.args.bytes.now in
    let text = field_text c.args.register n (get_or c.args.fields.now i no_field) in (
      inv.0 ++ text,
      inv.1 ∙ ap (λ t. inv.0 ++ t) (fields_at c.args.register n c.args.fields.now i no_field c.loop-field-test.true)
          ∙ sym (append_assoc inv.0 text _),
      appends_more _ _ _ inv.0 _ inv.2 c.in_ok-put_field.ensures,
    )

pub returns : goal.returns
returns g c =
    let inv = c.loop-field.invariant in
    let n = number_of c.args.register c.args.bytes.now in
    let ends = fields_end c.args.register n c.args.fields.now c.loop-field.field-index c.loop-field-test.false in
    subst (Appends (g.W.Write.contents c.args.out.now) (g.W.Write.contents c.loop-field.out))
    (sym (inv.1 ∙ ap (λ t. inv.0 ++ t) ends ∙ append-nil inv.0)) inv.2
