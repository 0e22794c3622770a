use Rattle.std.proofs.Common.{Option, subst, sym}
use Rattle.text_out.proofs.WritingLemmas.{front_before, writes_after, writes_failed}
use Rattle.text_out.specs.Writing.{Writes}
use Rattle.card_text.specs.Output.{refused_text}
use Rattle.mmc_block.specs.declared.refused.Refused.{Refused}
use Rattle.card_check.specs.Notes.{note_front, refused_note}
use Rattle.card_check.proofs.request_notes.put_note.Goals as goal

pub returns-in_err-put_front-in-Some : goal.returns-in_err-put_front-in-Some
returns-in_err-put_front-in-Some g c =
    let old = g.W.Write.contents c.args.out.now in
    let new = g.W.Write.contents c.put_front.new.out in
    subst (λ (refused : Option Refused). Writes old new c.from_residual.result (refused_note c.args.number c.args.client refused))
    (sym c.in-Some.is)
    (writes_failed old new c.from_residual.result _ c.from_residual.ensures.0
    (front_before old new (note_front c.args.number) (refused_text c.args.client c.in-Some.refused)
    c.in_err-put_front-in-Some.ensures))

pub returns-in_ok-put_front-in-Some : goal.returns-in_ok-put_front-in-Some
returns-in_ok-put_front-in-Some g c =
    let old = g.W.Write.contents c.args.out.now in
    let mid = g.W.Write.contents c.put_front.new.out in
    let new = g.W.Write.contents c.put_refused.new.out in
    subst (λ (refused : Option Refused). Writes old new c.put_refused.result (refused_note c.args.number c.args.client refused))
    (sym c.in-Some.is)
    (writes_after old mid new c.put_refused.result (note_front c.args.number) (refused_text c.args.client c.in-Some.refused)
    c.in_ok-put_front-in-Some.ensures c.put_refused.ensures)
