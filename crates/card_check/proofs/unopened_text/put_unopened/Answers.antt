use Rattle.std.proofs.Common.{[], refl, ◌++◌, ◌∷◌}
use Rattle.text_out.proofs.WritingLemmas.{front_before, writes_after, writes_broken, writes_failed}
use Rattle.card_check.specs.Unopened.{front_text, sentence_of, unopened_line}
use Rattle.card_check.proofs.unopened_text.put_unopened.Goals as goal

pub returns-in_err-put_front : goal.returns-in_err-put_front
returns-in_err-put_front g c =
    let old = g.W.Write.contents c.args.out.now in
    let new = g.W.Write.contents c.put_front.new.out in
    writes_failed old new c.from_residual.result (unopened_line c.args.why) c.from_residual.ensures.0
    (front_before old new (front_text c.args.why) (sentence_of c.args.why ++ (10 ∷ [])) c.in_err-put_front.ensures)

pub returns-in_err-put_sentence : goal.returns-in_err-put_sentence
returns-in_err-put_sentence g c =
    let old = g.W.Write.contents c.args.out.now in
    let mid = g.W.Write.contents c.put_front.new.out in
    let new = g.W.Write.contents c.put_sentence.new.out in
    writes_broken old mid new c.from_residual-in_err-put_sentence.result (front_text c.args.why) (sentence_of c.args.why)
    (10 ∷ []) (unopened_line c.args.why) c.from_residual-in_err-put_sentence.ensures.0 refl c.in_ok-put_front.ensures
    c.in_err-put_sentence.ensures

pub returns : goal.returns
returns g c =
    let old = g.W.Write.contents c.args.out.now in
    let mid = g.W.Write.contents c.put_front.new.out in
    let said = g.W.Write.contents c.put_sentence.new.out in
    let new = g.W.Write.contents c.put.new.out in
    writes_after old mid new c.put.result (front_text c.args.why) (sentence_of c.args.why ++ (10 ∷ [])) c.in_ok-put_front.ensures
    (writes_after mid said new c.put.result (sentence_of c.args.why) (10 ∷ []) c.in_ok-put_sentence.ensures c.put.ensures)
