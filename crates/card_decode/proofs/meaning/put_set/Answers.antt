use Rattle.std.proofs.Common.{◌+◌, ◌++◌, [], drop, get_or, sym, ap, ◌∙◌, append_assoc, subst}
use Rattle.std.specs.Prelude.{codes}
use Rattle.std.specs.Io.KnownBytes.{Appends}
use Rattle.text_out.specs.Writing.{Writes}
use Rattle.text_out.proofs.WritingLemmas.{appends_more, writes_after, writes_broken}
use Rattle.card_decode.specs.Words.{set_text}
use Rattle.card_decode.proofs.WordLemmas.{no_name, set_here, set_next, set_end, two_pieces}
use Rattle.card_decode.proofs.meaning.put_set.Goals as goal
use Rattle.card_decode.proofs.meaning.put_set.Goals.{then-has_bit+in_ok-put_pieces, else-has_bit}

pub returns-in_err-put_pieces : goal.returns-in_err-put_pieces
returns-in_err-put_pieces g c =
    let inv = c.loop-name.invariant in
    let i = c.loop-name.name-index in
    let names = c.args.names.now in
    let here = set_here c.loop-name.separator.now names i c.args.value c.loop-name-test.true
    (sym c.has_bit.ensures ∙ c.if-has_bit.true) in
    writes_broken _ _ _ _ inv.0 _ (set_text (codes ", ") (drop (i + 1) names) c.args.value) _
    c.from_residual.ensures.0
    (inv.1 ∙ ap (λ t. inv.0 ++ t)
    (here ∙ sym (two_pieces c.loop-name.separator.now (get_or names i no_name).text.now _))) inv.2
    c.in_err-put_pieces.ensures

pub loop-name-preserved : goal.loop-name-preserved
loop-name-preserved g c =
    let inv = c.loop-name.invariant in
    let i = c.loop-name.name-index in
    let names = c.args.names.now in
    let separator = c.loop-name.separator.now in
    let text = (get_or names i no_name).text.now in
    let lt = c.loop-name-test.true in
    let value = c.args.value in
    elim c.if-has_bit.branch [
      | then-has_bit+in_ok-put_pieces w ↦ (
        inv.0 ++ (separator ++ (text ++ [])),
        inv.1 ∙ ap (λ t. inv.0 ++ t)
            (set_here separator names i value lt (sym c.has_bit.ensures ∙ w.if-has_bit.true)
            ∙ sym (two_pieces separator text _))
            ∙ sym (append_assoc inv.0 (separator ++ (text ++ [])) _)
            ∙ ap (λ s. (inv.0 ++ (separator ++ (text ++ []))) ++ set_text s.now (drop (i + 1) names) value)
            (sym w.separator-is),
        subst (λ o. Appends (g.W.Write.contents c.args.out.now) (g.W.Write.contents o) _) (sym w.out-is)
            (appends_more _ _ _ inv.0 _ inv.2 w.in_ok-put_pieces.ensures),
      )
      | else-has_bit w ↦ (
        inv.0,
        inv.1 ∙ ap (λ t. inv.0 ++ t)
            (set_next separator names i value lt (sym c.has_bit.ensures ∙ w.if-has_bit.false))
            ∙ ap (λ s. inv.0 ++ set_text s.now (drop (i + 1) names) value) (sym w.separator-is),
        subst (λ o. Appends (g.W.Write.contents c.args.out.now) (g.W.Write.contents o) inv.0) (sym w.out-is) inv.2,
      )
    ]

pub returns : goal.returns
returns g c =
    let inv = c.loop-name.invariant in
    let ends = set_end c.loop-name.separator.now c.args.names.now c.loop-name.name-index c.args.value
    c.loop-name-test.false in
    subst (Writes _ _ c.put.result) (sym (inv.1 ∙ ap (λ t. inv.0 ++ t) ends))
    (writes_after _ _ _ c.put.result inv.0 (codes "\n") inv.2 c.put.ensures)
