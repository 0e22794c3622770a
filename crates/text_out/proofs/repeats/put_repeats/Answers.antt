use Rattle.std.proofs.Common.{◌++◌, [], sym, ap, ◌∙◌, append_assoc, append-nil, subst}
use Rattle.std.proofs.lemmas.Bool.{eqb-true}
use Rattle.std.specs.Io.KnownBytes.{Appends}
use Rattle.text_out.specs.Repeats.{repeats_text}
use Rattle.text_out.proofs.WritingLemmas.{appends_more, writes_broken}
use Rattle.text_out.proofs.RepeatLemmas.{text_empty}
use Rattle.text_out.proofs.repeats.put_repeats.Goals as goal

pub loop-rest-preserved : goal.loop-rest-preserved
loop-rest-preserved g c =
    let inv = c.loop-rest.invariant in
    let put = c.in_ok-rest.ensures.ok in (
      inv.0 ++ put.1,
      inv.1 ∙ ap (λ t. inv.0 ++ t) put.2 ∙ sym (append_assoc inv.0 put.1 _),
      appends_more _ _ _ inv.0 put.1 inv.2 put.3,
    )

pub returns : goal.returns
returns g c =
    let inv = c.loop-rest.invariant in
    subst (λ t. Appends (g.W.Write.contents c.args.out.now) (g.W.Write.contents c.loop-rest.out) t)
    (sym (inv.1 ∙ ap (λ t. inv.0 ++ t) (text_empty c.loop-rest.rest.now
    (eqb-true _ _ (sym c.is_empty.ensures ∙ c.loop-rest-test.false))) ∙ append-nil inv.0)) inv.2

pub returns-in_err-rest : goal.returns-in_err-rest
returns-in_err-rest g c =
    let inv = c.loop-rest.invariant in
    writes_broken _ _ _ _ inv.0 (repeats_text c.loop-rest.rest.now) [] _ c.from_residual.ensures.0
    (inv.1 ∙ ap (λ t. inv.0 ++ t) (sym (append-nil (repeats_text c.loop-rest.rest.now)))) inv.2
    c.in_err-rest.ensures.err
