use Rattle.std.proofs.Common.{◌+◌, List, arith, sym, ap, ◌∙◌, subst}
use Rattle.card_text.specs.declared.card_line.CardLine.{CardLine}
use Rattle.card_text.specs.CardFile.{may_stand}
use Rattle.card_text.specs.Parts.{left_parts}
use Rattle.card_text.specs.Script.{lines}
use Rattle.card_text.proofs.CardFileLemmas.{CardRead, card_bad, card_few, card_more, card_none, card_refused, card_skipped}
use Rattle.card_text.proofs.card_file.read_lines.Goals as goal

pub overflow_add-number : goal.overflow_add-number
overflow_add-number c =
    let few =
    card_few c.args.text.now _ _ _ _ _ _ c.loop-rest.invariant (ap (left_parts 10) c.in-Some.is ∙ c.cut.ensures) in
    let wf = c.well_formed in omega (arith, few)

pub loop-rest-init : goal.loop-rest-init
loop-rest-init c = rw c.new-said.ensures.items (card_none (lines c.args.text.now) c.args.kind)

pub returns-in-Bad-clause-err : goal.returns-in-Bad-clause-err
returns-in-Bad-clause-err c =
    card_bad _ _ _ _ _ _ _ c.loop-rest.invariant (ap (left_parts 10) c.in-Some.is ∙ c.cut.ensures)
    (sym c.card_line.ensures ∙ c.in-Bad.is)

pub returns-then-not-may_stand-clause-err : goal.returns-then-not-may_stand-clause-err
returns-then-not-may_stand-clause-err c =
    card_refused _ _ _ _ _ _ _ c.in-Says.line c.loop-rest.invariant
    (ap (left_parts 10) c.in-Some.is ∙ c.cut.ensures) (sym c.card_line.ensures ∙ c.in-Says.is)
    (ap (λ ls. may_stand c.args.kind ls c.in-Says.line) (sym c.as_slice.ensures.value)
    ∙ sym c.may_stand.ensures ∙ c.if-not-may_stand.true)

pub loop-rest-preserved-in-Skipped : goal.loop-rest-preserved-in-Skipped
loop-rest-preserved-in-Skipped c =
    card_skipped _ _ _ _ _ _ _ c.loop-rest.invariant (ap (left_parts 10) c.in-Some.is ∙ c.cut.ensures)
    (sym c.card_line.ensures ∙ c.in-Skipped.is)

pub loop-rest-preserved : goal.loop-rest-preserved
loop-rest-preserved c =
    let pushed = c.in_ok-push-in-Says.ensures.items in
    subst (CardRead (lines c.args.text.now) (left_parts 10 c.cut.result.1) c.args.kind (c.loop-rest.number + 1))
    (sym {A = List CardLine} pushed)
    (card_more _ _ _ _ _ _ _ c.in-Says.line c.loop-rest.invariant
    (ap (left_parts 10) c.in-Some.is ∙ c.cut.ensures) (sym c.card_line.ensures ∙ c.in-Says.is)
    (ap (λ ls. may_stand c.args.kind ls c.in-Says.line) (sym c.as_slice.ensures.value)
    ∙ sym c.may_stand.ensures ∙ c.if-not-may_stand.false))
