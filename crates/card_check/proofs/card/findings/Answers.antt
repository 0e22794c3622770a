use Rattle.std.proofs.Common.{◌≡◌, ◌+◌, ◌++◌, ◌∙◌, ap, arith, map}
use Rattle.card_text.specs.CardLines.{card_line_of}
use Rattle.card_text.specs.Parts.{left_parts}
use Rattle.card_text.specs.Script.{lines}
use Rattle.card_check.specs.Causes.{wrong_with}
use Rattle.card_check.specs.WrongLines.{good_with, numbered, shown}
use Rattle.card_check.proofs.WrongLineLemmas.{judged_all, judged_few, judged_more, judged_none, none_left}
use Rattle.card_check.proofs.card.findings.Goals as goal

pub overflow_add-number : goal.overflow_add-number
overflow_add-number c =
    let few =
    judged_few _ _ _ _ _ _ _ _ _ c.loop-rest.invariant (ap (left_parts 10) c.in-Some.is ∙ c.cut.ensures) in
    let wf = c.well_formed in omega (arith, few)

pub loop-rest-init : goal.loop-rest-init
loop-rest-init c =
    rw (c.new-good.ensures.items, c.new-found.ensures.items) (judged_none c.kind_given-kind.result c.args.text.now)

pub loop-rest-preserved : goal.loop-rest-preserved
loop-rest-preserved c =
    let good = c.loop-rest.good.items in
    let found = map shown c.loop-rest.found.items in
    let line = c.cut.result.0.now in
    let wrong : c.wrong_with-wrong.result ≡ wrong_with c.kind_given-kind.result good line =
    c.wrong_with-wrong.ensures ∙ ap (λ above. wrong_with c.kind_given-kind.result above line) c.as_slice.ensures.value in
    judged_more _ _ _ _ line _ _ good _ found _ c.loop-rest.invariant
    (ap (left_parts 10) c.in-Some.is ∙ c.cut.ensures)
    (c.in_ok-push_said.ensures ∙ ap (λ w. good_with good w (card_line_of line)) wrong)
    (c.in_ok-push_wrong.ensures ∙ ap (λ w. found ++ numbered (c.loop-rest.number + 1) line w) wrong)

pub returns : goal.returns
returns c =
    judged_all c.kind_given-kind.result (lines c.args.text.now) _ _ _ _ _ c.loop-rest.invariant
    (none_left c.loop-rest.rest c.in_default.not-Some) c.kind_given-kind.ensures
