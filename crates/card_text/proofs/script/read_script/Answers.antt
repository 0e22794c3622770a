use Rattle.std.proofs.Common.{◌+◌, List, arith, sym, ap, ◌∙◌, subst}
use Rattle.card_text.specs.declared.event.ScriptEvent.{ScriptEvent}
use Rattle.card_text.specs.Parts.{left_parts}
use Rattle.card_text.specs.Script.{lines}
use Rattle.card_text.proofs.ScriptLemmas.{ScriptRead, read_bad, read_event, read_few, read_none, read_skipped}
use Rattle.card_text.proofs.script.read_script.Goals as goal

pub overflow_add-number : goal.overflow_add-number
overflow_add-number c =
    let few =
    read_few c.args.text.now _ _ _ _ _ c.loop-rest.invariant (ap (left_parts 10) c.in-Some.is ∙ c.cut.ensures) in
    let wf = c.well_formed in omega (arith, few)

pub loop-rest-init : goal.loop-rest-init
loop-rest-init c = rw c.new-events.ensures.items (read_none (lines c.args.text.now))

pub returns-in-Bad-clause-err : goal.returns-in-Bad-clause-err
returns-in-Bad-clause-err c =
    let said = c.in_ok-script_line.ensures in
    read_bad _ _ _ _ _ _ c.loop-rest.invariant (ap (left_parts 10) c.in-Some.is ∙ c.cut.ensures) (sym said ∙ c.in-Bad.is)

pub loop-rest-preserved-in-Skipped : goal.loop-rest-preserved-in-Skipped
loop-rest-preserved-in-Skipped c =
    let said = c.in_ok-script_line.ensures in
    read_skipped _ _ _ _ _ _ c.loop-rest.invariant (ap (left_parts 10) c.in-Some.is ∙ c.cut.ensures)
    (sym said ∙ c.in-Skipped.is)

pub loop-rest-preserved : goal.loop-rest-preserved
loop-rest-preserved c =
    let said = c.in_ok-script_line.ensures in
    let pushed = c.in_ok-push_back-in-Says.ensures.items in
    subst (ScriptRead (lines c.args.text.now) (left_parts 10 c.cut.result.1) (c.loop-rest.number + 1))
    (sym {A = List ScriptEvent} pushed)
    (read_event _ _ _ _ _ _ c.in-Says.event c.loop-rest.invariant (ap (left_parts 10) c.in-Some.is ∙ c.cut.ensures)
    (sym said ∙ c.in-Says.is))
