use Rattle.std.proofs.Common.{sym, ◌∙◌}
use Rattle.text_out.proofs.WritingLemmas.{front_before, writes_after, writes_failed}
use Rattle.card_check.specs.Registers.{check_line, is_checked, last_text, right_text}
use Rattle.card_check.proofs.PrintLemmas.{written_else}
use Rattle.card_check.proofs.registers.put_check.Goals as goal

pub returns-in_err-put_last : goal.returns-in_err-put_last
returns-in_err-put_last g c =
    let name = c.args.name.now in
    let register = c.args.register.now in
    written_else (g.W.Write.contents c.args.out.now) (g.W.Write.contents c.put_last.new.out) c.from_residual.result
    (is_checked register) (check_line name register) (sym c.is_checked.ensures ∙ c.if-is_checked.false)
    (writes_failed _ _ _ _ c.from_residual.ensures.0
    (front_before _ _ (last_text name register) (right_text register) c.in_err-put_last.ensures))

pub returns : goal.returns
returns g c =
    let name = c.args.name.now in
    let register = c.args.register.now in
    written_else (g.W.Write.contents c.args.out.now) (g.W.Write.contents c.put_right.new.out) c.put_right.result
    (is_checked register) (check_line name register) (sym c.is_checked.ensures ∙ c.if-is_checked.false)
    (writes_after _ (g.W.Write.contents c.put_last.new.out) _ c.put_right.result (last_text name register) (right_text register)
    c.in_ok-put_last.ensures c.put_right.ensures)
