use Rattle.std.proofs.Common.{sym, subst}
use Rattle.text_out.specs.Writing.{AppendsFront, Writes}
use Rattle.text_out.proofs.WritingLemmas.{front_before, writes_after, writes_failed}
use Rattle.card_maker.specs.CardText.{card_file_text, common_lines, own_lines}
use Rattle.card_maker.specs.FileLines.{ended_lines}
use Rattle.card_maker.proofs.FileLemmas.{read_again, text_is}
use Rattle.card_maker.proofs.card_file.put_card_file.Goals as goal

pub returns-in_err-put_common_lines-clause-written : goal.returns-in_err-put_common_lines-clause-written
returns-in_err-put_common_lines-clause-written g c =
    let spec = c.args.spec.now in
    writes_failed _ _ _ (card_file_text spec) c.from_residual.ensures.0
    (subst (AppendsFront _ _) (sym (text_is spec))
    (front_before _ _ (ended_lines (common_lines spec)) (ended_lines (own_lines spec.registers.kind))
    c.in_err-put_common_lines.ensures))

pub returns-clause-written : goal.returns-clause-written
returns-clause-written g c =
    let spec = c.args.spec.now in
    subst (Writes _ _ _) (sym (text_is spec))
    (writes_after _ _ _ _ (ended_lines (common_lines spec)) (ended_lines (own_lines spec.registers.kind))
    c.in_ok-put_common_lines.ensures c.put_own_lines.ensures)

pub returns-in_err-put_common_lines-clause-read_again : goal.returns-in_err-put_common_lines-clause-read_again
returns-in_err-put_common_lines-clause-read_again g c =
    read_again c.args.spec.now c.requires c.tell_widths.ensures.widths c.tell_widths.ensures.ocr c.tell_widths.ensures.sectors

pub returns-clause-read_again : goal.returns-clause-read_again
returns-clause-read_again g c =
    read_again c.args.spec.now c.requires c.tell_widths.ensures.widths c.tell_widths.ensures.ocr c.tell_widths.ensures.sectors
