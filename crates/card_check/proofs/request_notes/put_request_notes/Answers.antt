use Rattle.std.proofs.Common.{[], ◌+◌, ◌++◌, ◌∙◌, ap, arith, subst}
use Rattle.std.specs.Io.KnownBytes.{Appends}
use Rattle.text_out.proofs.WritingLemmas.{appends_more, appends_none, writes_broken}
use Rattle.card_text.specs.Parts.{left_parts}
use Rattle.card_check.specs.ByLines.{by_lines}
use Rattle.card_check.specs.Notes.{request_note}
use Rattle.card_check.proofs.ByLineLemmas.{reviewed_all, reviewed_few, reviewed_more, reviewed_next, reviewed_none}
use Rattle.card_check.proofs.WrongLineLemmas.{none_left}
use Rattle.card_check.proofs.request_notes.put_request_notes.Goals as goal

pub overflow_add-number : goal.overflow_add-number
overflow_add-number g c =
    let few =
    reviewed_few (request_note c.args.info.now) _ _ _ _ _ _ _ c.loop-rest.invariant.reviewed (ap (left_parts 10) c.in-Some.is ∙ c.cut.ensures) in
    let wf = c.well_formed in omega (arith, few)

pub loop-rest-init : goal.loop-rest-init
loop-rest-init g c = record {
  front = [];
  reviewed = reviewed_none (request_note c.args.info.now) c.args.text.now;
  printed = appends_none (g.W.Write.contents c.args.out.now);
}

pub returns-in_err-put_of_line : goal.returns-in_err-put_of_line
returns-in_err-put_of_line g c =
    let so_far = c.loop-rest.invariant in
    let line = c.cut.result.0.now in
    writes_broken _ _ _ _ so_far.front (request_note c.args.info.now (c.loop-rest.number + 1) line)
    (by_lines (request_note c.args.info.now) (c.loop-rest.number + 1 + 1) (left_parts 10 c.cut.result.1)) _ c.from_residual.ensures.0
    (reviewed_next (request_note c.args.info.now) _ _ _ line _ _ _ so_far.reviewed (ap (left_parts 10) c.in-Some.is ∙ c.cut.ensures))
    so_far.printed c.in_err-put_of_line.ensures

pub loop-rest-preserved : goal.loop-rest-preserved
loop-rest-preserved g c =
    let so_far = c.loop-rest.invariant in
    let line = c.cut.result.0.now in
    record {
      front = so_far.front ++ request_note c.args.info.now (c.loop-rest.number + 1) line;
      reviewed = reviewed_more (request_note c.args.info.now) _ _ _ line _ _ _ so_far.reviewed (ap (left_parts 10) c.in-Some.is ∙ c.cut.ensures);
      printed = appends_more _ _ _ so_far.front _ so_far.printed c.in_ok-put_of_line.ensures;
    }

pub returns : goal.returns
returns g c =
    subst (Appends (g.W.Write.contents c.args.out.now) (g.W.Write.contents c.loop-rest.out))
    (reviewed_all (request_note c.args.info.now) _ _ _ _ _ c.loop-rest.invariant.reviewed (none_left c.loop-rest.rest c.in_default.not-Some)) c.loop-rest.invariant.printed
