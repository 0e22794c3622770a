use Rattle.std.proofs.Common.{◌<◌, ◌+◌, ◌++◌, get_or, length, drop, arith, sym, ap, ◌∙◌, append_assoc}
use Rattle.text_out.proofs.WritingLemmas.{appends_more, writes_broken}
use Rattle.card_maker.specs.CardText.{byte_lines, ext_lines}
use Rattle.card_maker.specs.FileLines.{ended_lines}
use Rattle.card_maker.proofs.FileLemmas.{ext_at}
use Rattle.card_maker.proofs.card_file.put_ext_lines.Goals as goal

pub returns-in_err-put_byte : goal.returns-in_err-put_byte
returns-in_err-put_byte g c =
    let all = c.args.ext_csd.now in
    let i = c.loop-place.place in
    let lt : i < length all = omega arith in
    let so_far = c.loop-place.invariant in
    writes_broken _ _ _ _ so_far.front _ (ended_lines (ext_lines (i + 1) (drop (i + 1) all))) _ c.from_residual.ensures.0
    (so_far.split ∙ ap (λ t. so_far.front ++ t) (ext_at all i lt)) so_far.printed c.in_err-put_byte.ensures

pub loop-place-preserved : goal.loop-place-preserved
loop-place-preserved g c =
    let all = c.args.ext_csd.now in
    let i = c.loop-place.place in
    let lt : i < length all = omega arith in
    let so_far = c.loop-place.invariant in
    record {
      front = so_far.front ++ ended_lines (byte_lines i (get_or all i 0));
      split = so_far.split ∙ ap (λ t. so_far.front ++ t) (ext_at all i lt) ∙ sym (append_assoc so_far.front _ _);
      printed = appends_more _ _ _ so_far.front _ so_far.printed c.in_ok-put_byte.ensures;
    }
