use Rattle.std.proofs.Common.{◌<◌, ◌+◌, ◌++◌, length, drop, arith, sym, ap, ◌∙◌, append_assoc}
use Rattle.text_out.proofs.WritingLemmas.{appends_more, writes_broken}
use Rattle.nbd_server.specs.Acts.{answer_bytes, answers_bytes}
use Rattle.nbd_server.proofs.AnswerLemmas.{answers_at}
use Rattle.nbd_server.proofs.desk.put_answers.Goals as goal

pub returns-in_err-put_answer : goal.returns-in_err-put_answer
returns-in_err-put_answer g c =
    let all = c.args.given.now in
    let index = c.loop-completion.completion-index in
    let so_far = c.loop-completion.invariant in
    let lt : index < length all = omega arith in
    writes_broken _ _ _ _ so_far.front _ (answers_bytes c.args.cookies.now (drop (index + 1) all)) _ c.from_residual.ensures.0
    (so_far.split
    ∙ ap (λ t. so_far.front ++ t)
    (answers_at c.args.cookies.now all index c.completion-item.result c.cookie_under-cookie.result lt c.completion-item.is
    c.cookie_under-cookie.ensures))
    so_far.printed c.in_err-put_answer.ensures

pub loop-completion-preserved : goal.loop-completion-preserved
loop-completion-preserved g c =
    let all = c.args.given.now in
    let index = c.loop-completion.completion-index in
    let so_far = c.loop-completion.invariant in
    let lt : index < length all = omega arith in
    record {
      front = so_far.front ++ answer_bytes c.cookie_under-cookie.result c.completion-item.result.answer;
      split = so_far.split
          ∙ ap (λ t. so_far.front ++ t)
          (answers_at c.args.cookies.now all index c.completion-item.result c.cookie_under-cookie.result lt
          c.completion-item.is c.cookie_under-cookie.ensures)
          ∙ sym (append_assoc so_far.front _ _);
      printed = appends_more _ _ _ so_far.front _ so_far.printed c.in_ok-put_answer.ensures;
    }
