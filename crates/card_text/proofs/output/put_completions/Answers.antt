use Rattle.std.proofs.Common.{◌<◌, ◌+◌, ◌++◌, length, drop, arith, sym, ap, ◌∙◌, append_assoc}
use Rattle.text_out.proofs.WritingLemmas.{appends_more, writes_broken}
use Rattle.card_text.specs.Output.{completion_text, completions_text}
use Rattle.card_text.proofs.OutputLemmas.{completions_at}
use Rattle.card_text.proofs.output.put_completions.Goals as goal

pub returns-in_err-put_completion : goal.returns-in_err-put_completion
returns-in_err-put_completion g c =
    let all = c.args.completions.now in
    let index = c.loop-completion.completion-index in
    let so_far = c.loop-completion.invariant in
    let lt : index < length all = omega arith in
    writes_broken _ _ _ _ so_far.front _ (completions_text (drop (index + 1) all)) _ c.from_residual.ensures.0
    (so_far.split
    ∙ ap (λ t. so_far.front ++ t) (completions_at all index c.completion-item.result lt c.completion-item.is))
    so_far.printed c.in_err-put_completion.ensures

pub loop-completion-preserved : goal.loop-completion-preserved
loop-completion-preserved g c =
    let all = c.args.completions.now in
    let index = c.loop-completion.completion-index in
    let so_far = c.loop-completion.invariant in
    let lt : index < length all = omega arith in
    record {
      front = so_far.front ++ completion_text c.completion-item.result;
      split = so_far.split
          ∙ ap (λ t. so_far.front ++ t) (completions_at all index c.completion-item.result lt c.completion-item.is)
          ∙ sym (append_assoc so_far.front _ _);
      printed = appends_more _ _ _ so_far.front _ so_far.printed c.in_ok-put_completion.ensures;
    }
