use Rattle.std.proofs.Common.{◌∙◌, sym}
use Rattle.std.specs.Prelude.{◌==◌, [], not}
use Rattle.kelifandro.proofs.QueueNumbers.{not_done, not_zero_is}
use Rattle.kelifandro.proofs.queue_exports.kelifandro_conclude_by.Goals as goal

pub returns-else-conclude-clause-done : goal.returns-else-conclude-clause-done
returns-else-conclude-clause-done c = λ some.
    absurd (not_done (not (c.args.is_done == 0)) _ (not_zero_is c.args.is_done some)
    (sym (c.conclude.ensures.which (λ ticket. [])) ∙ c.if-conclude.false))
