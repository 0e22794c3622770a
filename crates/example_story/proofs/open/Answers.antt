use Rattle.std.proofs.Common.{◌∙◌, ap}
use Rattle.example_story.proofs.KeptLemmas.{is_kept, mapped, mapped_err, the_same}
use Rattle.example_story.proofs.open.Goals as goal

pub returns-clause-machine : goal.returns-clause-machine
returns-clause-machine g c = mapped c.open.result (λ d p is unmisused. p (is_kept _ _ is unmisused)) c.open.ensures.machine

pub returns-clause-refused : goal.returns-clause-refused
returns-clause-refused g c =
    mapped_err c.open.result (λ e p is unmisused.
    the_same (ap (λ view. view.card) c.new-2.ensures.view ∙ ap (λ past. (g.S.HasStory.story.outcome past).card) c.new.ensures.past)
    (ap (λ view. view.faults) c.new-2.ensures.view ∙ ap (λ past. (g.S.HasStory.story.outcome past).faults) c.new.ensures.past)
    (p (is_kept _ _ is unmisused))) c.open.ensures.refused
