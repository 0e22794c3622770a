use Rattle.kelifandro.specs.Done.{done_of, stories_of}
use Rattle.kelifandro.proofs.CardLemmas.{begins}
use Rattle.kelifandro.proofs.history.Card.new.Goals as goal

pub invariant_of-result : goal.invariant_of-result
invariant_of-result g c =
    begins (stories_of g.S.HasStory.story g.S.HasRegisterStory.story) c.args.way (done_of c.new-2.result) _ _ c.new-2.ensures
    c.new-3.ensures c.requires.closed c.requires.wired
