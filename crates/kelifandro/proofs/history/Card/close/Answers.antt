use Rattle.std.proofs.Common.{refl}
use Rattle.kelifandro.specs.Done.{done_of, stories_of}
use Rattle.kelifandro.proofs.CardLemmas.{closes}
use Rattle.kelifandro.proofs.history.Card.close.Goals as goal

pub invariant_of-self : goal.invariant_of-self
invariant_of-self g c =
    let inside = c.self.inside in
    closes (stories_of g.S.HasStory.story g.S.HasRegisterStory.story) inside.way (done_of inside.did) (done_of c.switch_off.new.did)
    inside.card _ inside.calls.past _ c.self.invariant refl c.switch_off.ensures.stays c.switch_off.ensures.still_again
    c.then-self-inside.ensures
