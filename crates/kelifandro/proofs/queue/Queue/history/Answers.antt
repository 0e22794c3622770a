use Rattle.std.proofs.Common.{subst}
use Rattle.kelifandro.specs.Done.{done_of, host_after, nothing_done, stories_of}
use Rattle.kelifandro.specs.Queues.{HasQueue, memory_of}
use Rattle.kelifandro.proofs.QueueLemmas.{has_queued}
use Rattle.kelifandro.proofs.queue.Queue.history.Goals as goal

pub returns : goal.returns
returns g c =
    let q = c.self.inside in
    let stories = stories_of g.S.HasStory.story g.S.HasRegisterStory.story in
    let now = host_after stories q.way (done_of q.did) in
    let start = (host_after stories q.way nothing_done).card in
    subst (HasQueue stories) c.self.view_is (λ is.
    let old = c.self.invariant.1 is in
    has_queued now.limits start now.card q.calls.past q.replies (memory_of q.lent) q.slots.now q.next q.serving q.opened old.1)
