use Rattle.std.proofs.Common.{subst, sym}
use Rattle.kelifandro.specs.Done.{done_of, host_after, nothing_done, stories_of}
use Rattle.kelifandro.specs.QueueState.{KeepsQueue}
use Rattle.kelifandro.specs.Queues.{memory_of}
use Rattle.kelifandro.proofs.QueueLemmas.{cancels}
use Rattle.kelifandro.proofs.queue.Queue.cancel.Goals as goal

pub invariant_of-self : goal.invariant_of-self
invariant_of-self g c =
    let q = c.self.inside in
    let stories = stories_of g.S.HasStory.story g.S.HasRegisterStory.story in
    let after = host_after stories q.way (done_of q.did) in
    let call = c.cancel-cancelled in (
      c.self.invariant.0,
      (λ is.
          let k = c.self.invariant.1 is in (
            k.0,
            subst (λ replies. KeepsQueue after.limits (host_after stories q.way nothing_done).card after.card q.calls.past replies
                (memory_of q.lent) call.new.slots q.next q.serving q.opened) (sym c.of-self-inside.ensures)
                (cancels c.clients_see_each_step.ensures c.a_cancellation_agrees.ensures c.those_in_service_stay.ensures after.limits
                (host_after stories q.way nothing_done).card after.card q.calls.past q.replies (memory_of q.lent) q.slots.now call.new.slots
                q.next q.serving q.opened c.args.ticket call.result call.ensures.which call.ensures.taken call.ensures.others
                call.ensures.ordered call.ensures.why call.ensures.unchanged k.1),
          )),
      c.self.invariant.2,
    )
