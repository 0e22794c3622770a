use Rattle.std.proofs.Common.{◌<◌, ◌^◌, rules, subst, sym}
use Rattle.mmc_card.specs.Card.{holds}
use Rattle.mmc_slots.specs.Work.{work_left}
use Rattle.kelifandro.specs.Done.{done_of, host_after, nothing_done, stories_of}
use Rattle.kelifandro.specs.QueueState.{KeepsQueue}
use Rattle.kelifandro.specs.Queues.{QueueHistory, memory_of}
use Rattle.kelifandro.proofs.QueueLemmas.{begins, begins_less}
use Rattle.kelifandro.proofs.queue.Queue.start.Goals as goal

pub invariant_of-self : goal.invariant_of-self
invariant_of-self g c =
    let q = c.self.inside in
    let stories = stories_of g.S.HasStory.story g.S.HasRegisterStory.story in
    let after = host_after stories q.way (done_of q.did) in
    let few : q.next < 2 ^ 64 = search rules in (
      c.self.invariant.0,
      (λ is.
          let k = c.self.invariant.1 is in (
            k.0,
            begins c.clients_see_each_step.ensures after.limits (host_after stories q.way nothing_done).card after.card q.calls.past q.replies
                (memory_of q.lent) q.slots.now c.start.new.slots c.in-Some.extent q.next q.serving c.asked_by.result q.opened
                (sym c.if-is_some.ensures) c.asked_by.ensures
                (λ info machine agrees together.
                c.in-Some.ensures.machine info (memory_of q.lent) q.next (holds after.card) machine agrees few c.requires.limit together)
                k.1,
          )),
      c.self.invariant.2,
    )

pub invariant_of-self-in-None : goal.invariant_of-self-in-None
invariant_of-self-in-None g c =
    let q = c.self.inside in
    let stories = stories_of g.S.HasStory.story g.S.HasRegisterStory.story in
    let after = host_after stories q.way (done_of q.did) in (
      c.self.invariant.0,
      (λ is.
          let k = c.self.invariant.1 is in (
            k.0,
            subst (λ slots. KeepsQueue after.limits (host_after stories q.way nothing_done).card after.card q.calls.past q.replies
                (memory_of q.lent) slots q.next q.serving q.opened) (sym c.in-None.ensures.unchanged) k.1,
          )),
      c.self.invariant.2,
    )

pub returns-in-Some-clause-less : goal.returns-in-Some-clause-less
returns-in-Some-clause-less g c = λ is yes.
    let q = c.self.inside in
    let k = (c.self.invariant.1 is).1 in
    subst (λ (h : QueueHistory). work_left c.start.new.slots < work_left h.slots) c.self.view_is
    (begins_less (memory_of q.lent) q.slots.now c.start.new.slots q.next q.serving (sym c.if-is_some.ensures) k.serves k.agrees.ordered
    (c.in-Some.ensures.less (memory_of q.lent) q.next))
