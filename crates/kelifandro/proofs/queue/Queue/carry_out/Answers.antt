use Rattle.std.proofs.Common.{List, Some, rules, subst, sym, to_z, of_z, w32, ℤ}
use Rattle.std.proofs.lemmas.Int.{to_z-of_z}
use Rattle.std.specs.Prelude.{IfSome}
use Rattle.mmc_card.specs.Sectors.{Sector}
use Rattle.mmc_card.specs.declared.exchange.Lines.{Lines}
use Rattle.kelifandro.specs.Done.{done_of, host_after, nothing_done, stories_of}
use Rattle.kelifandro.specs.QueueState.{KeepsQueue, KeepsServed}
use Rattle.kelifandro.specs.Queues.{AreEnough, AreGathered, QueueHistory, memory_of}
use Rattle.kelifandro.proofs.DoneLemmas.{limits_stay}
use Rattle.kelifandro.proofs.HistoryLemmas.{are_sectors}
use Rattle.kelifandro.proofs.QueueEndLemmas.{carried_by, serves}
use Rattle.kelifandro.proofs.queue.Queue.carry_out.Goals as goal

pub invariant_of-result : goal.invariant_of-result
invariant_of-result g c =
    let q = c.self.inside in
    let stories = stories_of g.S.HasStory.story g.S.HasRegisterStory.story in
    let call = c.serve_told-number in
    let was = host_after stories q.way (done_of q.did) in
    let now = host_after stories q.way (done_of call.new.did) in
    let start = (host_after stories q.way nothing_done).card in
    let asked = c.in-Some.asked in
    let number = to_z-of_z w32 call.result (search rules) in
    let moved = c.seen-moved.ensures in (
      call.ensures.fit_again,
      (λ is.
          let goes = call.ensures.goes_on is in
          let old = c.self.invariant.1 goes.was_true in
          let k : KeepsQueue now.limits start was.card q.calls.past q.replies (memory_of q.lent) q.slots.now q.next (Some asked) q.opened =
          subst (λ (limits : Lines). KeepsQueue limits start was.card q.calls.past q.replies (memory_of q.lent) q.slots.now q.next (Some asked) q.opened)
          (sym (limits_stay stories q.way (done_of call.new.did) (done_of q.did)))
          (subst (λ serving. KeepsQueue was.limits start was.card q.calls.past q.replies (memory_of q.lent) q.slots.now q.next serving q.opened)
          c.in-Some.is old.1) in
          let enough : IfSome (Some asked) (λ a. AreEnough a c.args.blocks.now) =
          subst (λ serving. IfSome serving (λ a. AreEnough a c.args.blocks.now)) c.in-Some.is
          (subst (λ (h : QueueHistory). IfSome h.serving (λ a. AreEnough a c.args.blocks.now)) (sym c.self.view_is) c.requires.enough) in
          let gathered : IfSome (Some asked) (λ a. AreGathered (memory_of q.lent) q.slots.now a c.args.blocks.now) =
          subst (λ serving. IfSome serving (λ a. AreGathered (memory_of q.lent) q.slots.now a c.args.blocks.now)) c.in-Some.is
          (subst (λ (h : QueueHistory). IfSome h.serving (λ a. AreGathered (memory_of h.lent) h.slots a c.args.blocks.now)) (sym c.self.view_is)
          c.requires.gathered) in (
            goes.kept old.0,
            subst (λ (blocks : List Sector). KeepsServed now.limits start now.card q.calls.past q.replies (memory_of q.lent) q.slots.now q.next
                asked q.opened (to_z w32 (of_z w32 call.result)) blocks) (sym moved.same)
                (subst (λ (n : ℤ). KeepsServed now.limits start now.card q.calls.past q.replies (memory_of q.lent) q.slots.now q.next
                asked q.opened n call.new.blocks) (sym number)
                (serves c.blocks_at_their_places_are_a_groups.ensures c.an_end_agrees.ensures now.limits start was.card now.card q.calls.past
                q.replies (memory_of q.lent) q.slots.now q.next asked q.opened c.args.blocks.now call.new.blocks call.result k
                (are_sectors c.args.blocks.now c.seen-before.ensures.whole)
                (are_sectors call.new.blocks moved.whole) call.ensures.length enough gathered
                (carried_by goes old.0) (goes.left old.0))),
          )),
      c.self.invariant.2,
    )
