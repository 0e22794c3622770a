use Rattle.std.proofs.Common.{◌++◌, ◌<◌, ◌∙◌, ◌≡◌, ap, rules, subst, sym, w32, ℤ}
use Rattle.std.proofs.lemmas.Int.{to_z-of_z}
use Rattle.std.specs.Prelude.{◌||◌, List, None, length, nat_le}
use Rattle.mmc_block.specs.Clients.{Told}
use Rattle.mmc_slots.specs.Slots.{entries_in}
use Rattle.mmc_slots.specs.declared.slot.Slot.{Slot}
use Rattle.mmc_slots.specs.declared.slot.TheConstants.{TOGETHER}
use Rattle.mmc_slots.specs.Work.{work_left}
use Rattle.kelifandro.specs.Done.{done_of, host_after, nothing_done, stories_of}
use Rattle.kelifandro.specs.QueueState.{KeepsQueue}
use Rattle.kelifandro.specs.Queues.{AreCopied, ServedHistory, answers_by, ended, memory_of, tells_done}
use Rattle.kelifandro.proofs.QueueEndLemmas.{concludes, ends_less}
use Rattle.kelifandro.proofs.queue.Served.conclude.Goals as goal

pub invariant_of-queue : goal.invariant_of-queue
invariant_of-queue g c =
    let q = c.self.inside in
    let stories = stories_of g.S.HasStory.story g.S.HasRegisterStory.story in
    let call = c.conclude-is_answered in
    let now = host_after stories q.way (done_of q.did) in
    let start = (host_after stories q.way nothing_done).card in
    let after = memory_of c.args.after in
    let replies : c.of-replies.result ≡ q.replies ++ ended call.result (answers_by q.number after q.slots.now) =
    c.of-replies.ensures ∙ ap (λ (n : ℤ). q.replies ++ ended call.result (answers_by n after c.of-shown.result)) (to_z-of_z w32 q.number (search rules))
    ∙ ap (λ (slots : List Slot). q.replies ++ ended call.result (answers_by q.number after slots)) c.of-shown.ensures in (
      c.self.invariant.0,
      (λ is.
          let old = c.self.invariant.1 is in
          let copied : AreCopied (memory_of q.lent) after q.slots.now q.asked q.moved =
          subst (λ (h : ServedHistory). AreCopied (memory_of h.lent) after h.slots h.asked h.moved) (sym c.self.view_is) c.requires.copied in (
            old.0,
            subst (λ (all : List Told). KeepsQueue now.limits start now.card q.calls.past all (memory_of q.lent) call.new.slots q.next None
                q.opened) (sym replies)
                (concludes c.blocks_at_their_places_are_a_groups.ensures c.an_end_agrees.ensures c.clients_see_each_step.ensures now.limits
                start now.card q.calls.past q.replies (memory_of q.lent) after q.slots.now call.new.slots q.next q.asked q.opened q.number
                q.moved old.1 copied (call.ensures.ordered q.next) call.result
                (call.ensures.which (memory_of q.lent)
                ∙ ap (λ done. done || nat_le (length (entries_in (memory_of q.lent) TOGETHER q.slots.now)) 1)
                (c.is_done.ensures ∙ ap (λ (n : ℤ). tells_done n) (to_z-of_z w32 q.number (search rules))))
                (λ answered. call.ensures.answered answered (memory_of q.lent)) (λ split. call.ensures.split split (memory_of q.lent))),
          )),
      c.self.invariant.2,
    )

pub returns-clause-less : goal.returns-clause-less
returns-clause-less g c = λ is.
    let q = c.self.inside in
    let k = ((c.self.invariant.1 is).1).keeps in
    let call = c.conclude-is_answered in
    subst (λ (h : ServedHistory). work_left call.new.slots < work_left h.slots) c.self.view_is
    (ends_less (memory_of q.lent) q.slots.now call.new.slots k.serves.0 call.result c.is_done.result k.serves.2 k.agrees.few
    (call.ensures.which (memory_of q.lent)) (call.ensures.less (memory_of q.lent)))
