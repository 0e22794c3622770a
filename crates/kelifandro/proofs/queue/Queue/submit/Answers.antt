use Rattle.std.proofs.Common.{◌+◌, ◌++◌, ◌∙◌, ◌∷◌, [], List, ap, length, subst, sym, ℕ}
use Rattle.std.specs.Prelude.{Ok}
use Rattle.std.proofs.lemmas.List.{length-append}
use Rattle.mmc_block.specs.Clients.{Told}
use Rattle.mmc_block.specs.Clients.Told.{Submitted}
use Rattle.mmc_slots.specs.Slots.{request_by}
use Rattle.mmc_switch.specs.Stands.{info_of}
use Rattle.kelifandro.specs.Done.{done_of, host_after, nothing_done, stories_of}
use Rattle.kelifandro.specs.History.{joined}
use Rattle.kelifandro.specs.QueueState.{KeepsQueue}
use Rattle.kelifandro.specs.Queues.{memory_of}
use Rattle.kelifandro.proofs.QueueLemmas.{accepts, not_err, not_ok, on_err, on_ok}
use Rattle.kelifandro.proofs.QueueNumbers.{same_some}
use Rattle.kelifandro.proofs.queue.Queue.submit.Goals as goal

pub invariant_of-self-2 : goal.invariant_of-self-2
invariant_of-self-2 g c =
    let q = c.self.inside in
    let stories = stories_of g.S.HasStory.story g.S.HasRegisterStory.story in
    let after = host_after stories q.way (done_of q.did) in
    let call = c.submit-submitted in
    let bytes : List ℕ = joined c.args.blocks.now in
    let ok = not_err call.result (sym c.is_err.ensures.value ∙ c.if-is_err.false) in
    let more = on_ok call.result ok call.ensures.next in
    let asked = c.args.asked.now in
    let told : Told = Submitted c.args.client (request_by asked.kind asked.part asked.start asked.count bytes) (Ok q.next) in
    let long = c.self.invariant.2 in
    let last = length-append q.lent (bytes ∷ []) in
    let lent = c.of-self-inside-2.ensures in (
      c.self.invariant.0,
      (λ is.
          let k = c.self.invariant.1 is in (
            k.0,
            subst (λ memory. KeepsQueue after.limits (host_after stories q.way nothing_done).card after.card q.calls.past
                c.of-self-inside.result (memory_of memory) call.new.slots call.new.next q.serving q.opened) (sym lent)
                (subst (λ replies. KeepsQueue after.limits (host_after stories q.way nothing_done).card after.card q.calls.past
                replies (memory_of (q.lent ++ bytes ∷ [])) call.new.slots call.new.next q.serving q.opened) (sym c.of-self-inside.ensures)
                (accepts c.a_submission_agrees.ensures c.those_in_service_stay.ensures after.limits
                (host_after stories q.way nothing_done).card after.card q.calls.past q.replies q.lent q.slots.now call.new.slots q.next
                call.new.next q.serving q.opened bytes c.args.client asked c.info.result.now long more k.1
                (c.info.ensures ∙ ap info_of (same_some c.stands_by.result c.in-Some.stands k.1.how c.in-Some.is (c.stands_by.ensures.noted k.1.how k.1.says)))
                c.requires.fits (on_ok call.result ok call.ensures.accepted) (on_ok call.result ok call.ensures.waits) call.ensures.others
                call.ensures.ordered)),
          )),
      ap (λ (lists : List (List ℕ)). length lists) lent ∙ last ∙ ap (λ n. n + 1) long ∙ sym more,
    )

pub invariant_of-self : goal.invariant_of-self
invariant_of-self g c =
    let q = c.self.inside in
    let stories = stories_of g.S.HasStory.story g.S.HasRegisterStory.story in
    let after = host_after stories q.way (done_of q.did) in
    let call = c.submit-submitted in
    let not = not_ok call.result (sym c.is_err.ensures.value ∙ c.if-is_err.true) in
    let slots = on_err call.result not call.ensures.unchanged in
    let next = on_err call.result not call.ensures.unused in (
      c.self.invariant.0,
      (λ is.
          let k = c.self.invariant.1 is in (
            k.0,
            subst (λ n. KeepsQueue after.limits (host_after stories q.way nothing_done).card after.card q.calls.past q.replies
                (memory_of q.lent) call.new.slots n q.serving q.opened) (sym next)
                (subst (λ ss. KeepsQueue after.limits (host_after stories q.way nothing_done).card after.card q.calls.past q.replies
                (memory_of q.lent) ss q.next q.serving q.opened) (sym slots) k.1),
          )),
      c.self.invariant.2 ∙ sym next,
    )
