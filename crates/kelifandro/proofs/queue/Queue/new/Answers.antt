use Rattle.std.proofs.Common.{◌∙◌, ap, length, subst, sym, ℕ}
use Rattle.std.specs.Prelude.{[], List, None}
use Rattle.mmc_block.specs.Clients.{Told}
use Rattle.kelifandro.specs.Done.{done_of, host_after, nothing_done, stories_of}
use Rattle.kelifandro.specs.QueueState.{KeepsQueue}
use Rattle.kelifandro.specs.Queues.{memory_of}
use Rattle.kelifandro.proofs.QueueLemmas.{opens_queue}
use Rattle.kelifandro.proofs.queue.Queue.new.Goals as goal

pub invariant_of-result : goal.invariant_of-result
invariant_of-result g c =
    let q = c.card.inside in
    let stories = stories_of g.S.HasStory.story g.S.HasRegisterStory.story in
    let now = host_after stories q.way (done_of q.did) in
    let start = (host_after stories q.way nothing_done).card in
    let open_card = sym c.stands_by.ensures.refused ∙ c.if-is_none.ensures in (
      c.card.invariant.0,
      (λ is.
          let old = c.card.invariant.1 is in (
            old.0,
            subst (λ (lent : List (List ℕ)). KeepsQueue now.limits start now.card q.calls.past c.of-2.result (memory_of lent) c.args.slots.now 0
                None q.card) (sym c.of.ensures)
                (subst (λ (replies : List Told). KeepsQueue now.limits start now.card q.calls.past replies (memory_of []) c.args.slots.now 0 None
                q.card) (sym c.of-2.ensures)
                (opens_queue now start q.calls.past q.card c.args.slots.now (old.0 open_card) old.1 c.requires.free)),
          )),
      ap (λ (lent : List (List ℕ)). length lent) c.of.ensures,
    )
