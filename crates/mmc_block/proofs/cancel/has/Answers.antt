use Rattle.std.proofs.Common.{◌+◌, ◌<◌, ◌∙◌, ◌≡◌, ap, arith, length, slice_index_or, suc, sym}
use Rattle.mmc_queue.specs.declared.entry.Entry.{Entry}
use Rattle.mmc_block.proofs.CancelLemmas.{left_after, left_none, ticket_at}
use Rattle.mmc_block.proofs.cancel.has.Goals as goal

pub returns-then-member-ticket-clause-yes : goal.returns-then-member-ticket-clause-yes
returns-then-member-ticket-clause-yes c = λ yes.
    rw (← c.as_slice-member-items.ensures.value)
    (ticket_at c.args.ticket c.as_slice-member-items.result.now c.loop-member.member-index c.member-item.result
    c.loop-member-test.true (ap (λ (e : Entry). e.ticket) (sym c.member-item.is) ∙ c.if-member-ticket.true))

pub loop-member-preserved : goal.loop-member-preserved
loop-member-preserved c = λ has.
    let i = c.loop-member.member-index in
    let next : suc i ≡ i + 1 = omega arith in
    let items = c.as_slice-member-items.result.now in
    let is : items ≡ c.args.members.now.items = c.as_slice-member-items.ensures.value in
    let below : i < length items = c.loop-member-test.true in
    let n : length items ≡ length c.args.members.now.items = ap length is in
    let at = ap (λ es. (slice_index_or es i c.member-item.result).ticket) is in
    rw (← next) (left_after c.args.ticket c.args.members.now.items i c.member-item.result (omega (arith, below, n))
    (λ t. c.if-member-ticket.false (ap (λ (e : Entry). e.ticket) c.member-item.is ∙ at ∙ t))
    (c.loop-member.invariant has))

pub returns-clause-no : goal.returns-clause-no
returns-clause-no c = λ no has.
    let all = c.loop-member-test.false in
    let n = ap length c.as_slice-member-items.ensures.value in
    left_none c.args.ticket c.args.members.now.items c.loop-member.member-index (omega (arith, all, n))
    (c.loop-member.invariant has)
