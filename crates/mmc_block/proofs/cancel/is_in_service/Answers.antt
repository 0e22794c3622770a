use Rattle.mmc_block.specs.Entries.{waits_of}
use Rattle.mmc_block.proofs.CancelLemmas.{ticket-left, ticket-none, ticket-right}
use Rattle.mmc_block.proofs.cancel.is_in_service.Goals as goal

pub returns-then-has-clause-yes : goal.returns-then-has-clause-yes
returns-then-has-clause-yes c = λ yes.
    rw c.in-Serving.is (ticket-left c.args.ticket (waits_of c.args.attempt.now.group.members.items)
    (waits_of c.args.attempt.now.others.items) (c.has.ensures.yes yes))

pub returns-else-has-clause-yes : goal.returns-else-has-clause-yes
returns-else-has-clause-yes c = λ yes.
    rw c.in-Serving.is (ticket-right c.args.ticket (waits_of c.args.attempt.now.group.members.items)
    (waits_of c.args.attempt.now.others.items) (c.has-else-has.ensures.yes yes))

pub returns-else-has-clause-no : goal.returns-else-has-clause-no
returns-else-has-clause-no c = λ no.
    rw c.in-Serving.is (ticket-none c.args.ticket (waits_of c.args.attempt.now.group.members.items)
    (waits_of c.args.attempt.now.others.items) (c.has.ensures.no c.if-has.false) (c.has-else-has.ensures.no no))
