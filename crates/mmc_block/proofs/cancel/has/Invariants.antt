-- Who has the ticket is still to come.
use Rattle.std.proofs.Common.{drop}
use Rattle.mmc_block.specs.Entries.{waits_of}
use Rattle.mmc_block.specs.Machine.{IsTicketOf}
use Rattle.mmc_block.proofs.cancel.has.Given as goal

abbrev pub invariant-loop-member : goal.invariant-loop-member
invariant-loop-member l =
    IsTicketOf l.ticket (waits_of l.members.items)
    → IsTicketOf l.ticket (waits_of (drop l.member-index l.members.items))
