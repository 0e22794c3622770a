use Rattle.std.proofs.Common.{ℕ, ◌*◌, ◌+◌}
use Rattle.mmc_queue.specs.declared.request.Request.TheVariants.{Read}
use Rattle.nbd_server.specs.Parts.{sectors_of}
use Rattle.nbd_server.proofs.LongLemmas.{Asked}
use Rattle.nbd_server.proofs.long.ask_reads.Given as goal

abbrev pub invariant-loop-number : goal.invariant-loop-number
invariant-loop-number g l = Asked g.B.Bus.view l.fn.desk l.desk
    (λ (n : ℕ). Read l.part (l.span.start + 16 * n) (sectors_of l.span.count n)) l.number
