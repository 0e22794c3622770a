use Rattle.std.proofs.Common.{drop, take, ◌*◌, ◌+◌, ◌≡◌, ℕ}
use Rattle.mmc_queue.specs.declared.request.Request.TheVariants.{Write}
use Rattle.nbd_server.specs.Parts.{bytes_of_part, sectors_of}
use Rattle.nbd_server.proofs.LongLemmas.{Asked}
use Rattle.nbd_server.proofs.long.ask_writes.Given as goal

abbrev pub invariant-loop-number : goal.invariant-loop-number
invariant-loop-number g l = record {
  asked : Asked g.B.Bus.view l.fn.desk l.desk
      (λ (n : ℕ). Write l.part (l.span.start + 16 * n) (sectors_of l.span.count n) (bytes_of_part (take (512 * l.span.count) l.fn.bytes) l.span.count n))
      l.number;
  left : l.bytes ≡ drop (8192 * l.number) l.fn.bytes;
}
