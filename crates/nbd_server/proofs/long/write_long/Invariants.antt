use Rattle.std.proofs.Common.{drop, take, ◌*◌, ℕ, ◌-◌, ◌≡◌, ◌≤◌}
use Rattle.nbd_server.specs.Parts.{IsWritten, Window}
use Rattle.nbd_server.proofs.LongLemmas.{SoFar}
use Rattle.nbd_server.proofs.long.write_long.Given as goal

abbrev pub invariant-loop-done : goal.invariant-loop-done
invariant-loop-done g l = record {
  so_far : SoFar g.B.Bus.view l.fn.desk l.desk (λ (from : ℕ) (w : Window). IsWritten l.part from w.count w.acts w.bytes) l.span.start l.done (take (512 * l.done) l.fn.bytes);
  left : l.bytes ≡ drop (512 * l.done) l.fn.bytes;
  within : l.done ≤ l.span.count;
}

abbrev pub decreases-loop-done : goal.decreases-loop-done
decreases-loop-done g l = l.span.count - l.done
