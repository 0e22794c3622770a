use Rattle.std.proofs.Common.{length, ◌%◌, ◌+◌, ◌<◌, ◌≡◌}
use Rattle.nbd_server.specs.Messages.{Reads}
use Rattle.nbd_server.proofs.input.pieces_of.Given as goal

abbrev pub invariant-loop-left : goal.invariant-loop-left
invariant-loop-left g l = record {
  many : length l.bytes + l.left ≡ l.count;
  whole : 0 < l.left → length l.bytes % 8192 ≡ 0;
  read : Reads g.R.Read.remaining l.fn.input l.input l.bytes;
}

abbrev pub decreases-loop-left : goal.decreases-loop-left
decreases-loop-left g l = l.left
