use Rattle.std.proofs.Common.{List, ◌+◌, ◌≡◌, length, ℕ}
use Rattle.nbd_server.specs.Messages.{Reads}
use Rattle.nbd_server.proofs.input.skip.Given as goal

abbrev pub invariant-loop-left : goal.invariant-loop-left
invariant-loop-left g l = record {
  taken : List ℕ;
  full : length l.chunk ≡ 4096;
  many : length taken + l.left ≡ l.fn.count;
  read : Reads g.R.Read.remaining l.fn.input l.input taken;
}

abbrev pub decreases-loop-left : goal.decreases-loop-left
decreases-loop-left g l = l.left
