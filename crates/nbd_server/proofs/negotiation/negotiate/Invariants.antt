use Rattle.std.specs.Io.Buffered.{reader_remaining}
use Rattle.nbd_server.specs.Session.{Grows, Shrinks}
use Rattle.nbd_server.proofs.negotiation.negotiate.Given as goal

abbrev pub invariant-loop : goal.invariant-loop
invariant-loop g l = record {
  written : Grows (g.W.Write.contents l.fn.out) (g.W.Write.contents l.out);
  read : Shrinks (reader_remaining g.R.Read.remaining l.fn.input) (reader_remaining g.R.Read.remaining l.input);
}
