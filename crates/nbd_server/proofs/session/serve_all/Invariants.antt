use Rattle.std.proofs.Common.{List, Ok, length, ◌≡◌}
use Rattle.std.specs.Io.Buffered.{reader_remaining}
use Rattle.nbd_server.specs.Acts.{Act}
use Rattle.nbd_server.specs.Desk.{Does}
use Rattle.nbd_server.specs.Served.{Served}
use Rattle.nbd_server.specs.Session.{AreTakenUp}
use Rattle.nbd_server.specs.declared.fault.OutputFault.{OutputFault}
use Rattle.nbd_server.proofs.session.serve_all.Given as goal

abbrev pub invariant-loop-served : goal.invariant-loop-served
invariant-loop-served g l = record {
  acts : List Act;
  served : List Served;
  does : Does {E = OutputFault} g.B.Bus.view l.fn.desk l.desk (g.W.Write.contents l.fn.out) (g.W.Write.contents l.out) (Ok tt) acts;
  taken : AreTakenUp l.export (reader_remaining g.R.Read.remaining l.fn.input) (reader_remaining g.R.Read.remaining l.input) acts served;
  count : length served ≡ l._served;
}
