use Rattle.std.proofs.Common.{List, Ok}
use Rattle.mmc_block.specs.Device.{work_of}
use Rattle.nbd_server.specs.Acts.{Act, AreTurns}
use Rattle.nbd_server.specs.Desk.{Does}
use Rattle.nbd_server.specs.declared.fault.OutputFault.{OutputFault}
use Rattle.nbd_server.proofs.desk.Desk.drain.Given as goal

abbrev pub invariant-loop-self : goal.invariant-loop-self
invariant-loop-self g l = record {
  acts : List Act;
  turns : AreTurns acts;
  does : Does {E = OutputFault} g.B.Bus.view l.fn.self l.self (g.W.Write.contents l.fn.out) (g.W.Write.contents l.out) (Ok tt) acts;
}

abbrev pub decreases-loop-self : goal.decreases-loop-self
decreases-loop-self g l = work_of l.self.device
