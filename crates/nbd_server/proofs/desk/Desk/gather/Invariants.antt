use Rattle.std.proofs.Common.{length, ◌+◌, ◌≤◌, List}
use Rattle.mmc_block.specs.Device.{unanswered_of, work_of}
use Rattle.nbd_server.specs.Acts.{Act, AreOfParts}
use Rattle.nbd_server.specs.Desk.{Leads}
use Rattle.nbd_server.specs.Parts.{AreGathered}
use Rattle.mmc_queue.specs.declared.queue.TheConstants.{MAX_WAITING}
use Rattle.nbd_server.proofs.desk.Desk.gather.Given as goal

abbrev pub invariant-loop-self : goal.invariant-loop-self
invariant-loop-self g l = record {
  acts : List Act;
  of_parts : AreOfParts acts;
  leads : Leads g.B.Bus.view l.fn.self acts l.self;
  all : AreGathered acts l.all.items;
  room : length l.all.items + unanswered_of l.self.device ≤ MAX_WAITING;
}

abbrev pub decreases-loop-self : goal.decreases-loop-self
decreases-loop-self g l = work_of l.self.device
