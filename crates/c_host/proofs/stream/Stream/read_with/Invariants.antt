use Rattle.std.proofs.Common.{◌-◌, ◌≡◌, ◌≤◌, length}
use Rattle.mmc_bus.specs.Together.{AreGood}
use Rattle.mmc_host.specs.Hosts.{unkept_host}
use Rattle.mmc_host.specs.Together.{HostRead}
use Rattle.c_host.specs.Told.{AreTaken}
use Rattle.c_host.proofs.stream.Stream.read_with.Given as goal

abbrev pub invariant-loop-done : goal.invariant-loop-done
invariant-loop-done g l =
    let places = g.D.Blocks.blocks l.blocks in
    record {
      inside : l.done ≤ l.touched;
      good : AreGood HostRead g.D.Blocks.blocks g.D.BlocksMut.with unkept_host l.initial.blocks l.done unkept_host l.blocks;
      many : length places ≡ l.count;
      taken : AreTaken places l.initial.self.diary.past l.done l.self.diary.past;
      same : l.self.number ≡ l.fn.self.number;
    }

abbrev pub decreases-loop-done : goal.decreases-loop-done
decreases-loop-done g l = l.touched - l.done
