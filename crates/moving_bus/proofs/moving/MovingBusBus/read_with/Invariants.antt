use Rattle.std.proofs.Common.{◌≡◌, length}
use Rattle.mmc_bus.specs.Together.{AreGood, BlockRead}
use Rattle.moving_bus.proofs.moving.MovingBusBus.read_with.Given as goal

abbrev pub invariant-loop-done : goal.invariant-loop-done
invariant-loop-done g l =
    AreGood BlockRead g.D.Blocks.blocks g.D.BlocksMut.with (g.B.Bus.view l.initial.self.bus) l.initial.blocks l.done
    (g.B.Bus.view l.self.bus) l.blocks
    × (length (g.D.Blocks.blocks l.blocks) ≡ l.count)
