use Rattle.std.proofs.Common.{◌+◌, ◌≡◌, length}
use Rattle.std.specs.Prelude.{◌-◌}
use Rattle.mmc_queue.specs.Lent.{blocks_from, blocks_held, held_by}
use Rattle.mmc_queue.proofs.group.Group.count_held.Given as goal

abbrev pub invariant-loop-sector : goal.invariant-loop-sector
invariant-loop-sector l =
    (l.len + l.self.extent.start ≡ l.sector)
    × (length (blocks_held l.held l.self) ≡ l.len + length (blocks_from (held_by l.held) l.self.members.items l.sector (l.self.extent.end - l.sector)))
