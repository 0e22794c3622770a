use Rattle.std.proofs.Common.{◌≡◌}
use Rattle.std.specs.Prelude.{replicate}
use Rattle.sparse_sectors.specs.SectorLists.{with_values}
use Rattle.sparse_sectors.proofs.sectors.Sectors.fill.Given as goal

abbrev pub invariant-loop-i : goal.invariant-loop-i
invariant-loop-i l = l.self ≡ with_values l.fn.self l.fn.first (replicate l.i (replicate 512 l.fn.erased))
