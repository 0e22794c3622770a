use Rattle.std.proofs.Common.{◌≡◌, take}
use Rattle.sparse_sectors.specs.SectorLists.{with_values}
use Rattle.sparse_sectors.proofs.sectors.Sectors.put_all.Given as goal

abbrev pub invariant-loop-i : goal.invariant-loop-i
invariant-loop-i l = l.self ≡ with_values l.fn.self l.fn.first (take l.i l.fn.sectors)
