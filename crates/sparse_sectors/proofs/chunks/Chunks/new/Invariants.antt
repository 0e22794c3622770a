use Rattle.std.proofs.Common.{◌≡◌}
use Rattle.std.specs.Prelude.{replicate}
use Rattle.sparse_sectors.proofs.chunks.Chunks.new.Given as goal

abbrev pub invariant-loop-made : goal.invariant-loop-made
invariant-loop-made l = l.chunks.items ≡ replicate l._made (replicate 2048 (replicate 512 l.fn.erased))
