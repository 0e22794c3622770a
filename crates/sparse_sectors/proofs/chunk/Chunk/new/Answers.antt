use Rattle.std.proofs.Common.{◌++◌, ◌-◌, ap, length}
use Rattle.std.specs.Prelude.{replicate}
use Rattle.sparse_sectors.proofs.chunk.Chunk.new.Goals as goal

pub returns : goal.returns
returns c = ap (λ xs. xs ++ replicate (2048 - length xs) (replicate 512 c.args.erased)) c.in_ok-front.ensures.items
