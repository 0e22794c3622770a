use Rattle.std.proofs.Common.{◌∙◌, ◌≤◌, ap, arith, length, sym}
use Rattle.std.proofs.lemmas.List.{length-take-le}
use Rattle.sparse_sectors.specs.Chunks.{joined}
use Rattle.sparse_sectors.proofs.ChunkLemmas.{length_joined}
use Rattle.sparse_sectors.proofs.chunks.Chunks.len.Goals as goal

pub returns-clause-len : goal.returns-clause-len
returns-clause-len c =
    let chunks = c.self.inside.chunks.items in
    let count = c.self.inside.count in
    let some : count ≤ length (joined chunks) = omega (arith, length_joined chunks c.self.invariant.0, c.self.invariant.1) in
    sym (length-take-le count (joined chunks) some) ∙ ap length c.self.view_is
