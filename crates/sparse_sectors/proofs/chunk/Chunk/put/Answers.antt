use Rattle.std.proofs.Common.{◌∙◌, ◌≡◌, arith, sym}
use Rattle.std.proofs.lemmas.Slice.Eq.{bytes_eq-Decides}
use Rattle.sparse_sectors.proofs.ChunkLemmas.{filled_blank}
use Rattle.sparse_sectors.proofs.chunk.Chunk.put.Goals as goal

pub returns-then-eq : goal.returns-then-eq
returns-then-eq c =
    let front = c.self.inside.front in
    let blank = c.self.inside.blank in
    let sector = c.args.sector.now in
    let same : sector ≡ blank = (bytes_eq-Decides sector blank).0 (sym c.eq.ensures ∙ c.if-eq.true) in
    rw c.self.view_is at
    (filled_blank blank sector front.items c.args.i (omega (arith, c.len.ensures, c.if-i-len.false, front.ok.0)) c.requires same)
