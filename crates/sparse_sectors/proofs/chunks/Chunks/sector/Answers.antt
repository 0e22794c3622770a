use Rattle.std.proofs.Common.{[], ap, arith, length, sym, ◌%◌, ◌*◌, ◌+◌, ◌/◌, ◌<◌, ◌∙◌, ◌≡◌}
use Rattle.std.proofs.lemmas.List.{get_or-take, get_or_read, length-take}
use Rattle.std.specs.Prelude.{slice_index_or}
use Rattle.sparse_sectors.specs.Chunks.{joined}
use Rattle.sparse_sectors.proofs.ChunkLemmas.{joined_at}
use Rattle.sparse_sectors.proofs.chunks.Chunks.sector.Goals as goal

pub returns : goal.returns
returns c =
    let chunks = c.self.inside.chunks.items in
    let count = c.self.inside.count in
    let q = c.args.i / 2048 in
    let r = c.args.i % 2048 in
    let at : 2048 * q + r ≡ c.args.i = omega arith in
    let below : c.args.i < count = omega (arith, ap length c.self.view_is, length-take count (joined chunks), c.requires) in
    let there : q < length chunks = omega (arith, below, c.self.invariant.1) in
    let one : c.index.result.now ≡ slice_index_or chunks q [] =
    get_or_read chunks q c.index.result.now there c.index.ensures [] in
    c.sector.ensures ∙ ap (λ xs. slice_index_or xs r []) one ∙ sym (joined_at chunks q r c.self.invariant.0 (omega arith))
    ∙ ap (λ n. slice_index_or (joined chunks) n []) at ∙ sym (get_or-take count (joined chunks) c.args.i [] below)
    ∙ ap (λ xs. slice_index_or xs c.args.i []) c.self.view_is
