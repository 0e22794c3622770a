use Rattle.std.proofs.Common.{[], ap, arith, length, take, ◌%◌, ◌*◌, ◌+◌, ◌/◌, ◌<◌, ◌∙◌, ◌≡◌}
use Rattle.std.proofs.Math.Seq.{take-set-lt}
use Rattle.std.proofs.lemmas.List.{get_or_read, length-set, length-take}
use Rattle.std.specs.Prelude.{replicate, slice_index_or, slice_set}
use Rattle.sparse_sectors.specs.Chunks.{joined}
use Rattle.sparse_sectors.proofs.ChunkLemmas.{all_set, chunk_at, joined_set}
use Rattle.sparse_sectors.proofs.chunks.Chunks.fill.Goals as goal

pub invariant_of-self : goal.invariant_of-self
invariant_of-self c =
    let chunks = c.self.inside.chunks.items in
    let count = c.self.inside.count in
    let q = c.args.i / 2048 in
    let r = c.args.i % 2048 in
    let below : c.args.i < count = omega (arith, ap length c.self.view_is, length-take count (joined chunks), c.requires) in
    let there : q < length chunks = omega (arith, below, c.self.invariant.1) in
    let one : c.index_mut.result.now ≡ slice_index_or chunks q [] =
    get_or_read chunks q c.index_mut.result.now there c.index_mut.ensures.value [] in (
      all_set chunks q c.fill.new.self c.self.invariant.0
          (ap length c.fill.ensures ∙ length-set c.index_mut.result.now r (replicate 512 c.args.byte) ∙ ap length one
          ∙ chunk_at chunks q c.self.invariant.0 there),
      omega (arith, c.self.invariant.1, length-set chunks q c.fill.new.self),
      c.self.invariant.2,
    )

pub returns : goal.returns
returns c =
    let chunks = c.self.inside.chunks.items in
    let count = c.self.inside.count in
    let q = c.args.i / 2048 in
    let r = c.args.i % 2048 in
    let at : 2048 * q + r ≡ c.args.i = omega arith in
    let below : c.args.i < count = omega (arith, ap length c.self.view_is, length-take count (joined chunks), c.requires) in
    let there : q < length chunks = omega (arith, below, c.self.invariant.1) in
    let one : c.index_mut.result.now ≡ slice_index_or chunks q [] =
    get_or_read chunks q c.index_mut.result.now there c.index_mut.ensures.value [] in
    ap (λ x. take count (joined (slice_set chunks q x))) (c.fill.ensures ∙ ap (λ xs. slice_set xs r (replicate 512 c.args.byte)) one)
    ∙ ap (take count) (joined_set chunks q r (replicate 512 c.args.byte) c.self.invariant.0 (omega arith)
    ∙ ap (λ n. slice_set (joined chunks) n (replicate 512 c.args.byte)) at)
    ∙ take-set-lt count (joined chunks) c.args.i (replicate 512 c.args.byte) below
    ∙ ap (λ xs. slice_set xs c.args.i (replicate 512 c.args.byte)) c.self.view_is
