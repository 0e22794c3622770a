use Rattle.std.proofs.Common.{◌+◌, ◌-◌, ◌<◌, ◌∙◌, ◌≡◌, ◌≤◌, ap, arith, length, sym}
use Rattle.std.proofs.lemmas.List.{length-append, length-replicate}
use Rattle.std.specs.Prelude.{replicate, slice_set}
use Rattle.sparse_sectors.proofs.ChunkLemmas.{filled_blank, filled_more, filled_set}
use Rattle.sparse_sectors.specs.Chunks.{filled}
use Rattle.sparse_sectors.proofs.chunk.Chunk.fill.Goals as goal

pub returns-then-i-len : goal.returns-then-i-len
returns-then-i-len c =
    let front = c.self.inside.front in
    let byte = c.args.byte in
    let long : length c.index_mut.result.now ≡ 512 = omega arith in
    let all : c.fill.new.self ≡ replicate 512 byte = c.fill.ensures.after (λ y is. is) ∙ ap (λ n. replicate n byte) long in
    let there : c.args.i < length front.items = omega (arith, c.len.ensures, c.if-i-len.true, front.ok.0) in
    rw all (filled_set c.self.inside.blank (replicate 512 byte) front.items c.args.i there
    ∙ ap (λ xs. slice_set xs c.args.i (replicate 512 byte)) c.self.view_is)

pub returns-then-byte-self : goal.returns-then-byte-self
returns-then-byte-self c =
    let front = c.self.inside.front in
    let blank = c.self.inside.blank in
    let same : replicate 512 c.args.byte ≡ blank = ap (λ b. replicate 512 b) c.if-byte-self.true ∙ sym c.self.invariant.2 in
    rw c.self.view_is at
    (filled_blank blank (replicate 512 c.args.byte) front.items c.args.i (omega (arith, c.len.ensures, c.if-i-len.false, front.ok.0)) c.requires same)

pub returns : goal.returns
returns c =
    let front = c.self.inside.front in
    let blank = c.self.inside.blank in
    let byte = c.args.byte in
    let long : length c.index_mut-2.result.now ≡ 512 = omega arith in
    let all : c.fill-2.new.self ≡ replicate 512 byte = c.fill-2.ensures.after (λ y is. is) ∙ ap (λ n. replicate n byte) long in
    let after : length front.items ≤ c.args.i = omega (arith, c.len.ensures, c.if-i-len.false, front.ok.0) in
    let more = length-append front.items (replicate (c.args.i + 1 - length front.items) blank) in
    let there : c.args.i < length c.grow.new.front.items =
    rw c.grow.ensures.grown (omega (arith, after, more, length-replicate (c.args.i + 1 - length front.items) blank)) in
    rw all (filled_set blank (replicate 512 byte) c.grow.new.front.items c.args.i there
    ∙ ap (λ xs. slice_set (filled blank xs) c.args.i (replicate 512 byte)) c.grow.ensures.grown
    ∙ ap (λ xs. slice_set xs c.args.i (replicate 512 byte))
    (filled_more blank front.items (c.args.i + 1) (omega (arith, after)) (omega (arith, c.requires)) ∙ c.self.view_is))
