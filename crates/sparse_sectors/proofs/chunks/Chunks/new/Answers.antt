use Rattle.std.proofs.Common.{◌*◌, ◌∙◌, ◌≡◌, ◌≤◌, ap, arith, length, subst, sym, take, ℕ}
use Rattle.std.proofs.lemmas.Grind.{div_ceil_times}
use Rattle.std.proofs.lemmas.List.{length-replicate, take-replicate}
use Rattle.std.specs.Int.{div_ceil}
use Rattle.std.specs.Prelude.{replicate}
use Rattle.sparse_sectors.specs.Chunks.{AreChunks, joined}
use Rattle.sparse_sectors.proofs.ChunkLemmas.{all_blank, joined_blank}
use Rattle.sparse_sectors.proofs.chunks.Chunks.new.Goals as goal

-- as many chunks as the sectors need
enough : (count made : ℕ) → div_ceil count 2048 ≤ made → count ≤ 2048 * made
enough count made all = let above = (div_ceil_times count 2048 (omega arith)).0 in omega arith

pub invariant_of-result : goal.invariant_of-result
invariant_of-result c =
    let chunk = replicate 2048 (replicate 512 c.args.erased) in
    let made : length c.loop-made.chunks.items ≡ c.loop-made._made =
    ap length c.loop-made.invariant ∙ length-replicate c.loop-made._made chunk in
    let some = enough c.args.count c.loop-made._made (omega (arith, c.div_ceil-needed.ensures, c.loop-made-test.false)) in (
      subst AreChunks (sym c.loop-made.invariant) (all_blank _ _),
      omega (arith, made, some),
      c.requires,
    )

pub returns : goal.returns
returns c =
    let blank = replicate 512 c.args.erased in
    let made = c.loop-made._made in
    let some = enough c.args.count made (omega (arith, c.div_ceil-needed.ensures, c.loop-made-test.false)) in
    ap (λ chunks. take c.args.count (joined chunks)) c.loop-made.invariant
    ∙ ap (take c.args.count) (joined_blank made blank) ∙ take-replicate c.args.count (2048 * made) blank some
