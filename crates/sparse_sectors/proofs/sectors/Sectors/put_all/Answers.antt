use Rattle.std.proofs.Common.{◌<◌, ◌∙◌, ◌≡◌, ap, arith, length, sym, take}
use Rattle.std.proofs.lemmas.List.{length-take-le, take_more}
use Rattle.sparse_sectors.specs.SectorLists.{with_values}
use Rattle.sparse_sectors.proofs.ValueLemmas.{values_more}
use Rattle.sparse_sectors.proofs.sectors.Sectors.put_all.Goals as goal

pub loop-i-preserved : goal.loop-i-preserved
loop-i-preserved c =
    let old = c.args.self.now in
    let sectors = c.args.sectors.now in
    let i = c.loop-i.i in
    let below : i < length sectors = omega arith in
    let len : i ≡ length (take i sectors) = omega (arith, length-take-le i sectors (omega arith)) in
    (rw c.loop-i.invariant at c.put.ensures)
    ∙ values_more old (take i sectors) c.args.first i _ len (omega (arith, below, c.requires))
    ∙ ap (with_values old c.args.first) (sym (take_more sectors i _ below))
