use Rattle.std.proofs.Common.{◌<◌, ◌∙◌, ap, arith, sym}
use Rattle.std.proofs.lemmas.List.{length-replicate}
use Rattle.std.specs.Prelude.{replicate}
use Rattle.sparse_sectors.specs.SectorLists.{with_values}
use Rattle.sparse_sectors.proofs.ValueLemmas.{replicate_more, values_more}
use Rattle.sparse_sectors.proofs.sectors.Sectors.fill.Goals as goal

pub loop-i-preserved : goal.loop-i-preserved
loop-i-preserved c =
    let old = c.args.self.now in
    let blank = replicate 512 c.args.erased in
    let i = c.loop-i.i in
    let below : i < c.args.count = omega arith in
    (rw c.loop-i.invariant at c.fill_one.ensures)
    ∙ values_more old (replicate i blank) c.args.first i blank (sym (length-replicate i blank)) (omega (arith, below, c.requires))
    ∙ ap (with_values old c.args.first) (replicate_more i blank)
