use Rattle.std.proofs.Common.{◌++◌, ◌<◌, ◌∙◌, ◌≡◌, ◌≤◌, ap, arith, length, sym}
use Rattle.std.proofs.lemmas.List.{set-append_left, set-append_right}
use Rattle.std.specs.Prelude.{slice_set}
use Rattle.mmc_bus.specs.BlockLaws.{block_left}
use Rattle.mmc_bus.specs.Bytes.{blocks_in}
use Rattle.sparse_sectors.proofs.sectors.Sectors.put.Goals as goal

pub returns-then-i-first : goal.returns-then-i-first
returns-then-i-first c =
    let image = c.self.inside.image in
    let rest = c.self.inside.rest in
    let sector = c.args.sector.now in
    let below : c.args.i < length (blocks_in image) = omega (arith, c.len-first.ensures, c.if-i-first.true) in
    rw c.copy_from_slice.ensures.after
    (ap (λ xs. xs ++ rest) (block_left image c.args.i sector below c.told-sector)
    ∙ sym (set-append_left (blocks_in image) rest c.args.i sector below)
    ∙ ap (λ xs. slice_set xs c.args.i sector) c.self.view_is)

pub returns : goal.returns
returns c =
    let first = blocks_in c.self.inside.image in
    let sector = c.args.sector.now in
    let after : c.len-first.result ≤ c.args.i = omega (arith, c.if-i-first.false) in
    let size : length first ≡ c.len-first.result = sym c.len-first.ensures in
    ap (λ xs. first ++ xs) c.put.ensures
    ∙ sym (set-append_right first c.self.inside.rest _ c.args.i sector size after)
    ∙ ap (λ xs. slice_set xs c.args.i sector) c.self.view_is
