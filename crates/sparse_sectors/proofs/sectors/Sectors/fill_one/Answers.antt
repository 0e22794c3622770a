use Rattle.std.proofs.Common.{◌++◌, ◌<◌, ◌∙◌, ◌≡◌, ◌≤◌, ap, arith, length, sym}
use Rattle.std.proofs.lemmas.List.{length-replicate, set-append_left, set-append_right}
use Rattle.std.specs.Prelude.{replicate, slice_set}
use Rattle.mmc_bus.specs.BlockLaws.{block_left}
use Rattle.mmc_bus.specs.Bytes.{blocks_in}
use Rattle.sparse_sectors.proofs.sectors.Sectors.fill_one.Goals as goal

pub returns : goal.returns
returns c =
    let first = blocks_in c.self.inside.image in
    let sector = replicate 512 c.args.byte in
    let after : c.len-first.result ≤ c.args.i = omega (arith, c.if-i-first.false) in
    let size : length first ≡ c.len-first.result = sym c.len-first.ensures in
    ap (λ xs. first ++ xs) c.fill-2.ensures
    ∙ sym (set-append_right first c.self.inside.rest _ c.args.i sector size after)
    ∙ ap (λ xs. slice_set xs c.args.i sector) c.self.view_is

pub returns-then-i-first : goal.returns-then-i-first
returns-then-i-first c =
    let image = c.self.inside.image in
    let rest = c.self.inside.rest in
    let sector = replicate 512 c.args.byte in
    let below : c.args.i < length (blocks_in image) = omega (arith, c.len-first.ensures, c.if-i-first.true) in
    let long : length c.block_mut.result.now ≡ 512 = omega arith in
    let all : c.fill.new.self ≡ sector = c.fill.ensures.after (λ y is. is) ∙ ap (λ n. replicate n c.args.byte) long in
    rw all
    (ap (λ xs. xs ++ rest) (block_left image c.args.i sector below (length-replicate 512 c.args.byte))
    ∙ sym (set-append_left (blocks_in image) rest c.args.i sector below)
    ∙ ap (λ xs. slice_set xs c.args.i sector) c.self.view_is)
