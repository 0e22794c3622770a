use Rattle.std.proofs.Common.{◌+◌, ◌≡◌, ap, arith, length, suc}
use Rattle.std.specs.Prelude.{◌-◌}
use Rattle.mmc_queue.specs.Lent.{block_of, blocks_from, entry_at, held_by}
use Rattle.mmc_queue.specs.LentLaws.{first_block}
use Rattle.mmc_queue.proofs.LentLemmas.{at_the_end, no_more, one_more}
use Rattle.mmc_queue.proofs.group.Group.count_held.Goals as goal

pub loop-sector-preserved : goal.loop-sector-preserved
loop-sector-preserved c =
    let held = c.args.held in
    let es = c.args.self.now.members.items in
    let s = c.loop-sector.sector in
    let e = entry_at es c.in-Some.field-0 in
    let t = c.loop-sector-test.true in
    let at = c.loop-sector.invariant.0 in
    let so = c.loop-sector.invariant.1 in
    let more = one_more held es s c.args.self.now.extent.end (block_of e (held_by held e) s) t (first_block held es s c.in-Some.field-0 c.in-Some.ensures) in
    let next : suc s ≡ s + 1 = omega arith in
    let end = c.args.self.now.extent.end in
    let same = ap (λ m. length (blocks_from (held_by held) es m (end - m))) next in
    (omega (arith, at), omega (arith, so, more, same))

pub returns-in_default : goal.returns-in_default
returns-in_default c =
    let none = no_more c.args.held c.args.self.now.members.items c.loop-sector.sector c.args.self.now.extent.end c.loop-sector-test.true c.in_default.ensures in
    let so = c.loop-sector.invariant.1 in omega (arith, so, none)

pub returns : goal.returns
returns c =
    let end = at_the_end c.args.held c.args.self.now.members.items c.loop-sector.sector c.args.self.now.extent.end c.loop-sector-test.false in
    let so = c.loop-sector.invariant.1 in omega (arith, so, end)
