use Rattle.std.proofs.Common.{◌∙◌, ◌≡◌, arith, sym}
use Rattle.std.specs.Prelude.{Ok}
use Rattle.mmc_transfer.specs.First.{judged}
use Rattle.mmc_transfer.proofs.FirstLemmas.{all_cost, first_caused, first_costs, first_fails, first_goes_on, first_kept}
use Rattle.mmc_transfer.proofs.FirstLemmas.{judged_few, after_read_left, some_left}
use Rattle.mmc_transfer.proofs.moves.take_first.Goals as goal

pub returns-in-Ok-clause-turned : goal.returns-in-Ok-clause-turned
returns-in-Ok-clause-turned g c kept faults at =
    let s = c.start_reading-started.ensures.started in
    first_goes_on g.D.Blocks.blocks g.D.BlocksMut.with g.met.D.BlocksMut.writes_one c.args.job.now c.requires.way
    c.args.blocks.now c.requires.count s.between c.kind.result c.address.result (g.B.Bus.view c.args.bus.now)
    c.kind.ensures c.address.ensures faults at c.start_reading-started.result.0 _ _ _ s.read kept
    (λ was. rw c.requires.way (s.works was)) c.in-Ok.good
    (sym c.judge.ensures ∙ c.in-Ok.is) c.after_read.result c.after_read.ensures

pub returns-in-Err-clause-turned : goal.returns-in-Err-clause-turned
returns-in-Err-clause-turned g c kept faults at =
    let s = c.start_reading-started.ensures.started in
    first_fails g.D.Blocks.blocks g.D.BlocksMut.with g.met.D.BlocksMut.writes_one c.args.job.now c.requires.way
    c.args.blocks.now c.requires.count s.between c.kind.result c.address.result (g.B.Bus.view c.args.bus.now)
    c.kind.ensures c.address.ensures faults at c.start_reading-started.result.0 _ _ _ s.read kept
    (λ was. rw c.requires.way (s.works was)) c.in-Err.cause
    (sym c.judge.ensures ∙ c.in-Err.is)

pub returns-in-Ok-clause-kept : goal.returns-in-Ok-clause-kept
returns-in-Ok-clause-kept g c kept =
    let s = c.start_reading-started.ensures.started in
    s.kept (first_kept g.D.Blocks.blocks g.D.BlocksMut.with g.met.D.BlocksMut.writes_one c.args.job.now c.requires.way
    c.args.blocks.now c.requires.count s.between _ _ _ s.read kept)

pub returns-in-Err-clause-kept : goal.returns-in-Err-clause-kept
returns-in-Err-clause-kept g c kept =
    let s = c.start_reading-started.ensures.started in
    s.kept (first_kept g.D.Blocks.blocks g.D.BlocksMut.with g.met.D.BlocksMut.writes_one c.args.job.now c.requires.way
    c.args.blocks.now c.requires.count s.between _ _ _ s.read kept)

pub returns-in-Ok-clause-costs : goal.returns-in-Ok-clause-costs
returns-in-Ok-clause-costs g c =
    let s = c.start_reading-started.ensures.started in
    let moved = c.start_reading-started.result.1 in
    let told : judged c.start_reading-started.result.0 moved ≡ Ok c.in-Ok.good = sym c.judge.ensures ∙ c.in-Ok.is in
    let cost = all_cost g.D.Blocks.blocks g.D.BlocksMut.with g.met.D.BlocksMut.writes_one c.args.job.now c.requires.way
    c.args.blocks.now c.requires.count s.between c.start_reading-started.result.0 moved _ _ s.read c.in-Ok.good told in
    let first = s.ends.0 in
    let count = c.requires.count in
    let few = judged_few c.start_reading-started.result.0 moved _ c.in-Ok.good c.start_reading-started.ensures.few told in
    rw c.after_read.ensures (let left = after_read_left c.args.job.now c.in-Ok.good (omega (arith, few, count)) in
    omega (arith, cost, first, left))

pub returns-in-Err-clause-costs : goal.returns-in-Err-clause-costs
returns-in-Err-clause-costs g c =
    let s = c.start_reading-started.ensures.started in
    let cost = first_costs g.D.Blocks.blocks g.D.BlocksMut.with g.met.D.BlocksMut.writes_one c.args.job.now c.requires.way
    c.args.blocks.now c.requires.count s.between _ _ _ s.read in
    let first = s.ends.0 in
    let left = some_left c.args.job.now in
    omega (arith, cost, first, left)

pub returns-in-Err-clause-cause : goal.returns-in-Err-clause-cause
returns-in-Err-clause-cause g c =
    let s = c.start_reading-started.ensures.started in
    first_caused g.D.Blocks.blocks g.D.BlocksMut.with g.met.D.BlocksMut.writes_one c.args.job.now c.requires.way
    c.args.blocks.now c.requires.count s.between c.start_reading-started.result.0 _ _ _ s.read s.ends.1 c.in-Err.cause
    (sym c.judge.ensures ∙ c.in-Err.is)
