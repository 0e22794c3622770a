use Rattle.std.proofs.Common.{◌∙◌, ◌≡◌, arith, subst, sym}
use Rattle.std.specs.Prelude.{IsTrue, Ok}
use Rattle.mmc_transfer.specs.First.{judged}
use Rattle.mmc_transfer.specs.Fits.{phase_fits}
use Rattle.mmc_transfer.specs.declared.phase.Phase.{Phase}
use Rattle.mmc_transfer.proofs.FirstLemmas.{judged_few}
use Rattle.mmc_transfer.proofs.WriteFirstLemmas.{all_cost, all_left, after_write_command_fits, after_write_command_left, first_caused, first_costs}
use Rattle.mmc_transfer.proofs.WriteFirstLemmas.{first_fails, first_goes_on, first_kept}
use Rattle.mmc_transfer.proofs.moves.give_first.Goals as goal

pub returns-in-Ok-clause-turned : goal.returns-in-Ok-clause-turned
returns-in-Ok-clause-turned g c kept faults at =
    let s = c.start_writing-started.ensures.started in
    first_goes_on c.args.job.now (g.D.Blocks.blocks c.args.blocks.now) c.requires.way c.requires.count s.between
    c.kind.result c.address.result (g.B.Bus.view c.args.bus.now) c.kind.ensures c.address.ensures faults at
    c.start_writing-started.result.0 _ _ s.written kept (λ was. rw c.requires.way (s.works was))
    (rw c.requires.way s.answered) c.in-Ok.good
    (sym c.judge.ensures ∙ c.in-Ok.is) c.after_write_command.result c.after_write_command.ensures

pub returns-in-Err-clause-turned : goal.returns-in-Err-clause-turned
returns-in-Err-clause-turned g c kept faults at =
    let s = c.start_writing-started.ensures.started in
    first_fails c.args.job.now (g.D.Blocks.blocks c.args.blocks.now) c.requires.way c.requires.count s.between
    c.kind.result c.address.result (g.B.Bus.view c.args.bus.now) c.kind.ensures c.address.ensures faults at
    c.start_writing-started.result.0 _ _ s.written kept (λ was. rw c.requires.way (s.works was))
    (rw c.requires.way s.answered) c.in-Err.cause
    (sym c.judge.ensures ∙ c.in-Err.is)

pub returns-in-Ok-clause-kept : goal.returns-in-Ok-clause-kept
returns-in-Ok-clause-kept g c kept =
    let s = c.start_writing-started.ensures.started in
    s.kept (first_kept c.args.job.now (g.D.Blocks.blocks c.args.blocks.now) c.requires.way c.requires.count s.between
    _ _ s.written kept)

pub returns-in-Err-clause-kept : goal.returns-in-Err-clause-kept
returns-in-Err-clause-kept g c kept =
    let s = c.start_writing-started.ensures.started in
    s.kept (first_kept c.args.job.now (g.D.Blocks.blocks c.args.blocks.now) c.requires.way c.requires.count s.between
    _ _ s.written kept)

pub returns-in-Ok-clause-costs : goal.returns-in-Ok-clause-costs
returns-in-Ok-clause-costs g c =
    let s = c.start_writing-started.ensures.started in
    let moved = c.start_writing-started.result.1 in
    let told : judged c.start_writing-started.result.0 moved ≡ Ok c.in-Ok.good = sym c.judge.ensures ∙ c.in-Ok.is in
    let cost = all_cost c.args.job.now (g.D.Blocks.blocks c.args.blocks.now) c.requires.way c.requires.count s.between
    c.start_writing-started.result.0 moved _ s.written c.in-Ok.good told in
    let first = s.ends.0 in
    let count = c.requires.count in
    let few = judged_few c.start_writing-started.result.0 moved _ c.in-Ok.good c.start_writing-started.ensures.few told in
    let n = cost.0 in
    let m = cost.1 in
    rw c.after_write_command.ensures
    ((after_write_command_left c.args.job.now c.in-Ok.good (g.B.Bus.view c.args.bus.now).exchanges
    (g.B.Bus.view c.start_writing-started.new.bus).exchanges (omega (arith, few, count))
    (omega (arith, n, first), λ some. let l = m (omega (arith, some)) in omega (arith, l, first))).0)

pub returns-in-Ok-clause-lowers : goal.returns-in-Ok-clause-lowers
returns-in-Ok-clause-lowers g c =
    let s = c.start_writing-started.ensures.started in
    let moved = c.start_writing-started.result.1 in
    let told : judged c.start_writing-started.result.0 moved ≡ Ok c.in-Ok.good = sym c.judge.ensures ∙ c.in-Ok.is in
    let count = c.requires.count in
    let few = judged_few c.start_writing-started.result.0 moved _ c.in-Ok.good c.start_writing-started.ensures.few told in
    rw c.after_write_command.ensures
    ((after_write_command_left c.args.job.now c.in-Ok.good 0 0 (omega (arith, few, count))
    (omega arith, λ some. omega (arith, some))).1)

pub returns-in-Ok-clause-fits : goal.returns-in-Ok-clause-fits
returns-in-Ok-clause-fits g c =
    let moved = c.start_writing-started.result.1 in
    let told : judged c.start_writing-started.result.0 moved ≡ Ok c.in-Ok.good = sym c.judge.ensures ∙ c.in-Ok.is in
    let count = c.requires.count in
    let few = judged_few c.start_writing-started.result.0 moved _ c.in-Ok.good c.start_writing-started.ensures.few told in
    subst (λ (p : Phase). IsTrue (phase_fits c.args.job.now.count c.args.job.now.session.info.cmd23 p))
    (sym c.after_write_command.ensures) (after_write_command_fits c.args.job.now c.in-Ok.good (omega (arith, few, count)))

pub returns-in-Err-clause-costs : goal.returns-in-Err-clause-costs
returns-in-Err-clause-costs g c =
    let s = c.start_writing-started.ensures.started in
    let cost = first_costs c.args.job.now (g.D.Blocks.blocks c.args.blocks.now) c.requires.way c.requires.count s.between
    _ _ s.written in
    let first = s.ends.0 in
    let left = all_left c.args.job.now in
    omega (arith, cost, first, left)

pub returns-in-Err-clause-cause : goal.returns-in-Err-clause-cause
returns-in-Err-clause-cause g c =
    let s = c.start_writing-started.ensures.started in
    first_caused c.args.job.now (g.D.Blocks.blocks c.args.blocks.now) c.requires.way c.requires.count s.between
    c.start_writing-started.result.0 _ _ s.written s.ends.1 c.in-Err.cause
    (sym c.judge.ensures ∙ c.in-Err.is)
