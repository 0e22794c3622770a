use Rattle.std.proofs.Common.{◌∙◌, ap, sym}
use Rattle.mmc_bus.specs.Lending.{nothing}
use Rattle.mmc_transfer.proofs.LendingLemmas.{rewritten_then}
use Rattle.mmc_transfer.proofs.WholeLemmas.{along_first, along_next, run_done, run_failed, same_change}
use Rattle.mmc_transfer.specs.declared.job.Job.{Job}
use Rattle.mmc_switch.specs.UnderWay.{broken_off}
use Rattle.mmc_transfer.proofs.whole.read_run.Goals as goal

pub loop-run-init : goal.loop-run-init
loop-run-init g c = (
  along_first c.begin-run.result c.args.session (g.D.Blocks.blocks c.args.blocks.now) (g.B.Bus.view c.args.bus.now)
      c.begin-run.ensures.session (sym (c.begin-run.ensures.count ∙ c.len.ensures)) c.begin-run.ensures.running,
  nothing,
)

pub read_on-requires-clause-count : goal.read_on-requires-clause-count
read_on-requires-clause-count g c =
    let i = c.loop-run.invariant.0 in i.count ∙ ap (λ (j : Job). j.count) (sym i.job)

pub loop-run-preserved : goal.loop-run-preserved
loop-run-preserved g c =
    let e = c.in-GoesOn.ensures in
    let was = g.D.Blocks.blocks c.loop-run.blocks in
    let blocks = g.D.Blocks.blocks c.read_on.new.blocks in (
      along_next c.begin-run.result c.loop-run.run c.read_on.new.self was blocks _ _ _
          (same_change c.begin-run.result.job was blocks c.begin-run.ensures.way) e.count c.loop-run.invariant.0
          e.nears e.kept e.same e.turned,
      rewritten_then c.args.blocks.now c.loop-run.blocks c.read_on.new.blocks c.loop-run.invariant.1 e.lent,
    )

pub returns-in-Done-clause-count : goal.returns-in-Done-clause-count
returns-in-Done-clause-count g c =
    c.in-Done.ensures.count ∙ c.loop-run.invariant.0.count ∙ c.begin-run.ensures.count ∙ c.len.ensures

pub returns-in-Done-clause-run : goal.returns-in-Done-clause-run
returns-in-Done-clause-run g c kept ready =
    let b = c.begin-run.ensures in
    let e = c.in-Done.ensures in
    let was = g.D.Blocks.blocks c.loop-run.blocks in
    let blocks = g.D.Blocks.blocks c.read_on.new.blocks in
    rw c.into_session.ensures (run_done c.begin-run.result c.loop-run.run was blocks _ _ _ c.args.session c.args.start _
    (same_change c.begin-run.result.job was blocks b.way) b.session b.start b.way c.loop-run.invariant.0 (e.kept kept)
    ready c.read_on.new.self.job.session c.a_card_at_rest_holds_what_it_stores.ensures (e.count ∙ c.loop-run.invariant.0.count) e.same
    (e.turned kept))

pub returns-in-Failed-clause-count : goal.returns-in-Failed-clause-count
returns-in-Failed-clause-count g c =
    c.in-Failed.ensures.count ∙ c.loop-run.invariant.0.count ∙ c.begin-run.ensures.count ∙ c.len.ensures

pub returns-in-Failed-clause-run : goal.returns-in-Failed-clause-run
returns-in-Failed-clause-run g c kept ready =
    let b = c.begin-run.ensures in
    let e = c.in-Failed.ensures in
    let was = g.D.Blocks.blocks c.loop-run.blocks in
    let blocks = g.D.Blocks.blocks c.read_on.new.blocks in
    rw (c.break_off.ensures, c.into_session-in-Failed.ensures) (run_failed c.begin-run.result c.loop-run.run was blocks _ _ _ c.args.session c.args.start _
    (same_change c.begin-run.result.job was blocks b.way) b.session b.start b.way c.loop-run.invariant.0 (e.kept kept)
    ready (broken_off c.read_on.new.self.job.session c.in-Failed.cause) (e.turned kept))

pub returns-in-Done-clause-lent : goal.returns-in-Done-clause-lent
returns-in-Done-clause-lent g c =
    rewritten_then c.args.blocks.now c.loop-run.blocks c.read_on.new.blocks c.loop-run.invariant.1 c.in-Done.ensures.lent

pub returns-in-Failed-clause-lent : goal.returns-in-Failed-clause-lent
returns-in-Failed-clause-lent g c =
    rewritten_then c.args.blocks.now c.loop-run.blocks c.read_on.new.blocks c.loop-run.invariant.1
    c.in-Failed.ensures.lent
