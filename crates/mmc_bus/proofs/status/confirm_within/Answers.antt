use Rattle.std.proofs.Common.{arith, subst}
use Rattle.std.specs.Prelude.{Ok}
use Rattle.mmc_bus.proofs.ClosingLemmas.{Asks, asked_clean, asked_in_vain, asking_on}
use Rattle.mmc_bus.specs.declared.status.Closing.TheVariants.{Clean}
use Rattle.mmc_bus.proofs.status.confirm_within.Goals as goal

pub returns-in_err-ask_closing-clause-works : goal.returns-in_err-ask_closing-clause-works
returns-in_err-ask_closing-clause-works g c kept =
    let q = c.in_err-ask_closing.ensures.works kept in
    asked_in_vain c.args.kind c.args.rca c.args.most c.in_err-ask_closing.field-0.0 c.from_residual.result
    (g.B.Bus.view c.args.bus.now) c.loop-statuses._statuses (g.B.Bus.view c.loop-statuses.bus)
    (g.B.Bus.view c.ask_closing.new.bus) c.from_residual.ensures.0 (c.loop-statuses.invariant.0 q.was_kept) q

pub returns-in-Clean-clause-works : goal.returns-in-Clean-clause-works
returns-in-Clean-clause-works g c kept =
    let q = c.in_ok-ask_closing.ensures.works kept in
    asked_clean c.args.kind c.args.rca c.args.most (g.B.Bus.view c.args.bus.now) c.loop-statuses._statuses
    (g.B.Bus.view c.loop-statuses.bus) (g.B.Bus.view c.ask_closing.new.bus) (c.loop-statuses.invariant.0 q.was_kept)
    (subst (λ closing. Asks c.args.kind c.args.rca (Ok closing) (g.B.Bus.view c.loop-statuses.bus)
    (g.B.Bus.view c.ask_closing.new.bus)) c.in-Clean.is q)

pub loop-statuses-preserved : goal.loop-statuses-preserved
loop-statuses-preserved g c =
    let done = c.in_ok-ask_closing.ensures in (
      λ kept.
          (let q = done.works kept in
          asking_on c.args.kind c.args.rca (g.B.Bus.view c.args.bus.now) c.loop-statuses._statuses
          (g.B.Bus.view c.loop-statuses.bus) (g.B.Bus.view c.ask_closing.new.bus) (c.loop-statuses.invariant.0 q.was_kept)
          (subst (λ closing. Asks c.args.kind c.args.rca (Ok closing) (g.B.Bus.view c.loop-statuses.bus)
          (g.B.Bus.view c.ask_closing.new.bus)) c.in-AtWork.is q)),
      omega (arith, c.loop-statuses.invariant.1, done.ends.0),
      λ h. done.at_work (cc c.in-AtWork.is),
    )
