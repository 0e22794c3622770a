use Rattle.mmc_erase.proofs.StepLemmas.{end_fails, end_goes_on, erase_fails, erase_goes_on, first_fails, first_goes_on}
use Rattle.mmc_erase.proofs.StepLemmas.{in_phase, last_fails, last_goes_on}
use Rattle.mmc_erase.proofs.steps.step.Goals as goal

pub returns-in_err-hold_first-in-First-clause-turned :
    goal.returns-in_err-hold_first-in-First-clause-turned
returns-in_err-hold_first-in-First-clause-turned g c kept faults at =
    first_fails c.args.job.now faults _ _ _ _ c.kind-kind.ensures c.first.ensures
    (in_phase c.args.job.now faults _ c.in-First.is at) _ c.from_residual.ensures.0
    (c.in_err-hold_first-in-First.ensures.works kept)

pub returns-in_ok-hold_first-in-First-clause-turned :
    goal.returns-in_ok-hold_first-in-First-clause-turned
returns-in_ok-hold_first-in-First-clause-turned g c kept faults at =
    first_goes_on c.args.job.now faults _ _ _ _ c.kind-kind.ensures c.first.ensures
    (in_phase c.args.job.now faults _ c.in-First.is at) (c.in_ok-hold_first-in-First.ensures.works kept)

pub returns-in_err-hold_last-in-Last-clause-turned :
    goal.returns-in_err-hold_last-in-Last-clause-turned
returns-in_err-hold_last-in-Last-clause-turned g c kept faults at =
    last_fails c.args.job.now faults _ _ _ _ c.kind-kind.ensures c.last.ensures
    (in_phase c.args.job.now faults _ c.in-Last.is at) _ c.from_residual-in_err-hold_last-in-Last.ensures.0
    (c.in_err-hold_last-in-Last.ensures.works kept)

pub returns-in_ok-hold_last-in-Last-clause-turned :
    goal.returns-in_ok-hold_last-in-Last-clause-turned
returns-in_ok-hold_last-in-Last-clause-turned g c kept faults at =
    last_goes_on c.args.job.now faults _ _ _ _ c.kind-kind.ensures c.last.ensures
    (in_phase c.args.job.now faults _ c.in-Last.is at) (c.in_ok-hold_last-in-Last.ensures.works kept)

pub returns-in_err-erase-in-Erase-clause-turned : goal.returns-in_err-erase-in-Erase-clause-turned
returns-in_err-erase-in-Erase-clause-turned g c kept faults at =
    erase_fails c.args.job.now faults _ _ _ _ c.kind-kind.ensures c.argument.ensures
    (in_phase c.args.job.now faults _ c.in-Erase.is at) _ c.from_residual-in_err-erase-in-Erase.ensures.0
    (c.in_err-erase-in-Erase.ensures.works kept)

pub returns-in_ok-erase-in-Erase-clause-turned : goal.returns-in_ok-erase-in-Erase-clause-turned
returns-in_ok-erase-in-Erase-clause-turned g c kept faults at =
    erase_goes_on c.args.job.now faults _ _ _ _ c.kind-kind.ensures c.argument.ensures
    (in_phase c.args.job.now faults _ c.in-Erase.is at) (c.in_ok-erase-in-Erase.ensures.works kept)

pub returns-in_err-step-in-End-clause-turned : goal.returns-in_err-step-in-End-clause-turned
returns-in_err-step-in-End-clause-turned g c kept faults at =
    end_fails c.args.job.now faults _ _ _ c.programming_carries_a_change_out.ensures.changes
    (in_phase c.args.job.now faults _ c.in-End.is at) _ _ c.from_residual-in_err-step-in-End.ensures.0
    (c.in_err-step-in-End.ensures.did kept)

pub returns-in_ok-step-in-End-clause-turned : goal.returns-in_ok-step-in-End-clause-turned
returns-in_ok-step-in-End-clause-turned g c kept faults at =
    end_goes_on c.args.job.now faults _ _ _ c.programming_carries_a_change_out.ensures.changes
    (in_phase c.args.job.now faults _ c.in-End.is at) _ _ c.map.ensures.cases (c.in_ok-step-in-End.ensures.did kept)
