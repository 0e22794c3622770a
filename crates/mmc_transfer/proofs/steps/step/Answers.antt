use Rattle.mmc_switch.proofs.EndingLemmas.{polls_by}
use Rattle.mmc_transfer.proofs.BeginLemmas.{begin_fails, begin_goes_on}
use Rattle.mmc_transfer.proofs.EndLemmas.{end_fails, end_goes_on}
use Rattle.mmc_transfer.proofs.FinishLemmas.{finish_fails, finish_goes_on}
use Rattle.mmc_transfer.proofs.PauseLemmas.{pause_ends, pause_fails, pause_stops, pauses_still}
use Rattle.mmc_transfer.proofs.PresetLemmas.{preset_fails, preset_goes_on}
use Rattle.mmc_transfer.proofs.StepLemmas.{fits_as, in_step}
use Rattle.mmc_transfer.proofs.steps.step.Goals as goal

pub returns-in_err-preset-in-Preset-clause-turned :
    goal.returns-in_err-preset-in-Preset-clause-turned
returns-in_err-preset-in-Preset-clause-turned g c kept blocks faults all at =
    preset_fails c.args.job.now blocks faults _ _ _ c.kind-kind.ensures (fits_as c.args.job.now c.in-Preset.is c.requires.fits)
    (in_step c.args.job.now blocks faults _ c.in-Preset.is at) _ c.from_residual.ensures.0
    (c.in_err-preset-in-Preset.ensures.works kept)

pub returns-in_ok-preset-in-Preset-clause-turned : goal.returns-in_ok-preset-in-Preset-clause-turned
returns-in_ok-preset-in-Preset-clause-turned g c kept blocks faults all at =
    preset_goes_on c.args.job.now blocks faults _ _ _ c.kind-kind.ensures (fits_as c.args.job.now c.in-Preset.is c.requires.fits)
    (in_step c.args.job.now blocks faults _ c.in-Preset.is at) (c.in_ok-preset-in-Preset.ensures.works kept)

pub returns-in_err-start-in-Command-clause-turned :
    goal.returns-in_err-start-in-Command-clause-turned
returns-in_err-start-in-Command-clause-turned g c kept blocks faults all at =
    begin_fails c.args.job.now blocks faults _ _ _ _ c.kind-kind.ensures c.address.ensures
    (in_step c.args.job.now blocks faults _ c.in-Command.is at) _ c.from_residual-in_err-start-in-Command.ensures.0
    (c.in_err-start-in-Command.ensures.works kept)

pub returns-in_ok-start-in-Command-clause-turned : goal.returns-in_ok-start-in-Command-clause-turned
returns-in_ok-start-in-Command-clause-turned g c kept blocks faults all at =
    begin_goes_on c.args.job.now blocks faults _ _ _ _ c.kind-kind.ensures c.address.ensures
    (in_step c.args.job.now blocks faults _ c.in-Command.is at) (c.in_ok-start-in-Command.ensures.works kept)

pub returns-in_err-polls-in-Pause-clause-turned : goal.returns-in_err-polls-in-Pause-clause-turned
returns-in_err-polls-in-Pause-clause-turned g c kept blocks faults all at =
    pause_fails c.args.job.now blocks faults _ _ _ _ (in_step c.args.job.now blocks faults _ c.in-Pause.is at) _
    c.from_residual-in_err-polls-in-Pause.ensures.0 c.in_err-polls-in-Pause.ensures.err.1
    (polls_by _ _ c.if-poll.ensures.polled kept)

pub returns-in_ok-polls-in-Pause-clause-turned : goal.returns-in_ok-polls-in-Pause-clause-turned
returns-in_ok-polls-in-Pause-clause-turned g c kept blocks faults all at =
    pauses_still c.args.job.now blocks faults _ _ _ _ (in_step c.args.job.now blocks faults _ c.in-Pause.is at) _
    c.in_ok-polls-in-Pause.ensures.ok.0 (polls_by _ _ c.if-poll.ensures.polled kept)

pub returns-then-done-job-clause-turned : goal.returns-then-done-job-clause-turned
returns-then-done-job-clause-turned g c kept blocks faults all at =
    pause_stops c.args.job.now blocks faults _ _ _ _ (in_step c.args.job.now blocks faults _ c.in-Pause.is at)
    c.if-done-job.true (polls_by _ _ c.if-poll.ensures.polled kept)

pub returns-else-done-job-clause-turned : goal.returns-else-done-job-clause-turned
returns-else-done-job-clause-turned g c kept blocks faults all at =
    pause_ends c.args.job.now blocks faults _ _ _ _ (in_step c.args.job.now blocks faults _ c.in-Pause.is at)
    (polls_by _ _ c.if-poll.ensures.polled kept)

pub returns-in_err-stop-in-Stop-clause-turned : goal.returns-in_err-stop-in-Stop-clause-turned
returns-in_err-stop-in-Stop-clause-turned g c kept blocks faults all at =
    end_fails c.args.job.now blocks all faults _ _ _ _ c.kind-kind.ensures c.may_run_out.ensures
    (in_step c.args.job.now blocks faults _ c.in-Stop.is at) _ c.from_residual-in_err-stop-in-Stop.ensures.0
    (c.in_err-stop-in-Stop.ensures.works kept)

pub returns-in_ok-stop-in-Stop-clause-turned : goal.returns-in_ok-stop-in-Stop-clause-turned
returns-in_ok-stop-in-Stop-clause-turned g c kept blocks faults all at =
    end_goes_on c.args.job.now blocks all faults _ _ _ _ c.kind-kind.ensures c.may_run_out.ensures
    (in_step c.args.job.now blocks faults _ c.in-Stop.is at) (c.in_ok-stop-in-Stop.ensures.works kept)

pub returns-in_err-next-in-End-clause-turned : goal.returns-in_err-next-in-End-clause-turned
returns-in_err-next-in-End-clause-turned g c kept blocks faults all at =
    finish_fails c.args.job.now blocks all faults _ _ _ c.programming_carries_a_change_out.ensures.changes
    (in_step c.args.job.now blocks faults _ c.in-End.is at) _ _ c.from_residual-in_err-next-in-End.ensures.0
    (c.in_err-next-in-End.ensures.did kept)

pub returns-in_ok-next-in-End-clause-turned : goal.returns-in_ok-next-in-End-clause-turned
returns-in_ok-next-in-End-clause-turned g c kept blocks faults all at =
    finish_goes_on c.args.job.now blocks all faults _ _ _ c.programming_carries_a_change_out.ensures.changes
    (in_step c.args.job.now blocks faults _ c.in-End.is at) _ _ _ c.map.ensures.cases c.map-in-End.ensures.cases
    (c.in_ok-next-in-End.ensures.did kept)
