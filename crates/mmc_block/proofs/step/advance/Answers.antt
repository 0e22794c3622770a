use Rattle.std.proofs.Common.{refl}
use Rattle.mmc_block.proofs.StepLemmas.{run_stepped}
use Rattle.mmc_block.proofs.step.advance.Goals as goal

pub returns-in-GoesOn-clause-stepped : goal.returns-in-GoesOn-clause-stepped
returns-in-GoesOn-clause-stepped g c =
    let running = rw (c.in-Serving-Running.is, c.in-Serving-Running.field-0-is) at c.requires.running in
    rw (c.in-Serving-Running.is, c.in-Serving-Running.field-0-is)
    (λ was. run_stepped c.args.pace c.in-Serving-Running.work c.advance_run.new.work c.advance_run.result c.args.group.now c.advance_run.new.group _ _ _
    (rw c.in-GoesOn.is refl) running.0 c.advance_run.ensures.advances c.advance_run.ensures.did)

pub returns-in_default : goal.returns-in_default
returns-in_default g c =
    let running = rw (c.in-Serving-Running.is, c.in-Serving-Running.field-0-is) at c.requires.running in
    record {
      held = c.leave_run.ensures.held;
      stepped = rw (c.in-Serving-Running.is, c.in-Serving-Running.field-0-is)
          (λ was. run_stepped c.args.pace c.in-Serving-Running.work c.advance_run.new.work c.advance_run.result c.args.group.now
          c.advance_run.new.group _ _ _ (c.leave_run.ensures.left was) running.0 c.advance_run.ensures.advances c.advance_run.ensures.did);
    }
