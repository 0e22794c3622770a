-- What comes after a block.
use Rattle.std.specs.Prelude.{◌&&◌, ◌==◌, None, Option, Some, if◌then◌else◌, nat_lt, suc, zero, ℕ}
use Rattle.mmc_switch.specs.declared.ending.Ending.TheVariants.{Wait}
use Rattle.mmc_transfer.specs.Running.{is_counted}
use Rattle.mmc_transfer.specs.declared.job.Job.{Job}
use Rattle.mmc_transfer.specs.declared.phase.Phase.{Phase}
use Rattle.mmc_transfer.specs.declared.phase.Phase.TheVariants.{Block, Other}
use Rattle.mmc_transfer.specs.declared.phase.Step.{Step}
use Rattle.mmc_transfer.specs.declared.phase.Step.TheVariants.{End, Pause, Stop}

-- once so many blocks are written
abbrev pub after_written : Job → ℕ → Step
after_written job done = if (done == job.count) && is_counted job then End (Wait 0) else Pause done 0

-- once so many blocks were written with the command
abbrev pub after_write_command : Job → ℕ → Phase
after_write_command job zero = Block 0
after_write_command job (suc done) = Other (after_written job (suc done))

-- once so many blocks are read
abbrev pub after_read : Job → ℕ → Option Phase
after_read job done =
    if nat_lt done job.count then Some (Block done) else if is_counted job then None else Some (Other Stop)
