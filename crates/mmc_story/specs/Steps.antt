-- What a host has been told after a step of its own.
use Rattle.mmc_host.specs.HostStates.{block_passed, sent}
use Rattle.mmc_host.specs.Together.{passed_on}
use Rattle.mmc_host.specs.declared.told.HostState.{HostState}
use Rattle.mmc_story.specs.declared.diary.HostStep.{HostStep}
use Rattle.mmc_story.specs.declared.diary.HostStep.TheVariants.{Passed, Paused, Read, Sent, Set, Written}

abbrev pub after : HostStep → HostState → HostState
after (Set ios) state = record state { ios = ios }
after (Sent command is_answered) state = sent state command is_answered
after (Passed is_good) state = block_passed state is_good
after (Read moved) state = passed_on moved state
after (Written moved) state = passed_on moved state
after (Paused micros) state = record state { paused = micros }
