-- What was met and healed, counted.
use Rattle.std.specs.Prelude.{◌+◌, ◌-◌, ◌^◌, Bool, false, min, true, ℕ}
use Rattle.mmc_bus.specs.declared.cause.Cause.{Cause}
use Rattle.mmc_bus.specs.declared.cause.Cause.TheVariants.{Answer, Busy, Data, Recovery, Status}
use Rattle.mmc_recovery.specs.declared.healed.Healed.{Healed}

-- one more, but no more than a count can say
abbrev pub one_more : ℕ → ℕ
one_more n = min (n + 1) (2 ^ 64 - 1)

abbrev pub none_met : Healed
none_met = record {
  attempts = 0;
  by_answer = 0;
  by_data = 0;
  by_status = 0;
  by_busy = 0;
  by_recovery = 0;
  settlings = 0;
  resets = 0;
}

-- one more attempt is over
abbrev pub with_attempt : Healed → Healed
with_attempt healed = record healed { attempts = one_more healed.attempts }

-- one more attempt failed, for this cause
abbrev pub with_failure : Cause → Healed → Healed
with_failure Answer healed = record healed { by_answer = one_more healed.by_answer }
with_failure Data healed = record healed { by_data = one_more healed.by_data }
with_failure Status healed = record healed { by_status = one_more healed.by_status }
with_failure Busy healed = record healed { by_busy = one_more healed.by_busy }
with_failure Recovery healed = record healed { by_recovery = one_more healed.by_recovery }

-- the card was settled once more, and reset or not
abbrev pub with_settling : Bool → Healed → Healed
with_settling true healed =
    record healed { settlings = one_more healed.settlings; resets = one_more healed.resets }
with_settling false healed = record healed { settlings = one_more healed.settlings }
