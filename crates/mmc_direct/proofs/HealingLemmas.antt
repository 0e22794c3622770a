-- What attempts add to the counts.
use Rattle.std.proofs.Common.{◌+◌, ◌∙◌, ◌≡◌, ◌≤◌, ap, arith, subst, sym, ℕ}
use Rattle.mmc_bus.specs.declared.cause.Cause.{Cause}
use Rattle.mmc_recovery.specs.Healed.{with_attempt, with_failure}
use Rattle.mmc_recovery.specs.declared.healed.Healed.{Healed}
use Rattle.mmc_switch.specs.declared.broken.Broken.{Broken}
use Rattle.mmc_switch.specs.declared.session.Session.{Session}
use Rattle.mmc_direct.specs.Healing.{HasHealed, HasSettled, Heals, after_attempt}
use Rattle.mmc_direct.specs.Healing.Heals.{again, first}
use Rattle.mmc_switch.specs.declared.stands.Stands.{Stands}

pub heals_first : (stands : Stands) (old settled : Healed) (left : Stands) (new : Healed) → HasSettled stands old settled
    → new ≡ after_attempt left settled → Heals stands old 1 left new
heals_first stands old settled left new settles is =
    subst (λ n. Heals stands old 1 left n) (sym is) (first settled left settles)

pub heals_again : (stands : Stands) (old : Healed) (before : ℕ) (broken : Broken) (healed settled : Healed) (left : Stands)
    (new : Healed) → Heals stands old before (Stands.Broken broken) healed → HasSettled (Stands.Broken broken) healed settled
    → new ≡ after_attempt left settled → Heals stands old (before + 1) left new
heals_again stands old before broken healed settled left new so_far settles is =
    subst (λ n. Heals stands old (before + 1) left n) (sym is) (again before broken healed settled left so_far settles)

-- an attempt that failed, as it is counted
pub failed_so : (broken : Broken) (settled counted : Healed) (cause : Cause) → cause ≡ broken.cause
    → counted ≡ with_failure cause (with_attempt settled) → counted ≡ after_attempt (Stands.Broken broken) settled
failed_so broken settled counted cause why is = is ∙ ap (λ (c : Cause). with_failure c (with_attempt settled)) why

-- a request that is done, or one whose attempts are used up
pub healed_done : (most : ℕ) (stands : Stands) (old : Healed) (attempts : ℕ) (session : Session) (new : Healed) → attempts ≤ most
    → Heals stands old attempts (Stands.Ready session) new → HasHealed most stands old (Stands.Ready session) new
healed_done most stands old attempts session new few heals = record { attempts = attempts; all = few; heals = heals }

pub healed_in_vain : (most : ℕ) (stands : Stands) (old : Healed) (attempts : ℕ) (broken : Broken) (new : Healed) → most ≤ attempts
    → attempts ≤ most → Heals stands old attempts (Stands.Broken broken) new → HasHealed most stands old (Stands.Broken broken) new
healed_in_vain most stands old attempts broken new least few heals =
    record { attempts = attempts; all = omega (arith, least, few); heals = heals }
