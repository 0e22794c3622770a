-- Why attempts have failed.
use Rattle.std.proofs.Common.{◌+◌, ◌≡◌, ◌≤◌, arith, refl, subst, sym, ℕ}
use Rattle.std.specs.Prelude.{Err, IfErr, None, Ok, Option, Result, Some}
use Rattle.mmc_bus.specs.Heard.{cause_of, cause_of_command, cause_of_response, response_heard}
use Rattle.mmc_bus.specs.declared.cause.Cause.{Cause}
use Rattle.mmc_bus.specs.declared.cause.Cause.TheVariants.{Recovery}
use Rattle.mmc_bus.specs.declared.host.Unheard.{Unheard}
use Rattle.mmc_card.specs.BusView.{BusView}
use Rattle.mmc_card.specs.declared.exchange.Exchange.{Exchange}
use Rattle.mmc_card.specs.declared.exchange.Exchange.TheVariants.{Busy, Command, In, Out}
use Rattle.mmc_card.specs.declared.exchange.Reply.{Reply}
use Rattle.mmc_recovery.specs.Settled.{given_up}
use Rattle.mmc_recovery.specs.declared.settling.TheConstants.{EXCHANGES_OF_A_PATIENT_SETTLE}
use Rattle.mmc_switch.specs.declared.broken.Broken.{Broken}
use Rattle.mmc_switch.specs.declared.session.Session.{Session}
use Rattle.mmc_direct.specs.Served.{IsCausedIn}

-- No exchange is the cause Recovery.

by_response : (heard : Result ℕ Unheard) → cause_of_response heard ≡ Recovery → ⊥
by_response (Ok status) is = cc is
by_response (Err unheard) is = cc is

by_command : (command : Option (ℕ × ℕ)) (reply : Reply) → cause_of_command command reply ≡ Recovery → ⊥
by_command (Some command) reply is = by_response (response_heard command.0 reply) is
by_command None reply is = cc is

some_is : {A : Type 0} {x y : A} → Some x ≡ Some y → x ≡ y
some_is is = cc is

by_exchange : (last : Option Exchange) → cause_of last ≡ Some Recovery → ⊥
by_exchange (Some (Command frame want reply)) is = by_command _ reply (some_is is)
by_exchange (Some (In len got)) is = cc is
by_exchange (Some (Out got)) is = cc is
by_exchange (Some (Busy said)) is = cc is
by_exchange None is = cc is

-- a select or a run that failed
pub caused_by_exchange : (before : ℕ) (old : BusView) (result : Result Session Broken) (new : BusView)
    → IfErr result (λ broken. cause_of new.last ≡ Some broken.cause)
    → IfErr result (λ broken. IsCausedIn before broken old new)
caused_by_exchange before old (Ok session) new cause = tt
caused_by_exchange before old (Err broken) new cause =
    let none : broken.cause ≡ Recovery → ⊥ =
    λ is. by_exchange new.last (subst (λ (c : Cause). cause_of new.last ≡ Some c) is cause) in
    record {
      heard = λ other. cause;
      unsettled = λ is. absurd (none is);
      settles = λ is. absurd (none is);
    }

-- a settle that failed
pub caused_by_settle : (broken : Broken) (old : BusView) (result : Result Session Broken) (new : BusView)
    → new.exchanges ≤ old.exchanges + EXCHANGES_OF_A_PATIENT_SETTLE → IfErr result (λ left. left ≡ given_up broken)
    → IfErr result (λ left. IsCausedIn 0 left old new)
caused_by_settle broken old (Ok session) new bounded left = tt
caused_by_settle broken old (Err unsettled) new bounded left =
    subst (λ (b : Broken). IsCausedIn 0 b old new) (sym left) (record {
      heard = λ other. absurd (other refl);
      unsettled = λ is. record { must_reset = refl; unknown = refl };
      settles = λ is. omega (arith, bounded);
    })
