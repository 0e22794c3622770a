use Rattle.std.proofs.Common.{◌+◌, ◌<◌, ◌≡◌, ◌≤◌, arith, refl, subst, sym, ℕ}
use Rattle.std.proofs.lemmas.Bool.Decides.{nat_tests}
use Rattle.std.specs.Prelude.{Err, IsErr, IsTrue, None, Ok, Option, Result, Some}
use Rattle.mmc_frame.specs.declared.kind.Kind.{Kind}
use Rattle.mmc_card.specs.BusView.{BusView}
use Rattle.mmc_bus.specs.declared.cause.Cause.{Cause}
use Rattle.mmc_bus.specs.declared.cause.Cause.TheVariants.{Status}
use Rattle.mmc_bus.specs.declared.status.Closing.{Closing}
use Rattle.mmc_bus.specs.declared.status.Closing.TheVariants.{AtWork, Clean}
use Rattle.mmc_bus.specs.declared.wait.TheConstants.{MAX_POLLS}
use Rattle.mmc_switch.specs.Ending.{Confirms, EndingDid, FailsAt, ending_fits}
use Rattle.mmc_switch.specs.declared.ending.Ending.{Ending}
use Rattle.mmc_switch.specs.declared.ending.Ending.TheVariants.{Confirm}
use Rattle.mmc_switch.specs.declared.session.Session.{Session}
use Rattle.mmc_switch.proofs.ending.Ending.step.Goals as goal

-- What a closing status did, by the ending that asked for it.
module _ (session : Session) (ending : Ending) (waits : ℕ) (kind : Kind) (rca : ℕ) (a b : BusView) (is : ending ≡ Confirm waits)
    (of_kind : kind ≡ session.info.kind) (of_rca : rca ≡ session.info.rca) where
  confirms : (closing : Result Closing Cause) → Confirms kind rca closing a b
      → Confirms session.info.kind session.info.rca closing a b
  confirms closing work =
      subst (λ k. Confirms k session.info.rca closing a b) of_kind (subst (λ r. Confirms kind r closing a b) of_rca work)

  at_work : (closing : Closing) → closing ≡ AtWork → Confirms kind rca (Ok closing) a b
      → EndingDid session ending a (Ok (Some (Confirm (waits + 1)))) b
  at_work closing works work =
      subst (λ e. EndingDid session e a (Ok (Some (Confirm (waits + 1)))) b) (sym is)
      (refl, subst (λ c. Confirms session.info.kind session.info.rca (Ok c) a b) works (confirms (Ok closing) work))

  clean : (closing : Closing) → closing ≡ Clean → Confirms kind rca (Ok closing) a b → EndingDid session ending a (Ok None) b
  clean closing says work =
      subst (λ e. EndingDid session e a (Ok None) b) (sym is)
      (subst (λ c. Confirms session.info.kind session.info.rca (Ok c) a b) says (confirms (Ok closing) work))

  too_often : (closing : Closing) (cause : Cause) → closing ≡ AtWork → waits + 1 ≡ MAX_POLLS → Confirms kind rca (Ok closing) a b
      → EndingDid session ending a (Err cause) b
  too_often closing cause works last work =
      subst (λ e. EndingDid session e a (Err cause) b) (sym is)
      (Ok AtWork, last, subst (λ c. Confirms session.info.kind session.info.rca (Ok c) a b) works (confirms (Ok closing) work))

  in_vain : (why : Cause) (r : Result (Option Ending) Cause) → IsErr r → Confirms kind rca (Err why) a b
      → EndingDid session ending a r b
  in_vain why (Ok next) err work = absurd cc
  in_vain why (Err cause) err work =
      subst (λ e. EndingDid session e a (Err cause) b) (sym is) (Err why, tt, confirms (Err why) work)

-- it was asked less often than it may be, and not once less
last_time : (ending : Ending) (waits : ℕ) → ending ≡ Confirm waits → IsTrue (ending_fits ending) → MAX_POLLS ≤ waits + 1
    → waits + 1 ≡ MAX_POLLS
last_time ending waits is fits late =
    let few : IsTrue (ending_fits (Confirm waits)) = subst (λ e. IsTrue (ending_fits e)) is fits in
    grind (arith, nat_tests, few, late)

pub returns-in-AtWork-clause-did : goal.returns-in-AtWork-clause-did
returns-in-AtWork-clause-did g c kept =
    at_work c.args.session.now c.args.self c.in-Confirm.waits c.kind.result c.rca.result (g.B.Bus.view c.args.bus.now)
    (g.B.Bus.view c.ask_closing.new.bus) c.in-Confirm.is c.kind.ensures c.rca.ensures
    c.in_ok-ask_closing-in-Confirm.field-0 c.in-AtWork.is (c.in_ok-ask_closing-in-Confirm.ensures.works kept)

pub returns-in-Clean-clause-did : goal.returns-in-Clean-clause-did
returns-in-Clean-clause-did g c kept =
    clean c.args.session.now c.args.self c.in-Confirm.waits c.kind.result c.rca.result (g.B.Bus.view c.args.bus.now)
    (g.B.Bus.view c.ask_closing.new.bus) c.in-Confirm.is c.kind.ensures c.rca.ensures
    c.in_ok-ask_closing-in-Confirm.field-0 c.in-Clean.is (c.in_ok-ask_closing-in-Confirm.ensures.works kept)

pub returns-in-AtWork-2-clause-did : goal.returns-in-AtWork-2-clause-did
returns-in-AtWork-2-clause-did g c kept =
    too_often c.args.session.now c.args.self c.in-Confirm.waits c.kind.result c.rca.result (g.B.Bus.view c.args.bus.now)
    (g.B.Bus.view c.ask_closing.new.bus) c.in-Confirm.is c.kind.ensures c.rca.ensures
    c.in_ok-ask_closing-in-Confirm.field-0 Status c.in-AtWork.is
    (last_time c.args.self c.in-Confirm.waits c.in-Confirm.is c.requires.fits c.if-waits-lt-MAX_POLLS.false)
    (c.in_ok-ask_closing-in-Confirm.ensures.works kept)

pub returns-in_err-ask_closing-in-Confirm-clause-did : goal.returns-in_err-ask_closing-in-Confirm-clause-did
returns-in_err-ask_closing-in-Confirm-clause-did g c kept =
    in_vain c.args.session.now c.args.self c.in-Confirm.waits c.kind.result c.rca.result (g.B.Bus.view c.args.bus.now)
    (g.B.Bus.view c.ask_closing.new.bus) c.in-Confirm.is c.kind.ensures c.rca.ensures
    c.in_err-ask_closing-in-Confirm.field-0.0 c.from_residual-in_err-ask_closing-in-Confirm.result
    c.from_residual-in_err-ask_closing-in-Confirm.ensures.0 (c.in_err-ask_closing-in-Confirm.ensures.works kept)
