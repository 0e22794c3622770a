use Rattle.std.proofs.Common.{◌∙◌, arith, refl}
use Rattle.std.specs.Prelude.{Err}
use Rattle.mmc_identify.proofs.JoinLemmas.{asked_in_vain, asked_too_often, found_clean, still_at_work}
use Rattle.mmc_identify.proofs.shared.confirm.Goals as goal
use Rattle.mmc_identify.specs.declared.fault.IdentFault.TheVariants.{NoAnswer}

pub returns-in_err-ask_status-clause-moves : goal.returns-in_err-ask_status-clause-moves
returns-in_err-ask_status-clause-moves g c kept =
    let old = g.B.Bus.view c.args.bus.now in
    let now = g.B.Bus.view c.loop-statuses.bus in
    let new = g.B.Bus.view c.ask_status.new.bus in
    let q = c.in_err-ask_status.ensures.moves kept in
    asked_in_vain c.args.kind c.args.rca c.args.polls c.loop-statuses._statuses c.in_err-ask_status.field-0.0 c.from_residual.result old now new
    c.from_residual.ensures.0 (c.loop-statuses.invariant.0 q.was_kept q.was_card) q

pub returns-in-Clean-clause-moves : goal.returns-in-Clean-clause-moves
returns-in-Clean-clause-moves g c kept =
    let old = g.B.Bus.view c.args.bus.now in
    let now = g.B.Bus.view c.loop-statuses.bus in
    let new = g.B.Bus.view c.ask_status.new.bus in
    let moves = rw c.in-Clean.is at c.in_ok-ask_status.ensures.moves in
    let q = moves kept in
    found_clean c.args.kind c.args.rca c.args.polls c.loop-statuses._statuses old now new
    (c.loop-statuses.invariant.0 q.was_kept q.was_card) q

pub loop-statuses-preserved : goal.loop-statuses-preserved
loop-statuses-preserved g c =
    let old = g.B.Bus.view c.args.bus.now in
    let now = g.B.Bus.view c.loop-statuses.bus in
    let new = g.B.Bus.view c.ask_status.new.bus in
    let moves = rw c.in-AtWork.is at c.in_ok-ask_status.ensures.moves in (
      λ kept card.
          let q = moves kept in
          still_at_work c.args.kind c.args.rca c.loop-statuses._statuses old now new
          (c.loop-statuses.invariant.0 q.was_kept q.was_card) q,
      λ some kept. (moves kept).is_card,
      omega (arith, c.loop-statuses.invariant.2, c.in_ok-ask_status.ensures.bounded),
      c.in_ok-ask_status.ensures.lines ∙ c.loop-statuses.invariant.3,
    )

pub returns-clause-moves : goal.returns-clause-moves
returns-clause-moves g c kept =
    let old = g.B.Bus.view c.args.bus.now in
    let now = g.B.Bus.view c.loop-statuses.bus in
    let card = c.loop-statuses.invariant.1 (omega (arith, c.loop-statuses-test.false)) kept in
    asked_too_often c.args.kind c.args.rca c.args.polls c.loop-statuses._statuses (Err NoAnswer) old now refl
    (omega (arith, c.loop-statuses-test.false)) (c.loop-statuses.invariant.0 kept card)
