use Rattle.std.proofs.Common.{◌∙◌, arith, false, refl}
use Rattle.std.specs.Prelude.{Err}
use Rattle.mmc_frame.specs.declared.kind.Kind.TheVariants.{Sd}
use Rattle.mmc_identify.proofs.LoopLemmas.{asked_on, start_fails, start_in_vain, started}
use Rattle.mmc_identify.proofs.sd.inquire_on.Goals as goal
use Rattle.mmc_identify.specs.declared.fault.IdentFault.TheVariants.{NoAnswer}

pub returns-in_err-ocr-clause-moves : goal.returns-in_err-ocr-clause-moves
returns-in_err-ocr-clause-moves g c kept =
    let old = g.B.Bus.view c.args.bus.now in
    let now = g.B.Bus.view c.loop-inquiries.bus in
    let new = g.B.Bus.view c.inquire_again.new.bus in
    let q = c.in_err-ocr.ensures.moves kept in
    start_fails false Sd c.args.hcs 1 c.loop-inquiries._inquiries c.from_residual.result c.in_err-ocr.field-0.0 old now
    new c.from_residual.ensures.0 (c.loop-inquiries.invariant.0 q.was_kept q.was_card) q

pub returns-in-Some-clause-moves : goal.returns-in-Some-clause-moves
returns-in-Some-clause-moves g c kept =
    let old = g.B.Bus.view c.args.bus.now in
    let now = g.B.Bus.view c.loop-inquiries.bus in
    let new = g.B.Bus.view c.inquire_again.new.bus in
    let moves = rw c.in-Some.is at c.in_ok-ocr.ensures.moves in
    let q = moves kept in
    started false Sd c.args.hcs 1 c.loop-inquiries._inquiries c.in-Some.ocr old now new
    (c.loop-inquiries.invariant.0 q.was_kept q.was_card) q

pub loop-inquiries-preserved : goal.loop-inquiries-preserved
loop-inquiries-preserved g c =
    let old = g.B.Bus.view c.args.bus.now in
    let now = g.B.Bus.view c.loop-inquiries.bus in
    let new = g.B.Bus.view c.inquire_again.new.bus in
    let moves = rw c.in-None.is at c.in_ok-ocr.ensures.moves in (
      λ kept card.
          let q = moves kept in
          asked_on Sd c.args.hcs 1 c.loop-inquiries._inquiries old now new
          (c.loop-inquiries.invariant.0 q.was_kept q.was_card) q,
      λ some kept. (moves kept).is_card,
      omega (arith, c.loop-inquiries.invariant.2, c.in_ok-ocr.ensures.bounded),
      c.in_ok-ocr.ensures.lines ∙ c.loop-inquiries.invariant.3,
    )

pub returns-clause-moves : goal.returns-clause-moves
returns-clause-moves g c kept =
    let old = g.B.Bus.view c.args.bus.now in
    let now = g.B.Bus.view c.loop-inquiries.bus in
    let card = c.loop-inquiries.invariant.1 (omega (arith, c.loop-inquiries-test.false)) kept in
    start_in_vain false Sd c.args.hcs 1 c.loop-inquiries._inquiries (Err NoAnswer) old now refl
    (omega (arith, c.loop-inquiries-test.false)) (c.loop-inquiries.invariant.0 kept card)
