use Rattle.std.proofs.Common.{◌∙◌, arith, false, refl}
use Rattle.std.specs.Prelude.{Err, None, Ok, Some}
use Rattle.mmc_frame.specs.declared.kind.Kind.TheVariants.{Mmc}
use Rattle.mmc_identify.proofs.LoopLemmas.{asked_on, asks_mmc, start_fails, start_in_vain, started, starts_mmc}
use Rattle.mmc_identify.proofs.mmc.start.Goals as goal
use Rattle.mmc_identify.specs.declared.fault.IdentFault.TheVariants.{NoAnswer}

pub returns-in_err-ocr-clause-moves : goal.returns-in_err-ocr-clause-moves
returns-in_err-ocr-clause-moves g c kept =
    let old = g.B.Bus.view c.args.bus.now in
    let now = g.B.Bus.view c.loop-inquiries.bus in
    let new = g.B.Bus.view c.inquire.new.bus in
    let q = asks_mmc (Err c.in_err-ocr.field-0.0) now new (c.in_err-ocr.ensures.moves kept) in
    starts_mmc c.from_residual.result old new
    (start_fails false Mmc false 0 c.loop-inquiries._inquiries c.from_residual.result c.in_err-ocr.field-0.0 old now new
    c.from_residual.ensures.0 (c.loop-inquiries.invariant.0 q.was_kept q.was_card) q)

pub returns-in-Some-clause-moves : goal.returns-in-Some-clause-moves
returns-in-Some-clause-moves g c kept =
    let old = g.B.Bus.view c.args.bus.now in
    let now = g.B.Bus.view c.loop-inquiries.bus in
    let new = g.B.Bus.view c.inquire.new.bus in
    let moves = rw c.in-Some.is at c.in_ok-ocr.ensures.moves in
    let q = asks_mmc (Ok (Some c.in-Some.ocr)) now new (moves kept) in
    starts_mmc (Ok c.in-Some.ocr) old new
    (started false Mmc false 0 c.loop-inquiries._inquiries c.in-Some.ocr old now new
    (c.loop-inquiries.invariant.0 q.was_kept q.was_card) q)

pub loop-inquiries-preserved : goal.loop-inquiries-preserved
loop-inquiries-preserved g c =
    let old = g.B.Bus.view c.args.bus.now in
    let now = g.B.Bus.view c.loop-inquiries.bus in
    let new = g.B.Bus.view c.inquire.new.bus in
    let moves = rw c.in-None.is at c.in_ok-ocr.ensures.moves in (
      λ kept card.
          let q = asks_mmc (Ok None) now new (moves kept) in
          asked_on Mmc false 0 c.loop-inquiries._inquiries old now new
          (c.loop-inquiries.invariant.0 q.was_kept q.was_card) q,
      λ some kept. (moves kept).is_card,
      omega (arith, c.loop-inquiries.invariant.2, c.in_ok-ocr.ensures.bounded),
      c.in_ok-ocr.ensures.lines ∙ c.loop-inquiries.invariant.3,
    )

pub returns-clause-moves : goal.returns-clause-moves
returns-clause-moves g c kept =
    let old = g.B.Bus.view c.args.bus.now in
    let now = g.B.Bus.view c.loop-inquiries.bus in
    let card = c.loop-inquiries.invariant.1 (omega (arith, c.loop-inquiries-test.false)) kept in
    starts_mmc (Err NoAnswer) old now
    (start_in_vain false Mmc false 0 c.loop-inquiries._inquiries (Err NoAnswer) old now refl
    (omega (arith, c.loop-inquiries-test.false)) (c.loop-inquiries.invariant.0 kept card))
