use Rattle.mmc_identify.proofs.LoopLemmas.{first_ends, first_fails, first_goes_on}
use Rattle.mmc_identify.proofs.sd.start.Goals as goal

pub returns-in_err-ocr-clause-moves : goal.returns-in_err-ocr-clause-moves
returns-in_err-ocr-clause-moves g c kept =
    first_fails c.args.hcs c.from_residual.result c.in_err-ocr.field-0.0 (g.B.Bus.view c.args.bus.now)
    (g.B.Bus.view c.inquire.new.bus) c.from_residual.ensures.0 (c.in_err-ocr.ensures.moves kept)

pub returns-in-Some-clause-moves : goal.returns-in-Some-clause-moves
returns-in-Some-clause-moves g c kept =
    let moves = rw c.in-Some.is at c.in_ok-ocr.ensures.moves in
    first_ends c.args.hcs c.in-Some.ocr (g.B.Bus.view c.args.bus.now) (g.B.Bus.view c.inquire.new.bus) (moves kept)

pub returns-in-None-clause-moves : goal.returns-in-None-clause-moves
returns-in-None-clause-moves g c kept =
    let q = c.inquire_on.ensures.moves kept in
    let moves = rw c.in-None.is at c.in_ok-ocr.ensures.moves in
    first_goes_on c.args.hcs c.inquire_on.result (g.B.Bus.view c.args.bus.now) (g.B.Bus.view c.inquire.new.bus)
    (g.B.Bus.view c.inquire_on.new.bus) (moves q.was_kept) q
