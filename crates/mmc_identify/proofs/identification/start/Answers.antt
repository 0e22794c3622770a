use Rattle.std.proofs.Common.{refl}
use Rattle.std.specs.Prelude.{Err, Ok}
use Rattle.mmc_frame.specs.declared.kind.Kind.TheVariants.{Mmc, Sd}
use Rattle.mmc_identify.proofs.JoinLemmas.{announce_fails, started_mmc, started_sd}
use Rattle.mmc_identify.proofs.identification.start.Goals as goal

pub returns-in_err-announce-clause-moves : goal.returns-in_err-announce-clause-moves
returns-in_err-announce-clause-moves g c kept =
    announce_fails c.args.hcs c.in_err-announce.field-0.0 c.from_residual.result (g.B.Bus.view c.args.bus.now)
    (g.B.Bus.view c.announce.new.bus) c.from_residual.ensures.0 (c.in_err-announce.ensures.moves kept)

pub returns-in_err-ocr-clause-moves : goal.returns-in_err-ocr-clause-moves
returns-in_err-ocr-clause-moves g c kept =
    let q = c.in_err-ocr.ensures.moves kept in
    let p = rw c.if-branch.true at c.in_ok-announce.ensures.moves in
    started_sd c.args.hcs (Err c.in_err-ocr.field-0.0) c.from_residual-in_err-ocr.result (g.B.Bus.view c.args.bus.now)
    (g.B.Bus.view c.announce.new.bus) (g.B.Bus.view c.start.new.bus) c.from_residual-in_err-ocr.ensures.0
    (p q.was_kept) q

pub returns-in_ok-ocr-clause-moves : goal.returns-in_ok-ocr-clause-moves
returns-in_ok-ocr-clause-moves g c kept =
    let q = c.in_ok-ocr.ensures.moves kept in
    let p = rw c.if-branch.true at c.in_ok-announce.ensures.moves in
    started_sd c.args.hcs (Ok c.in_ok-ocr.ocr) (Ok (Sd, c.in_ok-ocr.ocr)) (g.B.Bus.view c.args.bus.now)
    (g.B.Bus.view c.announce.new.bus) (g.B.Bus.view c.start.new.bus) refl (p q.was_kept) q

pub returns-in_err-ocr-2-clause-moves : goal.returns-in_err-ocr-2-clause-moves
returns-in_err-ocr-2-clause-moves g c kept =
    let s = c.in_err-ocr-2.ensures.moves kept in
    let q = c.go_idle.ensures.moves s.was_kept in
    let p = rw c.if-branch.false at c.in_ok-announce.ensures.moves in
    started_mmc c.args.hcs (Err c.in_err-ocr-2.field-0.0) c.from_residual-in_err-ocr-2.result
    (g.B.Bus.view c.args.bus.now) (g.B.Bus.view c.announce.new.bus) (g.B.Bus.view c.go_idle.new.bus)
    (g.B.Bus.view c.start-else-branch.new.bus) c.from_residual-in_err-ocr-2.ensures.0 (p q.was_kept) q s

pub returns-in_ok-ocr-2-clause-moves : goal.returns-in_ok-ocr-2-clause-moves
returns-in_ok-ocr-2-clause-moves g c kept =
    let s = c.in_ok-ocr-2.ensures.moves kept in
    let q = c.go_idle.ensures.moves s.was_kept in
    let p = rw c.if-branch.false at c.in_ok-announce.ensures.moves in
    started_mmc c.args.hcs (Ok c.in_ok-ocr-2.ocr) (Ok (Mmc, c.in_ok-ocr-2.ocr)) (g.B.Bus.view c.args.bus.now)
    (g.B.Bus.view c.announce.new.bus) (g.B.Bus.view c.go_idle.new.bus) (g.B.Bus.view c.start-else-branch.new.bus)
    refl (p q.was_kept) q s
