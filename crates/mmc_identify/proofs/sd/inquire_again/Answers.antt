use Rattle.std.proofs.Common.{false, refl}
use Rattle.std.specs.Prelude.{Err, Ok}
use Rattle.mmc_identify.proofs.LoopLemmas.{announced_then, not_announced}
use Rattle.mmc_identify.proofs.sd.inquire_again.Goals as goal
use Rattle.mmc_identify.specs.declared.fault.IdentFault.TheVariants.{NoAnswer}

pub returns-in_err-announce-clause-moves : goal.returns-in_err-announce-clause-moves
returns-in_err-announce-clause-moves g c kept =
    not_announced c.args.hcs (Err c.in_err-announce.field-0.0) c.from_residual.result (g.B.Bus.view c.args.bus.now)
    (g.B.Bus.view c.announce.new.bus) c.from_residual.ensures.0 (λ e. cc) (c.in_err-announce.ensures.moves kept)

pub returns-then-not-branch-clause-moves : goal.returns-then-not-branch-clause-moves
returns-then-not-branch-clause-moves g c kept =
    let moves = rw c.if-not-branch.true at c.in_ok-announce.ensures.moves in
    not_announced c.args.hcs (Ok false) (Err NoAnswer) (g.B.Bus.view c.args.bus.now)
    (g.B.Bus.view c.announce.new.bus) refl (λ e. cc) (moves kept)

pub returns-clause-moves : goal.returns-clause-moves
returns-clause-moves g c kept =
    let q = c.inquire.ensures.moves kept in
    announced_then c.args.hcs c.announce.result c.inquire.result (g.B.Bus.view c.args.bus.now)
    (g.B.Bus.view c.announce.new.bus) (g.B.Bus.view c.inquire.new.bus) (c.announce.ensures.moves q.was_kept) q
