use Rattle.mmc_switch.proofs.SdLemmas.{announce_fails, scr_read}
use Rattle.mmc_switch.proofs.sd.read_scr.Goals as goal

pub returns-in_err-announce-clause-moves : goal.returns-in_err-announce-clause-moves
returns-in_err-announce-clause-moves g c kept =
    announce_fails c.args.rca c.in_err-announce.field-0.0 c.from_residual.result (g.B.Bus.view c.args.bus.now)
    (g.B.Bus.view c.announce.new.bus) c.from_residual.ensures.0 (c.in_err-announce.ensures.moves kept)

pub returns-clause-moves : goal.returns-clause-moves
returns-clause-moves g c kept =
    let q = c.send_scr.ensures.moves kept in
    scr_read c.args.rca c.send_scr.result (g.B.Bus.view c.args.bus.now) (g.B.Bus.view c.announce.new.bus)
    (g.B.Bus.view c.send_scr.new.bus) (c.in_ok-announce.ensures.moves q.was_kept) q
