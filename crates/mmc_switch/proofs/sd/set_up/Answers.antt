use Rattle.std.specs.Prelude.{Err, Ok}
use Rattle.mmc_switch.proofs.SdLemmas.{confirm_fails, scr_fails, set_up, timing_fails, timing_then, width_after}
use Rattle.mmc_switch.proofs.SdLemmas.{width_fails}
use Rattle.mmc_switch.proofs.sd.set_up.Goals as goal

pub returns-in_err-scr-clause-moves : goal.returns-in_err-scr-clause-moves
returns-in_err-scr-clause-moves g c kept =
    scr_fails c.args.rca c.args.switches c.in_err-scr.field-0.0 c.from_residual.result (g.B.Bus.view c.args.bus.now)
    (g.B.Bus.view c.read_scr.new.bus) c.from_residual.ensures.0 (c.in_err-scr.ensures.moves kept)

pub returns-in_err-width-clause-moves : goal.returns-in_err-width-clause-moves
returns-in_err-width-clause-moves g c kept =
    let a = g.B.Bus.view c.args.bus.now in
    let b = g.B.Bus.view c.read_scr.new.bus in
    let d = g.B.Bus.view c.set_width.new.bus in
    let p = c.in_ok-scr.ensures.moves (c.in_err-width.ensures.kept kept) in
    let r = c.from_residual-in_err-width in
    let cause = c.in_err-width.field-0.0 in
    let q = c.in_err-width.ensures.moves p.is_card kept in
    width_fails c.args.rca c.args.switches c.in_ok-scr.scr cause r.result a d r.ensures.0
    (width_after c.args.rca c.in_ok-scr.scr (Err cause) a b d p q)

pub returns-in_err-timing-clause-moves : goal.returns-in_err-timing-clause-moves
returns-in_err-timing-clause-moves g c kept =
    let a = g.B.Bus.view c.args.bus.now in
    let b = g.B.Bus.view c.read_scr.new.bus in
    let d = g.B.Bus.view c.set_width.new.bus in
    let e = g.B.Bus.view c.set_timing.new.bus in
    let rca = c.args.rca in
    let scr = c.in_ok-scr.scr in
    let width = c.in_ok-width.width in
    let r = c.from_residual-in_err-timing in
    let cause = c.in_err-timing.field-0.0 in
    let was = c.in_err-timing.ensures.kept kept in
    let p = c.in_ok-scr.ensures.moves (c.in_ok-width.ensures.kept was) in
    let q = width_after rca scr (Ok width) a b d p (c.in_ok-width.ensures.moves p.is_card was) in
    timing_fails rca c.args.switches scr width cause r.result a e r.ensures.0
    (timing_then rca c.args.switches scr width (Err cause) a d e q (c.in_err-timing.ensures.moves q.is_card kept))

pub returns-in_err-confirm-clause-moves : goal.returns-in_err-confirm-clause-moves
returns-in_err-confirm-clause-moves g c kept =
    let a = g.B.Bus.view c.args.bus.now in
    let b = g.B.Bus.view c.read_scr.new.bus in
    let d = g.B.Bus.view c.set_width.new.bus in
    let e = g.B.Bus.view c.set_timing.new.bus in
    let rca = c.args.rca in
    let scr = c.in_ok-scr.scr in
    let width = c.in_ok-width.width in
    let timing = c.in_ok-timing.timing in
    let r = c.from_residual-in_err-confirm in
    let s = c.in_err-confirm.ensures.works kept in
    let was = c.in_ok-timing.ensures.kept s.was_kept in
    let p = c.in_ok-scr.ensures.moves (c.in_ok-width.ensures.kept was) in
    let q = width_after rca scr (Ok width) a b d p (c.in_ok-width.ensures.moves p.is_card was) in
    let t = timing_then rca c.args.switches scr width (Ok timing) a d e q (c.in_ok-timing.ensures.moves q.is_card s.was_kept) in
    confirm_fails rca c.args.switches scr width timing c.in_err-confirm.field-0.0 r.result a e (g.B.Bus.view c.confirm.new.bus)
    r.ensures.0 t s

pub returns-clause-moves : goal.returns-clause-moves
returns-clause-moves g c kept =
    let a = g.B.Bus.view c.args.bus.now in
    let b = g.B.Bus.view c.read_scr.new.bus in
    let d = g.B.Bus.view c.set_width.new.bus in
    let e = g.B.Bus.view c.set_timing.new.bus in
    let rca = c.args.rca in
    let scr = c.in_ok-scr.scr in
    let width = c.in_ok-width.width in
    let timing = c.in_ok-timing.timing in
    let s = c.in_ok-confirm.ensures.works kept in
    let was = c.in_ok-timing.ensures.kept s.was_kept in
    let p = c.in_ok-scr.ensures.moves (c.in_ok-width.ensures.kept was) in
    let q = width_after rca scr (Ok width) a b d p (c.in_ok-width.ensures.moves p.is_card was) in
    let t = timing_then rca c.args.switches scr width (Ok timing) a d e q (c.in_ok-timing.ensures.moves q.is_card s.was_kept) in
    set_up rca c.args.switches scr width timing a e (g.B.Bus.view c.confirm.new.bus) t s
