use Rattle.mmc_switch.proofs.SwitchLemmas.{groups_fail, set_up_fast, set_up_plain, width_fails}
use Rattle.mmc_switch.proofs.mmc.set_up.Goals as goal

pub returns-in_err-use_erase_groups-clause-moves : goal.returns-in_err-use_erase_groups-clause-moves
returns-in_err-use_erase_groups-clause-moves g c kept =
    groups_fail c.args.rca c.args.lines c.in_err-use_erase_groups.field-0.0
    c.from_residual.result (g.B.Bus.view c.args.bus.now)
    (g.B.Bus.view c.use_erase_groups.new.bus) c.from_residual.ensures.0
    (c.in_err-use_erase_groups.ensures.moves kept)

pub returns-in_err-use_lines-clause-moves : goal.returns-in_err-use_lines-clause-moves
returns-in_err-use_lines-clause-moves g c kept =
    let p = c.in_ok-use_erase_groups.ensures.moves (c.in_err-use_lines.ensures.kept kept) in
    width_fails c.args.rca c.args.lines c.in_err-use_lines.field-0.0
    c.from_residual-in_err-use_lines.result (g.B.Bus.view c.args.bus.now)
    (g.B.Bus.view c.use_erase_groups.new.bus) (g.B.Bus.view c.use_lines.new.bus)
    c.from_residual-in_err-use_lines.ensures.0 p (c.in_err-use_lines.ensures.moves p.is_card kept)

pub returns-in-Default-clause-moves : goal.returns-in-Default-clause-moves
returns-in-Default-clause-moves g c kept =
    let p = c.in_ok-use_erase_groups.ensures.moves (c.in_ok-use_lines.ensures.kept kept) in
    set_up_plain c.args.rca c.args.lines (g.B.Bus.view c.args.bus.now)
    (g.B.Bus.view c.use_erase_groups.new.bus) (g.B.Bus.view c.use_lines.new.bus) c.in-Default.is
    p (c.in_ok-use_lines.ensures.moves p.is_card kept)

pub returns-in-High-clause-moves : goal.returns-in-High-clause-moves
returns-in-High-clause-moves g c kept =
    let s = c.speed_up.ensures.moves kept in
    let p = c.in_ok-use_erase_groups.ensures.moves (c.in_ok-use_lines.ensures.kept s.was_kept) in
    set_up_fast c.args.rca c.args.lines c.speed_up.result (g.B.Bus.view c.args.bus.now)
    (g.B.Bus.view c.use_erase_groups.new.bus) (g.B.Bus.view c.use_lines.new.bus)
    (g.B.Bus.view c.speed_up.new.bus) c.in-High.is p (c.in_ok-use_lines.ensures.moves p.is_card s.was_kept) s
