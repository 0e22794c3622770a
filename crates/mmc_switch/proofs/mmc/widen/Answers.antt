use Rattle.std.proofs.Common.{◌∙◌, ap, refl, sym}
use Rattle.std.specs.Prelude.{Err, Ok}
use Rattle.mmc_switch.proofs.WidenLemmas.{mmc_judge_fails, mmc_send_fails, mmc_setting_fails, mmc_widened, ok_is}
use Rattle.mmc_switch.proofs.mmc.widen.Goals as goal

pub returns-in_err-block-clause-moves : goal.returns-in_err-block-clause-moves
returns-in_err-block-clause-moves g c kept =
    mmc_send_fails c.args.found.now c.send_ext_csd.result c.from_residual.result (g.B.Bus.view c.args.bus.now)
    (g.B.Bus.view c.send_ext_csd.new.bus) c.from_residual.ensures.0 c.in_err-block.ensures.variant
    (c.send_ext_csd.ensures.moves kept)

pub returns-in_err-ext_csd-clause-moves : goal.returns-in_err-ext_csd-clause-moves
returns-in_err-ext_csd-clause-moves g c kept =
    mmc_judge_fails c.args.found.now c.in_ok-block.block c.send_ext_csd.result (Err c.in_err-ext_csd.field-0.0)
    c.from_residual-in_err-ext_csd.result (g.B.Bus.view c.args.bus.now) (g.B.Bus.view c.send_ext_csd.new.bus)
    c.from_residual-in_err-ext_csd.ensures.0 refl
    (ok_is c.send_ext_csd.result c.in_ok-block.block c.in_ok-block.ensures.cases)
    c.in_err-ext_csd.ensures.all (c.send_ext_csd.ensures.moves kept)

pub returns-in_err-map_err-clause-moves : goal.returns-in_err-map_err-clause-moves
returns-in_err-map_err-clause-moves g c kept =
    let q = c.set_up.ensures.moves kept in
    mmc_setting_fails c.args.found.now c.in_ok-ext_csd.ext_csd c.lines_over-lines.result c.send_ext_csd.result c.set_up.result
    c.from_residual-in_err-map_err.result c.limits-limits.result (g.B.Bus.view c.args.bus.now) (g.B.Bus.view c.send_ext_csd.new.bus)
    (g.B.Bus.view c.set_up.new.bus) c.from_residual-in_err-map_err.ensures.0
    (ok_is c.send_ext_csd.result c.in_ok-block.block c.in_ok-block.ensures.cases
    ∙ ap (λ block. Ok block) (sym c.in_ok-ext_csd.ensures.ok.0))
    c.limits-limits.ensures c.lines_over-lines.ensures.timing
    c.in_err-map_err.ensures.variant (c.send_ext_csd.ensures.moves q.was_kept) q

pub returns-clause-moves : goal.returns-clause-moves
returns-clause-moves g c kept =
    let q = c.set_up.ensures.moves kept in
    mmc_widened c.args.found.now c.in_ok-ext_csd.ext_csd c.lines_over-lines.result c.send_ext_csd.result
    c.set_up.result c.mmc_info-info.result c.partition_config.result c.opened.result c.limits-limits.result
    (g.B.Bus.view c.args.bus.now)
    (g.B.Bus.view c.send_ext_csd.new.bus) (g.B.Bus.view c.set_up.new.bus)
    (ok_is c.send_ext_csd.result c.in_ok-block.block c.in_ok-block.ensures.cases
    ∙ ap (λ block. Ok block) (sym c.in_ok-ext_csd.ensures.ok.0))
    c.limits-limits.ensures c.lines_over-lines.ensures.width c.lines_over-lines.ensures.timing
    c.in_ok-map_err.ensures.variant
    c.partition_config.ensures c.opened.ensures c.mmc_info-info.ensures.info c.mmc_info-info.ensures.rca
    c.mmc_info-info.ensures.lines
    (c.send_ext_csd.ensures.moves q.was_kept) q
