use Rattle.std.proofs.Common.{sym}
use Rattle.mmc_switch.proofs.SelectLemmas.{is_mmc_kind, is_sd_kind, is_selected_part, select_fails, selected_alone}
use Rattle.mmc_switch.proofs.SelectLemmas.{selected_already, selected_now}
use Rattle.mmc_switch.proofs.selection.select.Goals as goal
use Rattle.mmc_switch.proofs.selection.select.Goals.{then-is_there-via-else-is_there+then-eq}
use Rattle.mmc_switch.proofs.selection.select.Goals.{then-is_there-via-then-is_there}

pub returns-then-is_there-clause-ready : goal.returns-then-is_there-clause-ready
returns-then-is_there-clause-ready g c kept ready =
    let view = g.B.Bus.view c.args.bus.now in
    let session = c.args.session in
    elim c.then-is_there.branch [
      | then-is_there-via-then-is_there w
          ↦ selected_already session c.args.part view
          (is_selected_part session.selected c.args.part (sym w.if-is_there.ensures)) ready
      | then-is_there-via-else-is_there+then-eq w
          ↦ selected_alone session c.args.part view (is_sd_kind session.info.kind (sym w.if-eq.ensures))
          c.requires.exists ready
    ]

pub returns-in-Ok-clause-stays : goal.returns-in-Ok-clause-stays
returns-in-Ok-clause-stays g c kept ready = let p = c.in-Ok.ensures.done kept in (p.stays, p.sectors)

pub returns-in-Ok-clause-ready : goal.returns-in-Ok-clause-ready
returns-in-Ok-clause-ready g c kept ready =
    selected_now c.args.session c.args.part c.access_argument-argument.result (g.B.Bus.view c.args.bus.now)
    (g.B.Bus.view c.switch.new.bus) (is_mmc_kind c.args.session.info.kind (sym c.if-eq.ensures))
    c.access_argument-argument.ensures c.requires.exists (c.in-Ok.ensures.done kept) ready

pub returns-in-Err-clause-stays : goal.returns-in-Err-clause-stays
returns-in-Err-clause-stays g c kept ready = let p = c.in-Err.ensures.done kept in (p.stays, p.sectors)

pub returns-in-Err-clause-is_broken : goal.returns-in-Err-clause-is_broken
returns-in-Err-clause-is_broken g c kept ready =
    select_fails c.args.session c.args.part c.access_argument-argument.result c.in-Err.cause c.break_off.result
    (g.B.Bus.view c.args.bus.now) (g.B.Bus.view c.switch.new.bus)
    (is_mmc_kind c.args.session.info.kind (sym c.if-eq.ensures)) c.access_argument-argument.ensures c.requires.exists
    c.break_off.ensures (c.in-Err.ensures.done kept) ready
