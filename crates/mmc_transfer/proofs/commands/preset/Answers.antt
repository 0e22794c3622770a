use Rattle.std.proofs.Common.{ap, refl, ◌∙◌}
use Rattle.mmc_card.specs.RowsTransfer.{preset_to}
use Rattle.mmc_bus.proofs.FoundLemmas.{none_at_all}
use Rattle.mmc_bus.proofs.WorkLemmas.{command_worked}
use Rattle.mmc_transfer.proofs.CommandLemmas.{forgets_none, shows_no_error}
use Rattle.mmc_transfer.proofs.commands.preset.Goals as goal

pub returns-clause-works : goal.returns-clause-works
returns-clause-works g c kept =
    let k = c.ask.ensures.asked.exchanged.kept kept in
    let card = (g.B.Bus.view c.args.bus.now).card in
    command_worked c.ask.ensures.asked refl refl kept
    (λ ok is none. let judged = c.check_r1.ensures.ok ok in
    ((c.cmd23_presets_the_count.ensures _ _ _ _ (k.step.at_once is)).sound judged.0 judged.1
    (none_at_all c.args.kind judged.0 judged.2)).1 ∙ ap (λ old. preset_to old c.args.count) (forgets_none card none))
    (λ same can. let obeys = can.obeys in
    let told = ((c.cmd23_presets_the_count.ensures _ _ _ _ (k.step.at_once obeys.is_still)).fine same (obeys.tran, can.knows)).0 in
    c.check_r1.ensures.all told.0 told.1
    (shows_no_error c.args.kind card c.a_status_tells_of_its_card.ensures.errors k.was_card obeys told.0 told.2))
