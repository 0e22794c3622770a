use Rattle.mmc_bus.proofs.WorkLemmas.{command_worked}
use Rattle.mmc_card.specs.Laws.{IsStill}
use Rattle.mmc_transfer.proofs.CommandLemmas.{asked_as, begin_law, begins_where_it_can, begun_where_answered}
use Rattle.mmc_transfer.proofs.CommandLemmas.{erases_nothing, is_of_the_run}
use Rattle.mmc_transfer.proofs.commands.start.Goals as goal

pub returns-clause-works : goal.returns-clause-works
returns-clause-works g c kept =
    let kind = c.args.kind in
    let way = c.args.way in
    let is_single = c.args.is_single in
    let address = c.args.address in
    let old = g.B.Bus.view c.args.bus.now in
    let asked = asked_as c.command_of.ensures.named c.ask_moving.ensures.asked in
    let k = asked.exchanged.kept kept in
    let begins = λ (is : IsStill old.card). begin_law c.cmd17_begins_a_read.ensures c.cmd18_begins_a_read_of_blocks.ensures
    c.cmd24_begins_a_write.ensures c.cmd25_begins_a_write_of_blocks.ensures way is_single old _ address _ (k.step.at_once is)
    k.was_card in
    command_worked asked (erases_nothing way is_single old.card address) (is_of_the_run way is_single old.card address)
    kept
    (λ ok is. let told = c.check_r1.ensures.ok ok in
    begun_where_answered kind way is_single old address _ _ (begins is) told.0 told.1 told.2)
    (λ same can. begins_where_it_can kind way is_single old address _ _ (begins can.obeys.is_still)
    c.a_status_tells_of_its_card.ensures.errors k.was_card c.check_r1.ensures.all same can)
