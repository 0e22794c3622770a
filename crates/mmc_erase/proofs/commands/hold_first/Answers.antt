use Rattle.mmc_bus.proofs.WorkLemmas.{command_worked}
use Rattle.mmc_card.specs.Laws.{IsStill}
use Rattle.mmc_card.specs.Card.{NoAddress}
use Rattle.mmc_erase.proofs.CommandLemmas.{asked_as, done_where_answered, done_where_it_can, erases_nothing}
use Rattle.mmc_erase.proofs.CommandLemmas.{is_of_a_run, first_law, first_names_only}
use Rattle.mmc_erase.specs.Commands.{first_index}
use Rattle.mmc_erase.proofs.commands.hold_first.Goals as goal

pub returns-clause-works : goal.returns-clause-works
returns-clause-works g c kept =
    let kind = c.args.kind in
    let old = g.B.Bus.view c.args.bus.now in
    let asked = asked_as c.first_command.ensures.named c.ask.ensures.asked in
    let k = asked.exchanged.kept kept in
    let e = c.cmd32_and_cmd35_hold_the_first_address.ensures in
    let law = λ (is : IsStill old.card). first_law e.sd e.mmc kind old _ c.args.address _ (k.step.at_once is) in
    command_worked asked (erases_nothing first_index first_names_only kind old.card c.args.address)
    (is_of_a_run first_index first_names_only kind old.card c.args.address) kept
    (λ ok still is none. let told = c.check_r1.ensures.ok ok in
    done_where_answered kind _ old _ _ (law still is none) told.0 told.1 told.2)
    (λ same can. done_where_it_can kind _ old _ _ (law can.is_still can.is_kind can.erase) NoAddress
    c.a_status_tells_of_its_card.ensures.errors k.was_card c.check_r1.ensures.all same can)
