use Rattle.mmc_bus.proofs.WorkLemmas.{command_worked}
use Rattle.mmc_card.specs.Card.{First}
use Rattle.mmc_erase.proofs.CommandLemmas.{asked_as, done_where_answered, done_where_it_can, erases_nothing}
use Rattle.mmc_erase.proofs.CommandLemmas.{is_of_a_run, last_law, last_names_only}
use Rattle.mmc_erase.specs.Commands.{last_index}
use Rattle.mmc_erase.proofs.commands.hold_last.Goals as goal

pub returns-clause-works : goal.returns-clause-works
returns-clause-works g c kept =
    let kind = c.args.kind in
    let old = g.B.Bus.view c.args.bus.now in
    let asked = asked_as c.last_command.ensures.named c.ask.ensures.asked in
    let k = asked.exchanged.kept kept in
    let e = c.cmd33_and_cmd36_hold_the_last_address.ensures in
    command_worked asked (erases_nothing last_index last_names_only kind old.card c.args.address)
    (is_of_a_run last_index last_names_only kind old.card c.args.address) kept
    (λ first ok still is one. let told = c.check_r1.ensures.ok ok in
    done_where_answered kind _ old _ _ (last_law e.sd e.mmc kind old _ first c.args.address _ (k.step.at_once still) is one) told.0 told.1 told.2)
    (λ same first can. done_where_it_can kind _ old _ _
    (last_law e.sd e.mmc kind old _ first c.args.address _ (k.step.at_once can.is_still) can.is_kind can.erase) (First first)
    c.a_status_tells_of_its_card.ensures.errors k.was_card c.check_r1.ensures.all same can)
