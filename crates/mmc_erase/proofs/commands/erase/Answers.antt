use Rattle.std.proofs.Common.{refl}
use Rattle.mmc_card.specs.Card.{Both}
use Rattle.mmc_bus.proofs.WorkLemmas.{done_by}
use Rattle.mmc_erase.proofs.CommandLemmas.{done_where_answered, done_where_it_can}
use Rattle.mmc_erase.proofs.commands.erase.Goals as goal

pub returns-clause-works : goal.returns-clause-works
returns-clause-works g c kept =
    let kind = c.args.kind in
    let old = g.B.Bus.view c.args.bus.now in
    let new = g.B.Bus.view c.ask.new.bus in
    let asked = c.ask.ensures.asked in
    let k = asked.exchanged.kept kept in
    done_by old new k k.step.stays (record { lines = asked.exchanged.lines; stands = k.step.stands refl }) k.step.narrows
    (λ first last ok still both range. let told = c.check_r1.ensures.ok ok in
    done_where_answered kind _ old _ new
    (c.cmd38_erases_the_range.ensures old new c.args.argument first last _ (k.step.at_once still) both range) told.0 told.1 told.2)
    (λ same first last can. done_where_it_can kind _ old _ new
    (c.cmd38_erases_the_range.ensures old new c.args.argument first last _ (k.step.at_once can.holds.is_still) can.holds.erase can.range)
    (Both first last) c.a_status_tells_of_its_card.ensures.errors k.was_card c.check_r1.ensures.all same can.holds)
