use Rattle.std.proofs.Common.{◌∙◌, ◌≡◌, ap, arith, refl, sym}
use Rattle.std.proofs.lemmas.Nat.{le_or_l}
use Rattle.mmc_card.proofs.CardAll.{card_reached, card_showing}
use Rattle.mmc_card.proofs.Passing.{unmoved_by_time}
use Rattle.mmc_card.specs.CardAnswer.{showing}
use Rattle.mmc_bus.proofs.WorkLemmas.{command_worked}
use Rattle.mmc_transfer.proofs.CommandLemmas.{held_none, shows_it_stops, shows_nothing}
use Rattle.mmc_transfer.proofs.commands.stop.Goals as goal
use Rattle.mmc_card.specs.RowsTransfer.{stopped}
use Rattle.mmc_switch.proofs.RestLemmas.{nothing_dropped}
use Rattle.mmc_card.specs.Rows.{without_addresses}
use Rattle.mmc_card.specs.declared.command.Command.TheVariants.{Unknown}

pub returns-clause-works : goal.returns-clause-works
returns-clause-works g c kept =
    let k = c.ask.ensures.asked.exchanged.kept kept in
    let old = g.B.Bus.view c.args.bus.now in
    let met = k.step.met in
    let same = unmoved_by_time old met k.step.passes in
    let is_card = k.step.is_card in
    let law = c.cmd12_ends_a_transfer.ensures.does _ _ _ _ k.step.facts is_card in
    command_worked c.ask.ensures.asked refl refl kept
    (λ ok. let judged = c.check_stop.ensures.ok ok in
    let told = law.sound judged.0 judged.1 in
    let shows = told.1 in
    let with = showing shows.left shows.found met.card in
    let says = shows.is in
    let quietly = says.0.drops_quietly in (
      sym same.selected ∙ told.0,
      λ none. (
        met,
        k.step.passes,
        (says.2.0, says.2.1 ∙ ap (stopped says.2.0) (nothing_dropped quietly with (same.erase ∙ none))),
      ),
      λ never. (let held : with.errors ≡ 0 = held_none quietly with
          (shows_nothing c.args.kind c.args.may_run_out (without_addresses quietly with) judged.0
          c.a_status_tells_of_its_card.ensures.errors
          (card_reached says.0 Unknown with (card_showing shows.left shows.found met.card shows.among shows.errors is_card)) says.1 never
          judged.2) in
          same.errors (omega (arith, held, le_or_l met.card.errors shows.found))),
    ))
    (λ fine can.
    let told = law.fine (k.step.quiet fine) (can met k.step.passes).moving in
    c.check_stop.ensures.all told.0 told.1
    (shows_it_stops c.args.kind c.args.may_run_out met.card told.0 c.a_status_tells_of_its_card.ensures.errors
    c.a_status_tells_of_its_card.ensures.at_end is_card told.2 (can met k.step.passes)))
