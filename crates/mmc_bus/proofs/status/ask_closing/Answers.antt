use Rattle.std.proofs.Common.{ap, refl, subst, sym, ◌∙◌}
use Rattle.mmc_frame.specs.declared.card_state.State.TheVariants.{Tran}
use Rattle.mmc_card.proofs.Passing.{still_in}
use Rattle.mmc_card.specs.Card.{is_identified}
use Rattle.mmc_bus.proofs.ClosingLemmas.{told_closing, told_soon}
use Rattle.mmc_bus.proofs.WorkLemmas.{command_worked}
use Rattle.mmc_bus.proofs.status.ask_closing.Goals as goal

pub returns-clause-works : goal.returns-clause-works
returns-clause-works g c kept =
    let k = c.ask.ensures.asked.exchanged.kept kept in
    let old = g.B.Bus.view c.args.bus.now in
    let new = g.B.Bus.view c.ask.new.bus in
    let met = k.step.met in
    let tells = c.a_status_tells_of_its_card.ensures in
    let names = c.rca_argument.ensures.names in
    command_worked c.ask.ensures.asked refl refl kept (
      met,
      k.step.passes,
      told_closing c.args.kind met.card new.card c.ask.result c.check_closing.result
          (k.step.is_card)
          tells.own tells.clean tells.lagging tells.lags_unclean
          (λ told h. ((c.cmd13_tells_the_status.ensures _ _ _ _ k.step.facts).sound told h).1)
          c.check_closing.ensures.clean c.check_closing.ensures.at_work,
    )
    (λ same order app rca.
    let facts = k.step.at_once (still_in old.card Tran order.1.tran refl refl order.1.rests) in
    let told = (c.cmd13_tells_the_status.ensures _ _ _ _ facts).fine same (ap is_identified order.1.tran, app, names ∙ sym rca) in
    told_soon c.args.kind old.card new.card c.ask.result c.check_closing.result k.was_card
    tells.clean tells.lagging tells.lags_unclean told.0 told.1 told.2 told.3 order
    c.check_closing.ensures.all_clean c.check_closing.ensures.all_at_work)
