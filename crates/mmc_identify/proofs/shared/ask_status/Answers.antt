use Rattle.std.proofs.Common.{Ok, ℕ, ◌∙◌, ◌≡◌, ap, arith, refl, subst, sym}
use Rattle.mmc_bus.proofs.ClosingLemmas.{told_closing, told_soon}
use Rattle.mmc_bus.proofs.WorkLemmas.{moved_by}
use Rattle.mmc_card.proofs.Passing.{still, still_in}
use Rattle.mmc_card.specs.BusView.{BusView}
use Rattle.mmc_card.specs.Card.{is_identified}
use Rattle.mmc_frame.specs.declared.card_state.State.TheVariants.{Tran}
use Rattle.mmc_bus.specs.Closings.{Closes}
use Rattle.mmc_identify.proofs.SingleLemmas.{closing_fine, closing_own, looks_in_time, resting_in_order, told_unlocked}
use Rattle.mmc_identify.proofs.shared.ask_status.Goals as goal
use Rattle.mmc_bus.proofs.CommandLemmas.{same_ok}
use Rattle.mmc_frame.specs.Field.{field}

pub returns-clause-moves : goal.returns-clause-moves
returns-clause-moves g c kept =
    let old = g.B.Bus.view c.args.bus.now in
    let new = g.B.Bus.view c.ask.new.bus in
    let kind = c.args.kind in
    let rca = c.args.rca in
    let argument = c.rca_argument.result in
    let k = c.ask.ensures.asked.exchanged.kept kept in
    let met = k.step.met in
    let law = c.cmd13_tells_the_status.ensures _ _ _ _ k.step.facts in
    let tells = c.a_status_tells_of_its_card.ensures in
    let judged = c.confirmed.ensures in
    let none = c.no_command_but_erase_widens.ensures old.card 13 argument (omega arith) (λ e. cc) in
    let closes = told_closing kind met.card new.card c.ask.result c.confirmed.result (k.step.is_card)
    tells.own tells.clean tells.lagging tells.lags_unclean (λ told h. (law.sound told h).1) judged.clean judged.at_work in
    moved_by old 13 argument c.ask.result new none k
    (λ looks. closing_own rca kind met.card new.card c.confirmed.result closes (looks_in_time rca old met k.step.passes looks))
    (λ same profile of waits resting.
    let is = resting.selected in
    let rests = still_in old.card Tran is.state refl refl resting.rests in
    let told = (c.cmd13_tells_the_status.ensures _ _ _ _ (k.step.at_once rests)).fine same (ap is_identified is.state, is.app, c.rca_argument.ensures.names ∙ sym is.is_rca) in
    let unlocked = told_unlocked rca told.0 old.card new.card is profile tells.locked told.2 in
    let only : (n : ℕ) → c.ask.result ≡ Ok n → n ≡ told.0 = λ n h. same_ok n told.0 (sym h ∙ told.1) in
    let soon = told_soon kind old.card new.card c.ask.result c.confirmed.result k.was_card tells.clean tells.lagging
    tells.lags_unclean told.0 told.1 told.2 told.3 (of, resting_in_order rca waits kind old.card resting)
    (λ n h clean. judged.all_clean n h (ap (field 25 25) (only n h) ∙ unlocked) clean)
    (λ n h unclean works. judged.all_at_work n h (ap (field 25 25) (only n h) ∙ unlocked) unclean works) in
    closing_fine rca waits kind old.card new.card c.confirmed.result
    (subst (λ (v : BusView). Closes kind c.confirmed.result v.card new.card) (still old met rests k.step.passes) closes) soon resting)
