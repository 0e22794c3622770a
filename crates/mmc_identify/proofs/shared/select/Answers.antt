use Rattle.std.proofs.Common.{arith, refl, subst, sym}
use Rattle.std.specs.Prelude.{IsOk}
use Rattle.mmc_bus.proofs.WorkLemmas.{moved_by}
use Rattle.mmc_card.proofs.Passing.{still_apart}
use Rattle.mmc_frame.specs.declared.card_state.State.TheVariants.{Stby}
use Rattle.mmc_identify.proofs.SingleLemmas.{selected_fine, selected_own}
use Rattle.mmc_identify.proofs.shared.select.Goals as goal

pub returns-clause-moves : goal.returns-clause-moves
returns-clause-moves g c kept =
    let old = g.B.Bus.view c.args.bus.now in
    let new = g.B.Bus.view c.ask.new.bus in
    let heard = c.ask.result in
    let rca = c.args.rca in
    let argument = c.rca_argument.result in
    let k = c.ask.ensures.asked.exchanged.kept kept in
    let met = k.step.met in
    let is_card = k.step.is_card in
    let law = c.cmd7_selects_the_card.ensures _ _ _ _ k.step.facts is_card in
    let none = c.no_command_but_erase_widens.ensures old.card 7 argument (omega arith) (λ e. cc) in
    let is_rca = c.rca_argument.ensures.names in
    moved_by old 7 argument heard new none k
    (λ ok. selected_own rca argument met heard new is_rca is_card law (subst IsOk c.selected.ensures ok))
    (λ same profile named.
    let rests = still_apart old.card Stby k.was_card named.state refl in
    let f = selected_fine rca argument old heard new is_rca c.a_status_tells_of_its_card.ensures.locked
    k.was_card profile (c.cmd7_selects_the_card.ensures _ _ _ _ (k.step.at_once rests) k.was_card) same named in
    (subst IsOk (sym c.selected.ensures) f.0, f.1))
