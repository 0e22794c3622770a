use Rattle.std.proofs.Common.{◌∙◌, ◌≡◌, arith, refl, subst, sym}
use Rattle.std.specs.Prelude.{IfOk, IsOk}
use Rattle.mmc_bus.proofs.WorkLemmas.{moved_by}
use Rattle.mmc_card.proofs.Passing.{still_apart}
use Rattle.mmc_card.specs.Made.{IsToldCsd, Made}
use Rattle.mmc_frame.specs.declared.card_state.State.TheVariants.{Stby}
use Rattle.mmc_identify.specs.Judged as judged
use Rattle.mmc_identify.proofs.SingleLemmas.{described_fine, register_own}
use Rattle.mmc_identify.proofs.shared.describe.Goals as goal

pub returns-clause-moves : goal.returns-clause-moves
returns-clause-moves g c kept =
    let old = g.B.Bus.view c.args.bus.now in
    let new = g.B.Bus.view c.ask_register.new.bus in
    let heard = c.ask_register.result in
    let argument = c.rca_argument.result in
    let k = c.ask_register.ensures.asked.exchanged.kept kept in
    let met = k.step.met in
    let made = k.step.made in
    let law = c.cmd9_tells_the_csd.ensures _ _ _ _ k.step.facts (k.step.is_card) in
    let none = c.no_command_but_erase_widens.ensures old.card 9 argument (omega arith) (λ e. cc) in
    let is_rca = c.rca_argument.ensures.names in
    moved_by old 9 argument heard new none k
    (subst (λ r. IfOk r (IsToldCsd old.card.made)) (sym c.told_register.ensures)
    (subst (λ (made : Made). IfOk (judged.told_register heard) (IsToldCsd made)) made
    (register_own IsToldCsd _ met heard new law)))
    (λ same named.
    let rests = still_apart old.card Stby k.was_card named.state refl in
    let tells = c.cmd9_tells_the_csd.ensures _ _ _ _ (k.step.at_once rests) k.was_card in
    let f = described_fine c.args.rca argument old heard new is_rca tells same named in
    (subst IsOk (sym c.told_register.ensures) f.0, f.1))
