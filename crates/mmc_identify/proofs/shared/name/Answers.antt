use Rattle.std.proofs.Common.{◌∙◌, ◌≡◌, arith, refl, subst, sym}
use Rattle.std.specs.Prelude.{IfOk}
use Rattle.mmc_bus.proofs.WorkLemmas.{moved_by}
use Rattle.mmc_card.proofs.Passing.{still_apart}
use Rattle.mmc_card.specs.Made.{Made}
use Rattle.mmc_frame.specs.declared.card_state.State.TheVariants.{Ready}
use Rattle.mmc_identify.specs.Judged as judged
use Rattle.mmc_identify.proofs.SingleLemmas.{named_fine, register_own}
use Rattle.mmc_identify.proofs.shared.name.Goals as goal

pub returns-clause-moves : goal.returns-clause-moves
returns-clause-moves g c kept =
    let old = g.B.Bus.view c.args.bus.now in
    let new = g.B.Bus.view c.ask_register.new.bus in
    let heard = c.ask_register.result in
    let k = c.ask_register.ensures.asked.exchanged.kept kept in
    let met = k.step.met in
    let made = k.step.made in
    let law = c.cmd2_tells_the_cid.ensures _ _ _ _ k.step.facts (k.step.is_card) in
    let none = c.no_command_but_erase_widens.ensures old.card 2 0 (omega arith) (λ e. cc) in
    moved_by old 2 0 heard new none k
    (subst (λ r. IfOk r (λ cid. cid ≡ old.card.made.cid)) (sym c.told_register.ensures)
    (subst (λ (made : Made). IfOk (judged.told_register heard) (λ cid. cid ≡ made.cid)) made
    (register_own (λ made cid. cid ≡ made.cid) _ met heard new law)))
    (λ same ready.
    let rests = still_apart old.card Ready k.was_card ready refl in
    let f = named_fine old heard new (c.cmd2_tells_the_cid.ensures _ _ _ _ (k.step.at_once rests) k.was_card) same ready in
    (c.told_register.ensures ∙ f.0, f.1))
