use Rattle.std.proofs.Common.{◌∙◌, ◌≡◌, ap, arith, inl, refl, subst, sym}
use Rattle.std.specs.Prelude.{IfOk}
use Rattle.mmc_bus.proofs.WorkLemmas.{moved_by}
use Rattle.mmc_card.proofs.Passing.{still_apart}
use Rattle.mmc_card.specs.Made.{Made}
use Rattle.mmc_frame.specs.declared.card_state.State.TheVariants.{Ident}
use Rattle.mmc_identify.proofs.SingleLemmas.{published_fine, published_own}
use Rattle.mmc_identify.proofs.sd.publish.Goals as goal

pub returns-clause-moves : goal.returns-clause-moves
returns-clause-moves g c kept =
    let old = g.B.Bus.view c.args.bus.now in
    let new = g.B.Bus.view c.ask.new.bus in
    let heard = c.ask.result in
    let k = c.ask.ensures.asked.exchanged.kept kept in
    let met = k.step.met in
    let is_card = k.step.is_card in
    let made = k.step.made in
    let law = c.cmd3_publishes_the_rca.ensures in
    let none = c.no_command_but_erase_widens.ensures old.card 3 0 (omega arith) (λ e. cc) in
    moved_by old 3 0 heard new none k
    (λ sd. subst (λ r. IfOk r (λ rca. rca ≡ new.card.rca)) (sym c.published.ensures)
    (published_own met heard new (law.does _ _ _ _ k.step.facts is_card (ap (λ (m : Made). m.kind) made ∙ sd))))
    (λ same profile sd ident.
    let facts = k.step.at_once (still_apart old.card Ident k.was_card ident refl) in
    published_fine old heard new c.published.result c.published.ensures (law.does _ _ _ _ facts k.was_card sd) same ident
    (law.named _ _ _ _ facts k.was_card sd (profile.sd sd).named same (inl ident)))
