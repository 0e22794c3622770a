use Rattle.std.proofs.Common.{◌∙◌, ap, arith, refl, sym}
use Rattle.mmc_bus.proofs.WorkLemmas.{moved_by}
use Rattle.mmc_card.proofs.Passing.{still_apart}
use Rattle.mmc_card.specs.Made.{Made}
use Rattle.mmc_frame.specs.declared.card_state.State.TheVariants.{Idle}
use Rattle.mmc_identify.proofs.InquiryLemmas.{announced, answered_by_sd}
use Rattle.mmc_identify.proofs.sd.announce.Goals as goal

pub returns-clause-moves : goal.returns-clause-moves
returns-clause-moves g c kept =
    let old = g.B.Bus.view c.args.bus.now in
    let new = g.B.Bus.view c.ask.new.bus in
    let k = c.ask.ensures.asked.exchanged.kept kept in
    let met = k.step.met in
    let law = c.cmd55_announces_an_application_command.ensures.idle in
    let expects = law _ _ _ _ k.step.facts (k.step.is_card) in
    moved_by old 55 0 c.ask.result new
    (c.no_command_but_erase_widens.ensures old.card 55 0 (omega arith) (λ e. absurd (omega (arith, e)))) k
    (λ ok. ap (λ (m : Made). m.kind) (sym k.step.made)
    ∙ answered_by_sd met c.ask.result new c.answered.result c.answered.ensures expects ok)
    (λ same accepted times idle.
    let facts = k.step.at_once (still_apart old.card Idle k.was_card idle.state refl) in
    announced old c.ask.result new c.answered.result c.answered.ensures k.was_card (law _ _ _ _ facts k.was_card)
    (c.a_command_to_another_card_changes_nothing.ensures.app_cmd _ _ _ _ facts) same accepted times idle)
