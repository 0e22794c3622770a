use Rattle.std.proofs.Common.{◌∙◌, ap, arith, false, refl, sym}
use Rattle.mmc_bus.proofs.WorkLemmas.{moved_by}
use Rattle.mmc_card.proofs.Passing.{still_apart}
use Rattle.mmc_card.specs.Made.{Made}
use Rattle.mmc_frame.specs.declared.card_state.State.TheVariants.{Idle}
use Rattle.mmc_identify.specs.Stages.{ready_ocr}
use Rattle.mmc_identify.proofs.InquiryLemmas.{inquiry_fine, inquiry_own}
use Rattle.mmc_identify.proofs.mmc.inquire.Goals as goal

pub returns-clause-moves : goal.returns-clause-moves
returns-clause-moves g c kept =
    let old = g.B.Bus.view c.args.bus.now in
    let new = g.B.Bus.view c.ask_ocr.new.bus in
    let k = c.ask_ocr.ensures.asked.exchanged.kept kept in
    let met = k.step.met in
    let is_card = k.step.is_card in
    let made = sym k.step.made in
    let law = c.cmd1_asks_an_emmc_device_whether_it_is_ready.ensures in
    moved_by old 1 0x40300000 c.ask_ocr.result new
    (c.no_command_but_erase_widens.ensures old.card 1 0x40300000 (omega arith) (λ e. absurd (omega (arith, e)))) k
    (λ ocr ok.
    let told = inquiry_own met c.ask_ocr.result new c.inquired.result c.inquired.ensures is_card
    (law _ _ _ _ k.step.facts is_card) ocr ok in
    (ap (λ (m : Made). m.kind) made ∙ told.0.0, told.1 ∙ ap ready_ocr (sym made)))
    (λ same times profile mmc idle.
    inquiry_fine false false times old c.ask_ocr.result new c.inquired.result c.inquired.ensures k.was_card
    (law _ _ _ _ (k.step.at_once (still_apart old.card Idle k.was_card idle.state refl)) k.was_card) same
    (mmc, idle.state) tt profile idle)
