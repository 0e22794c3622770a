use Rattle.std.proofs.Common.{arith, refl}
use Rattle.mmc_bus.proofs.WorkLemmas.{moved_by}
use Rattle.mmc_card.proofs.Passing.{still_apart}
use Rattle.mmc_frame.specs.declared.card_state.State.TheVariants.{Idle}
use Rattle.mmc_identify.proofs.InquiryLemmas.{probed}
use Rattle.mmc_identify.proofs.sd.probe.Goals as goal

pub returns-clause-moves : goal.returns-clause-moves
returns-clause-moves g c kept =
    let old = g.B.Bus.view c.args.bus.now in
    let new = g.B.Bus.view c.ask.new.bus in
    let k = c.ask.ensures.asked.exchanged.kept kept in
    let law = c.cmd8_is_repeated_by_a_card_that_knows_it.ensures in
    moved_by old 8 0x1aa c.ask.result new
    (c.no_command_but_erase_widens.ensures old.card 8 0x1aa (omega arith) (λ e. absurd (omega (arith, e)))) k tt
    (λ same idle.
    let facts = k.step.at_once (still_apart old.card Idle k.was_card idle.state refl) in
    probed old c.ask.result new c.echoed.result c.echoed.ensures (
      λ sd. law.does _ _ _ _ facts k.was_card sd refl,
      λ sd unknown. law.unknown _ _ _ _ facts k.was_card sd unknown,
      λ mmc. law.mmc _ _ _ _ facts k.was_card mmc,
    ) same idle)
