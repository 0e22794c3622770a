use Rattle.std.proofs.Common.{◌∙◌, arith, refl}
use Rattle.mmc_bus.proofs.WorkLemmas.{moved_by}
use Rattle.mmc_card.proofs.Passing.{still_apart}
use Rattle.mmc_frame.specs.declared.card_state.State.TheVariants.{Ident}
use Rattle.mmc_identify.proofs.SingleLemmas.{assigned_fine}
use Rattle.mmc_identify.proofs.mmc.assign.Goals as goal

pub returns-clause-moves : goal.returns-clause-moves
returns-clause-moves g c kept =
    let old = g.B.Bus.view c.args.bus.now in
    let new = g.B.Bus.view c.ask.new.bus in
    let heard = c.ask.result in
    let k = c.ask.ensures.asked.exchanged.kept kept in
    let none = c.no_command_but_erase_widens.ensures old.card 3 0x10000 (omega arith) (λ e. cc) in
    moved_by old 3 0x10000 heard new none k tt
    (λ same mmc ident.
    let facts = k.step.at_once (still_apart old.card Ident k.was_card ident refl) in
    let f = assigned_fine old heard new (c.cmd3_gives_the_rca.ensures _ _ _ _ facts k.was_card mmc) same ident in
    (c.assigned.ensures ∙ f.0, f.1))
