use Rattle.std.proofs.Common.{arith}
use Rattle.mmc_bus.proofs.WorkLemmas.{moved_by}
use Rattle.mmc_identify.proofs.SingleLemmas.{idle_reset}
use Rattle.mmc_identify.proofs.shared.go_idle.Goals as goal

pub returns-clause-moves : goal.returns-clause-moves
returns-clause-moves g c kept =
    let old = g.B.Bus.view c.args.bus.now in
    let new = g.B.Bus.view c.tell.new.bus in
    let k = c.tell.ensures.told.exchanged.kept kept in
    let none = c.no_command_but_erase_widens.ensures old.card 0 0 (omega arith) (λ e. cc) in
    moved_by old 0 0 _ new none k tt
    (λ same. let r = c.cmd0_resets_the_card.ensures _ _ _ _ k.step.facts (k.step.quiet same) in
    idle_reset r.0 r.1 k.step.met.card new.card r.2)
