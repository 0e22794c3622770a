use Rattle.std.proofs.Common.{arith}
use Rattle.mmc_switch.proofs.BlockLengthLemmas.{length_set}
use Rattle.mmc_switch.proofs.widening.set_block_length.Goals as goal

pub returns-clause-moves : goal.returns-clause-moves
returns-clause-moves g c kept =
    let old = g.B.Bus.view c.args.bus.now in
    let new = g.B.Bus.view c.ask.new.bus in
    let heard = c.ask.result in
    let kind = c.args.kind in
    let e = c.ask.ensures.asked.exchanged in
    let k = e.kept kept in
    let none = c.no_command_but_erase_widens.ensures old.card 16 512 (omega arith)
    (λ is. absurd (omega (arith, is))) in
    length_set kind heard c.check_own.result old new none e.lines k
    (λ is. c.cmd16_sets_the_block_length.ensures.does old new heard (k.step.at_once is))
    (λ told. c.a_status_tells_of_its_card.ensures.errors kind told old.card k.was_card) c.check_own.ensures.ok
    c.check_own.ensures.all
