use Rattle.std.proofs.Common.{arith}
use Rattle.mmc_frame.specs.declared.kind.Kind.TheVariants.{Mmc}
use Rattle.mmc_switch.proofs.SwitchLemmas.{requested}
use Rattle.mmc_switch.proofs.mmc.request.Goals as goal

pub returns-clause-done : goal.returns-clause-done
returns-clause-done g c kept =
    let old = g.B.Bus.view c.args.bus.now in
    let new = g.B.Bus.view c.ask.new.bus in
    let heard = c.ask.result in
    let argument = c.args.argument in
    let e = c.ask.ensures.asked.exchanged in
    let k = e.kept kept in
    let none = c.no_command_but_erase_widens.ensures old.card 6 argument (omega arith)
    (λ is. absurd (omega (arith, is))) in
    requested argument heard c.check_own.result old new none e.lines k
    (λ is after. c.cmd6_switches_an_emmc_device.ensures old new argument heard after (k.step.at_once is))
    (λ told. c.a_status_tells_of_its_card.ensures.errors Mmc told old.card k.was_card) c.check_own.ensures.ok
    c.check_own.ensures.all
