use Rattle.mmc_switch.proofs.InitializeLemmas.{widens_none, widens_so}
use Rattle.mmc_switch.specs.declared.initialization.InitializationFault.TheVariants.{Widening}
use Rattle.mmc_switch.proofs.initialization.initialize.Goals as goal

pub returns-in-Err-widen-clause-moves : goal.returns-in-Err-widen-clause-moves
returns-in-Err-widen-clause-moves g c kept =
    let widens = c.in-Err-widen.ensures.moves kept in
    widens_none c.in-Ok.found (g.B.Bus.view c.args.bus.now) (g.B.Bus.view c.identify.new.bus)
    (g.B.Bus.view c.widen.new.bus) c.identify.ensures.lines (c.in-Ok.ensures.moves widens.was_kept)
    (Widening c.in-Err-widen.fault) widens

pub returns-in-Ok-widen-clause-moves : goal.returns-in-Ok-widen-clause-moves
returns-in-Ok-widen-clause-moves g c kept =
    let widens = c.in-Ok-widen.ensures.moves kept in
    widens_so c.in-Ok.found (g.B.Bus.view c.args.bus.now) (g.B.Bus.view c.identify.new.bus)
    (g.B.Bus.view c.widen.new.bus) c.identify.ensures.lines (c.in-Ok.ensures.moves widens.was_kept)
    c.in-Ok-widen.session widens
