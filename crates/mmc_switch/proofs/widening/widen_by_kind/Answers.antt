use Rattle.mmc_frame.specs.declared.kind.Kind.TheVariants.{Mmc, Sd}
use Rattle.mmc_switch.proofs.WidenLemmas.{by_kind}
use Rattle.mmc_switch.proofs.widening.widen_by_kind.Goals as goal

pub returns-in-Sd-clause-moves : goal.returns-in-Sd-clause-moves
returns-in-Sd-clause-moves g c kept =
    by_kind Sd c.args.found.now c.widen.result (g.B.Bus.view c.args.bus.now) (g.B.Bus.view c.widen.new.bus) c.in-Sd.is
    (c.widen.ensures.moves kept)

pub returns-in-Mmc-clause-moves : goal.returns-in-Mmc-clause-moves
returns-in-Mmc-clause-moves g c kept =
    by_kind Mmc c.args.found.now c.widen-in-Mmc.result (g.B.Bus.view c.args.bus.now)
    (g.B.Bus.view c.widen-in-Mmc.new.bus) c.in-Mmc.is (c.widen-in-Mmc.ensures.moves kept)
