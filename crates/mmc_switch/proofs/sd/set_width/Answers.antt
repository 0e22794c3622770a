use Rattle.std.proofs.Common.{refl, sym}
use Rattle.mmc_switch.proofs.SdLemmas.{four_set}
use Rattle.mmc_switch.proofs.sd.set_width.Goals as goal

pub returns-in_ok-use_four_lines-clause-moves : goal.returns-in_ok-use_four_lines-clause-moves
returns-in_ok-use_four_lines-clause-moves g c card kept =
    four_set c.args.rca c.args.scr c.limits.result (g.B.Bus.view c.args.bus.now) (g.B.Bus.view c.use_four_lines.new.bus)
    c.limits.ensures (c.if-has_four_lines.ensures.0 refl) (sym c.if-ne.ensures)
    (c.in_ok-use_four_lines.ensures.moves kept)
