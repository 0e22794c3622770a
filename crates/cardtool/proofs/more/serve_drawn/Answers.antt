use Rattle.std.proofs.Common.{subst, sym}
use Rattle.cardtool.specs.More.{trace_of}
use Rattle.cardtool.specs.Whole.{IsServedOver}
use Rattle.cardtool.proofs.more.serve_drawn.Goals as goal

pub returns : goal.returns
returns g c =
    let old = g.W.Write.contents c.args.out.now in
    let new = g.W.Write.contents c.serve_shown-bus.new.out in
    let status = c.serve_shown-bus.result.status in
    subst (λ first. IsServedOver (g.B.Bus.view first)
    (g.B.Bus.view c.into_parts-bus.result.0) c.args.script (trace_of c.args.shown) old new status)
    c.wave_bus.ensures.bus
    (subst (λ last. IsServedOver (g.B.Bus.view c.wave_bus.result.bus) (g.B.Bus.view last) c.args.script
    (trace_of c.args.shown) old new status)
    (sym c.into_parts-bus.ensures.bus) c.serve_shown-bus.ensures)
