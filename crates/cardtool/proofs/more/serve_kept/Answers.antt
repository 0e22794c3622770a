use Rattle.std.proofs.Common.{◌≡◌, ap, subst, true}
use Rattle.std.proofs.Common.{None}
use Rattle.cardtool.specs.Whole.{IsServedOver}
use Rattle.cardtool.proofs.more.serve_kept.Goals as goal

pub returns : goal.returns
returns g c = λ kept decided.
    rw c.into_inner-bus.ensures
    (subst (λ b. IsServedOver (g.B.Bus.view b) (g.B.Bus.view c.serve_counting-bus.result.0.bus) c.args.script None
    (g.W.Write.contents c.args.out.now) (g.W.Write.contents c.serve_counting-bus.new.out) c.serve_counting-bus.result.2)
    (ap (λ t. t.bus) c.in-Ok.ensures.ok) c.serve_counting-bus.ensures.served
    (subst (λ b. (g.B.Bus.view b).is_kept ≡ true) c.into_inner-bus.ensures kept) decided)
