use Rattle.std.proofs.Common.{◌-◌, None, length, subst}
use Rattle.std.proofs.lemmas.List.Elements.{All-drop}
use Rattle.mmc_bus.specs.Trace.{HasItsFrame, last_of}
use Rattle.cardtool.specs.Whole.{IsServed}
use Rattle.cardtool.proofs.TraceLemmas.{handed_on, kept_few, with_trace}
use Rattle.cardtool.proofs.trace.end_with_trace.Goals as goal

pub returns-in_err-status-clause-served : goal.returns-in_err-status-clause-served
returns-in_err-status-clause-served g c =
    λ l i before later fell es start served.
    handed_on l i before later fell es c.args.n start _ c.in_err-status.field-0.0 c.from_residual.result
    c.from_residual.ensures.1
    (subst (λ r. IsServed l i before later fell es None start (g.W.Write.contents c.args.out.now) r)
    c.in_err-status.was served)

pub returns-clause-served : goal.returns-clause-served
returns-clause-served g c =
    λ l i before later fell es start served.
    let kept = c.args.bus.now.exchanges in
    rw c.ended.ensures
    (with_trace l i before later fell es c.args.n (last_of c.args.n kept) start _ _ c.in_ok-status.status
    c.put_trace-printed.result (kept_few c.args.n kept)
    (All-drop HasItsFrame (length kept - c.args.n) kept c.put_trace-printed.ensures.framed)
    (subst (λ r. IsServed l i before later fell es None start (g.W.Write.contents c.args.out.now) r)
    c.in_ok-status.was served)
    c.put_trace-printed.ensures.written)
