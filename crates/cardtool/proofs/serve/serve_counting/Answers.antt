use Rattle.std.proofs.Common.{◌-◌}
use Rattle.mmc_card.specs.Card.{holds}
use Rattle.cardtool.proofs.WholeLemmas.{bounded_device, is_served, kept_at_end, served_device, unopened, unwritten}
use Rattle.cardtool.proofs.serve.serve_counting.Goals as goal

pub returns-clause-served : goal.returns-clause-served
returns-clause-served g c = λ kept decided.
    let o = c.in-Ok.ensures in
    let first = g.B.Bus.view c.args.bus in
    let last = g.B.Bus.view c.close-bus.result in
    let laws = c.an_execution_has_its_laws.ensures in
    let serves = c.play-served.ensures.serves (kept_at_end g.B.Bus.view _ _ c.close-bus.ensures.bus kept) in
    rw c.outcome.ensures (
      bounded_device g.B.Bus.view c.in-Ok.device c.play-served.new.device c.args.bus c.close-bus.result o.info o.ok.0
          o.ok.1 o.stays o.machine c.play-served.ensures.later_device c.close-bus.ensures.bus
          c.close-bus.ensures.agrees kept _ _ _ c.play-served.result serves,
      is_served g.B.Bus.view c.in-Ok.device c.play-served.new.device first.limits first.card.made (holds first.card) (holds last.card)
          (last.faults - first.faults) laws decided
          (served_device g.B.Bus.view c.in-Ok.device c.play-served.new.device c.args.bus c.close-bus.result o.info o.ok.0
          o.ok.1 o.stays o.machine c.play-served.ensures.later_device c.close-bus.ensures.bus
          c.close-bus.ensures.agrees kept)
          c.args.script _ _ c.play-served.result serves,
    )

pub returns-in-Err-clause-served : goal.returns-in-Err-clause-served
returns-in-Err-clause-served g c = λ kept decided.
    let e = c.in-Err.ensures in
    rw c.from.ensures (
      (e.stays kept).0.bounded,
      unopened g.B.Bus.view c.args.bus c.in-Err.bus _ (g.W.Write.contents c.args.out.now) c.in-Err.fault e.no_memory
          (e.stays kept).1 (e.refused kept),
    )

pub returns-clause-unwritten : goal.returns-clause-unwritten
returns-clause-unwritten g c = rw c.outcome.ensures (unwritten _ _ c.play-served.result)
