use Rattle.std.proofs.Common.{rules}
use Rattle.mmc_requests.specs.declared.limits.TheConstants.{ATTEMPTS}
use Rattle.mmc_direct.proofs.RequestLemmas.{has_read}
use Rattle.mmc_direct.proofs.requests.read.Goals as goal

pub returns-clause-served : goal.returns-clause-served
returns-clause-served g c kept at =
    let reading = c.serve.new.request in
    let left = c.serve.ensures.leaves in
    has_read ATTEMPTS c.args.part reading.part c.args.start reading.start _ (g.D.Blocks.blocks reading.blocks.now)
    (g.B.Bus.view c.args.bus.now) c.serve.result (g.B.Bus.view c.serve.new.bus) left.0 left.1 (search rules)
    (c.serve.ensures.served kept at)
