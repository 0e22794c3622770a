use Rattle.std.proofs.Common.{◌∙◌, ap}
use Rattle.mmc_host.specs.HostStates.{lines_of}
use Rattle.mmc_host.specs.declared.told.HostState.{HostState}
use Rattle.mmc_host.proofs.BusLemmas.{does_write}
use Rattle.mmc_host.proofs.TogetherLemmas.{sets_none}
use Rattle.mmc_host.proofs.host_bus.HostBus.write_next.Goals as goal

pub returns-clause-written : goal.returns-clause-written
returns-clause-written g c =
    let v0 = g.H.Host.view c.args.self.now.host in
    let v1 = g.H.Host.view c.write_block-got.new.self in
    does_write v0 v0 v1 c.args.self.now.wire c.args.self.now.is_misused c.args.block.now c.write_block-got.result
    (λ kept. ap (λ (s : HostState). lines_of s.ios) (c.args.self.now.told kept)
    ∙ c.can_write.ensures.set c.if-not-can_write.false) (sets_none v0) c.write_block-got.ensures
