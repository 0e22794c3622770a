use Rattle.std.proofs.Common.{◌∙◌, ap, length}
use Rattle.mmc_host.specs.HostStates.{lines_of}
use Rattle.mmc_host.specs.declared.told.HostState.{HostState}
use Rattle.mmc_host.proofs.BusLemmas.{does_read}
use Rattle.mmc_host.proofs.TogetherLemmas.{sets_none}
use Rattle.mmc_host.proofs.host_bus.HostBus.read_next.Goals as goal

pub returns-clause-read : goal.returns-clause-read
returns-clause-read g c =
    let v0 = g.H.Host.view c.args.self.now.host in
    let v1 = g.H.Host.view c.read_block-got.new.self in
    does_read v0 v0 v1 c.args.self.now.wire c.args.self.now.is_misused (length c.args.block.now) c.read_block-got.result
    c.read_block-got.new.block
    (λ kept. ap (λ (s : HostState). lines_of s.ios) (c.args.self.now.told kept)
    ∙ c.can_read.ensures.set c.if-not-can_read.false) (sets_none v0) c.read_block-got.ensures
