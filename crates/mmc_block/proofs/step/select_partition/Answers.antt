use Rattle.std.proofs.Common.{arith}
use Rattle.mmc_block.specs.Service.{lasting_of}
use Rattle.mmc_block.proofs.BeginLemmas.{run_exists}
use Rattle.mmc_block.proofs.StepLemmas.{broken_did, ready_did}
use Rattle.mmc_block.proofs.step.select_partition.Goals as goal

pub select-requires : goal.select-requires
select-requires g c = record {
  exists = run_exists (lasting_of c.args.session) c.args.group.now c.requires.servable
      (c.a_group_is_one_extent.ensures _ _ c.requires.joined);
}

pub returns-in-Ok-clause-did : goal.returns-in-Ok-clause-did
returns-in-Ok-clause-did g c kept ready =
    ready_did _ c.args.group.now _ c.in-Ok.session _ _ (c.in-Ok.ensures.stays kept ready) (c.in-Ok.ensures.ready kept ready)

pub returns-in-Err-clause-did : goal.returns-in-Err-clause-did
returns-in-Err-clause-did g c kept ready =
    let is_broken = c.in-Err.ensures.is_broken kept ready in
    let fell = is_broken.1 in
    broken_did _ c.args.group.now _ c.in-Err.broken _ _ (c.in-Err.ensures.stays kept ready) is_broken.0
    (λ made. omega (arith, fell))
