use Rattle.card_check.proofs.KnowledgeLemmas.{sizes_known}
use Rattle.card_check.proofs.knowledge.addressable.Goals as goal

pub returns-clause-sizes : goal.returns-clause-sizes
returns-clause-sizes c made exist part =
    sizes_known _ c.args.sizes.now c.args.addressing
    (record {
      user = c.existing_sectors.ensures;
      boot = c.existing_sectors-2.ensures;
      gp1 = c.existing_sectors-3.ensures;
      gp2 = c.existing_sectors-4.ensures;
      gp3 = c.existing_sectors-5.ensures;
      gp4 = c.existing_sectors-6.ensures;
    }) made exist part
