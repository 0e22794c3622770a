use Rattle.std.proofs.Common.{refl, ◌/◌}
use Rattle.card_maker.specs.declared.card.TheConstants.{MMC_CID}
use Rattle.card_maker.proofs.MadeLemmas.{mmc_sectors_wanted}
use Rattle.card_maker.proofs.card.mmc_by_sectors.Goals as goal

pub returns-clause-wanted : goal.returns-clause-wanted
returns-clause-wanted c =
    let wanted = c.args.wanted.now in
    mmc_sectors_wanted wanted c.mmc_registers.result MMC_CID (wanted.boot / 256) (wanted.gp / 1024) c.csd_mmc-csd.result
    c.ext_csd-block.result c.requires.beside c.requires.count refl refl c.csd_mmc-csd.ensures c.ext_csd-block.ensures
    c.mmc_registers.ensures
