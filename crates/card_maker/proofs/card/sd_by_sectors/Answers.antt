use Rattle.std.proofs.Common.{refl, ◌/◌, ◌-◌}
use Rattle.card_maker.specs.declared.card.TheConstants.{SD_CID}
use Rattle.card_maker.proofs.MadeLemmas.{sd_sectors_wanted}
use Rattle.card_maker.proofs.card.sd_by_sectors.Goals as goal

pub returns-clause-wanted : goal.returns-clause-wanted
returns-clause-wanted c =
    let wanted = c.args.wanted.now in
    sd_sectors_wanted wanted c.sd_registers.result c.sd_classes-classes.result (wanted.sectors / 1024 - 1) SD_CID
    c.csd_v2-csd.result c.requires.beside c.requires.count c.sd_classes-classes.ensures refl c.csd_v2-csd.ensures
    c.sd_registers.ensures
