use Rattle.card_maker.specs.declared.card.TheConstants.{SD_CID}
use Rattle.card_maker.proofs.CountLemmas.{byte_count_most}
use Rattle.card_maker.proofs.MadeLemmas.{sd_bytes_wanted}
use Rattle.card_maker.proofs.card.sd_by_bytes.Goals as goal

pub returns-clause-wanted : goal.returns-clause-wanted
returns-clause-wanted c =
    let wanted = c.args.wanted.now in
    let blocks = c.blocks_of-blocks.result in
    sd_bytes_wanted wanted c.sd_registers.result c.sd_classes-classes.result blocks.read_bl_len blocks.c_size
    blocks.c_size_mult SD_CID c.csd_v1-csd.result c.requires.beside c.blocks_of-blocks.ensures
    (byte_count_most wanted.sectors c.requires.count) c.sd_classes-classes.ensures c.csd_v1-csd.ensures c.sd_registers.ensures
