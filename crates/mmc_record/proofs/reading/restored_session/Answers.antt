use Rattle.mmc_record.proofs.NoteLemmas.{says_session}
use Rattle.mmc_record.proofs.reading.restored_session.Goals as goal

pub returns-clause-says : goal.returns-clause-says
returns-clause-says c =
    says_session c.args.note.now c.of.result c.in_ok-info.info c.part_of.result c.in_ok-info.ensures.says c.part_of.ensures
    c.of.ensures
