use Rattle.std.proofs.Common.{refl}
use Rattle.mmc_record.proofs.NoteLemmas.{card_checks}
use Rattle.mmc_record.proofs.noted.note.Goals as goal

pub returns-clause-of_a_card : goal.returns-clause-of_a_card
returns-clause-of_a_card c limits made registers is = record {
  session = c.args.session.now;
  says = c.noted.ensures.says (card_checks limits made c.args.session.now.info registers is);
  how = rw c.noted.ensures.state refl;
}

pub returns-clause-checked : goal.returns-clause-checked
returns-clause-checked c checks = record {
  session = c.args.session.now;
  says = c.noted.ensures.says checks;
  how = rw c.noted.ensures.state refl;
}
