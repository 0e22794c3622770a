use Rattle.mmc_card.proofs.JudgedLemmas.{told_at_end, told_at_work, told_clean, told_errors, told_lock, told_own, told_state}
use Rattle.mmc_card.proofs.JudgedLemmas.{told_unclean}
use Rattle.mmc_card.proofs.card_laws.a_status_tells_of_its_card.Goals as goal

pub returns : goal.returns
returns c = record {
  state = told_state;
  errors = told_errors;
  own = told_own;
  clean = told_clean;
  at_end = told_at_end;
  lagging = told_at_work;
  lags_unclean = told_unclean;
  locked = told_lock;
}
