use Rattle.mmc_card.proofs.Passing.{card_in_time, counts_in_time, keeps_in_time, stands_in_time, still, unmoved_by_time}
use Rattle.mmc_card.proofs.laws.time_leaves_a_still_card_as_it_is.Goals as goal

pub returns : goal.returns
returns c = record {
  still = still;
  card = card_in_time;
  narrows = λ old met passes. (keeps_in_time old met passes).narrows;
  stands = stands_in_time;
  errors = λ old met passes. (unmoved_by_time old met passes).errors;
  counts = counts_in_time;
}
