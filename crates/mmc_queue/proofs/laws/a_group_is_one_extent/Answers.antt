use Rattle.mmc_queue.proofs.JoinedLemmas.{just_named, last_member, member_alike, member_within, extent_inside, some_sector}
use Rattle.mmc_queue.proofs.laws.a_group_is_one_extent.Goals as goal

pub returns : goal.returns
returns c members extent joined = record {
  some = some_sector members extent joined;
  inside = extent_inside members extent joined;
  named = just_named members extent joined;
  within = member_within members extent joined;
  alike = member_alike members extent joined;
  last = last_member members extent joined;
}
