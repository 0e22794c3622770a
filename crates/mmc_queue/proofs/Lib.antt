pub mod ConflictLemmas
mod CountLemmas
mod FairLemmas
mod FindLemmas
mod GrowLemmas
mod JoinedLemmas
mod LendingLemmas
mod LentLemmas
mod MapLemmas
mod MemberLemmas
mod MirrorLemmas
mod OrderLemmas
mod PlaceLemmas
mod SearchLemmas
mod SetLemmas
