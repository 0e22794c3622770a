pub mod AttemptLemmas
pub mod CauseLemmas
pub mod HealingLemmas
pub mod NotedLemmas
pub mod RefusalLemmas
pub mod RequestLemmas
pub mod TriesLemmas
