pub mod ByteLemmas
pub mod NoteLemmas
