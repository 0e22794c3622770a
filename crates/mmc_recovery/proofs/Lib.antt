pub mod OrderLemmas
pub mod ReopenLemmas
pub mod SettleLemmas
