pub mod ByteLemmas
pub mod FieldLemmas
pub mod ReadLemmas
pub mod SummaryLemmas
pub mod WordLemmas
