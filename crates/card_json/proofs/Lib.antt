pub mod FieldLemmas
pub mod ObjectLemmas
pub mod WordLemmas
