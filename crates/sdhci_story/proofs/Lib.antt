pub mod ConformingLemmas
pub mod Telling
