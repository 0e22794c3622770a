pub mod CheckedLemmas
pub mod CsdLemmas
