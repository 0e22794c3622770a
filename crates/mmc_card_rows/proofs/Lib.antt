pub mod ChipLemmas
pub mod StoreLemmas
