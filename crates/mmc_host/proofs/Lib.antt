pub mod BusLemmas
pub mod DataLemmas
pub mod TableLemmas
pub mod TogetherLemmas
pub mod WireLemmas
