pub mod FrameLemmas
pub mod StatusLemmas
