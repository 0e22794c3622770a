pub mod HeldSlice
pub mod MovedLemmas
pub mod Runs
pub mod TakenLemmas
pub mod WritesLemmas
