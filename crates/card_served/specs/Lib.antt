pub mod Faults
pub mod Inputs
pub mod New
pub mod Saved
pub mod Stats
