pub mod Healed
pub mod Settled
