pub mod Moves
pub mod Shown
pub mod Waiting
