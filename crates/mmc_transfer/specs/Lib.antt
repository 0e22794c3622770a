pub mod Commands
pub mod First
pub mod Fits
pub mod Moves
pub mod Next
pub mod Run
pub mod Running
pub mod Whole
