pub mod Commands
pub mod Fits
pub mod Job
pub mod Run
pub mod Running
pub mod Whole
