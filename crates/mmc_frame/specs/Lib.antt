pub mod Check
pub mod Field
pub mod Flips
pub mod Frame
pub mod RegisterFrame
pub mod ResponseFields
pub mod Status
pub mod StatusBits
