pub mod Accepted
pub mod Cancelled
pub mod Search
pub mod Served
pub mod Slots
pub mod Started
pub mod Work
