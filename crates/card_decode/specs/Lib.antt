pub mod Capacities
pub mod Digits
pub mod Fields
pub mod Reading
pub mod Registers
pub mod Summaries
pub mod Tables
pub mod Words
