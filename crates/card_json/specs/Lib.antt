pub mod Answers
pub mod Exchanges
pub mod Fields
pub mod Objects
pub mod Words
