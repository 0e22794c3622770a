pub mod Entry
pub mod Noted
pub mod Steps
pub mod Story
pub mod Transfers
pub mod Untrue
pub mod Conforming
