pub mod Access
pub mod Noted
pub mod RegisterStory
pub mod Conforming
