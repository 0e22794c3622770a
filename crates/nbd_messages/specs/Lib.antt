pub mod Numbers
pub mod Options
pub mod Replies
pub mod Requests
