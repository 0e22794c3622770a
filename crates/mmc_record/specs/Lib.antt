pub mod Note
pub mod Numbers
