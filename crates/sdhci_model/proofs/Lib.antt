pub mod Accessing
pub mod Coming
pub mod Commanding
pub mod Dropping
pub mod Going
pub mod Lengths
pub mod Moving
pub mod Telling
