pub mod Agrees
pub mod Serving
pub mod Steps
