pub mod Beside
pub mod Failures
pub mod Groups
pub mod History
pub mod Order
pub mod Refusals
pub mod Serving
