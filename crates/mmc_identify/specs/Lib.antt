pub mod Judged
pub mod Stages
