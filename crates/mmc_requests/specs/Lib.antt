pub mod ChangeLaws
pub mod Changes
pub mod Kinds
pub mod Refusal
pub mod RefusalLaws
