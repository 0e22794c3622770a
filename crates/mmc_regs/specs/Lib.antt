pub mod Cid
pub mod Csd
pub mod CsdFields
pub mod Ocr
pub mod Register
pub mod Scr
pub mod SwitchStatus
