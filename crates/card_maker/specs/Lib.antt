pub mod CardText
pub mod FileLines
pub mod NewExtCsd
pub mod NewRegisters
pub mod Plain
pub mod Sizes
pub mod Wanted
