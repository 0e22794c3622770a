pub mod Hex
pub mod Pieces
pub mod Repeats
pub mod Writing
