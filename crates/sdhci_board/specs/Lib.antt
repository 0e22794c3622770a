pub mod Accesses
pub mod Boards
