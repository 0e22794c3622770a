pub mod Chunks
pub mod SectorLists
