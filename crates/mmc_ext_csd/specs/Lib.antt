pub mod ExtCsd
pub mod Partition
