pub mod Checked
pub mod Faults
pub mod Printed
