pub mod Acts
pub mod Filling
pub mod Quick
pub mod Region
pub mod Registers
pub mod Rows
pub mod Runs
pub mod Segments
