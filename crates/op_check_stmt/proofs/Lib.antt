pub mod Apart
pub mod Law
pub mod Parts
pub mod Rows
