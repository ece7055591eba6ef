pub mod LinkedLines
pub mod Segments
