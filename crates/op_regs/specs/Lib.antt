pub mod Homes
pub mod Intervals
pub mod Lines
pub mod Liveness
pub mod Marking
pub mod Scanning
pub mod Tables
