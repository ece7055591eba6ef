pub mod Beside
pub mod Matching
pub mod Path
pub mod Slowed
pub mod System
